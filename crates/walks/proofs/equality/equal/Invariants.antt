use Rattle.std.proofs.Common.{◌≡◌, ◌∷◌, reverse}
use Rattle.trees.specs.Equal.{equal}
use Rattle.cells.specs.Views.{tree}
use Rattle.walks.specs.EqualWalk.{outcome, AreLow, load}
use Rattle.walks.proofs.equality.equal.Given as goal

abbrev pub invariant-loop-open : goal.invariant-loop-open
invariant-loop-open g l = (outcome (g.R.LeafRule.means l.rule) (l.frame ∷ reverse l.open.items) ≡ equal (g.R.LeafRule.means l.rule) (tree l.a) (tree l.b)) × AreLow (l.frame ∷ reverse l.open.items)

abbrev pub decreases-loop-open : goal.decreases-loop-open
decreases-loop-open g l = load (l.frame ∷ reverse l.open.items)
