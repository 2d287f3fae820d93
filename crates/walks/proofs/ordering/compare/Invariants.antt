use Rattle.std.proofs.Common.{◌≡◌, ◌-◌, ◌∷◌, reverse, length}
use Rattle.trees.specs.Compare.{compare}
use Rattle.cells.specs.Views.{tree}
use Rattle.walks.specs.CompareWalk.{outcome, frame_answer, AreLow, load}
use Rattle.walks.proofs.ordering.compare.Given as goal

abbrev pub invariant-loop-open : goal.invariant-loop-open
invariant-loop-open g l = (outcome (g.R.LeafRule.means l.rule) (reverse l.open.items) (frame_answer (g.R.LeafRule.means l.rule) (15 - length (reverse l.open.items)) l.frame) ≡ compare (g.R.LeafRule.means l.rule) (tree l.a) (tree l.b)) × AreLow (l.frame ∷ reverse l.open.items)

abbrev pub decreases-loop-open : goal.decreases-loop-open
decreases-loop-open g l = load (l.frame ∷ reverse l.open.items)
