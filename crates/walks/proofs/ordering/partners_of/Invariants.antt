use Rattle.std.proofs.Common.{◌≡◌}
use Rattle.trees.specs.Tree.{count}
use Rattle.trees.specs.Compare.{same_order}
use Rattle.cells.specs.Views.{forest}
use Rattle.walks.proofs.ordering.partners_of.Given as goal

abbrev pub invariant-loop-a : goal.invariant-loop-a
invariant-loop-a l = same_order (forest l.x) (forest l.y) ≡ same_order (forest l.ours) (forest l.theirs)

abbrev pub decreases-loop-a : goal.decreases-loop-a
decreases-loop-a l = count (forest l.x)
