use Rattle.std.proofs.Common.{◌+◌, ◌*◌, length, reverse}
use Rattle.trees.specs.Hash.{hash}
use Rattle.cells.specs.Views.{tree}
use Rattle.walks.specs.HashWalk.{Walks}
use Rattle.walks.proofs.hashing.hash.Given as goal

abbrev pub invariant-loop-frame : goal.invariant-loop-frame
invariant-loop-frame g l = Walks (g.R.LeafRule.means l.rule) l.frame (reverse l.open.items) l.cells (hash (g.R.LeafRule.means l.rule) (tree l.node))

abbrev pub decreases-loop-frame : goal.decreases-loop-frame
decreases-loop-frame g l = 2 * length l.cells + length l.open.items
