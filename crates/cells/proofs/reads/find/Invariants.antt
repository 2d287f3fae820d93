use Rattle.std.proofs.Common.{◌≡◌, ◌+◌, ◌≤◌, drop, Some}
use Rattle.trees.specs.Tree.{Tree, height}
use Rattle.trees.specs.Place.{find}
use Rattle.cells.specs.Layout.{Lies, far}
use Rattle.cells.proofs.reads.find.Given as goal

-- the walk has come to the node u, and the rest of the path leads on from there
abbrev pub invariant-loop-step : goal.invariant-loop-step
invariant-loop-step l = (t : Tree) × (u : Tree) × Lies l.cells l.at t × Lies l.cells l.pos u × (height u ≤ 16) × (find (Some u) (drop l.step-index l.path) ≡ find (Some t) l.path) × (l.pos + far (Some u) (drop l.step-index l.path) ≡ l.at + far (Some t) l.path)
