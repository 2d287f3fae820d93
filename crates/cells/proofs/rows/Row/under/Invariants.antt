use Rattle.std.proofs.Common.{◌≡◌, ◌+◌, ◌≤◌}
use Rattle.trees.specs.Tree.{Forest, heights, count, under}
use Rattle.trees.specs.Place.{position_from}
use Rattle.cells.specs.Layout.{LieAll}
use Rattle.cells.specs.Children.{IsKept}
use Rattle.cells.proofs.rows.Row.under.Given as goal

-- no child before g has the name
abbrev pub invariant-loop-i : goal.invariant-loop-i
invariant-loop-i l = (f : Forest) × (g : Forest) × IsKept l.cells (record { at = l.initial.pos; count = l.i-end }) f × LieAll l.cells l.pos g × (count g + l.i ≡ l.i-end) × (heights g ≤ 16) × (under l.name f ≡ under l.name g) × (position_from 0 l.name f ≡ position_from l.i l.name g)
