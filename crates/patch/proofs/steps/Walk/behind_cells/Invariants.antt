use Rattle.std.proofs.Common.{◌≡◌, ℕ, ◌+◌}
use Rattle.patch.specs.Rows.{EndsAt}
use Rattle.patch.proofs.steps.Walk.behind_cells.Given as goal

-- each turn passes a cell
abbrev pub invariant-loop : goal.invariant-loop
invariant-loop l = record {
  ends : (end : ℕ) → EndsAt l.self.cells.now l.fn.row end → EndsAt l.self.cells.now l.rest end;
  place : l.rest.at ≡ l.fn.row.at + l.counter;
}
