use Rattle.patch.specs.Walk.{Task, Meets, IsAtStep, weight}
use Rattle.patch.proofs.steps.Walk.run.Given as goal
use Rattle.std.proofs.Common.{◌≡◌}

-- the walk comes to what it was to come to where it began
abbrev pub invariant-loop-step : goal.invariant-loop-step
invariant-loop-step l = ((k : Task) → Meets k l.fn.self l.fn.from → IsAtStep k l.self l.step) × (l.self.cells.ghost_name ≡ l.fn.self.cells.ghost_name)

abbrev pub decreases-loop-step : goal.decreases-loop-step
decreases-loop-step l = weight l.step l.self
