use Rattle.std.proofs.Common.{◌≡◌, ◌++◌, map, take, drop}
use Rattle.patch.proofs.Ways.{step_at}
use Rattle.patch.proofs.steps.Walk.write_path.Given as goal

abbrev pub invariant-loop-i : goal.invariant-loop-i
invariant-loop-i l = l.row ≡ map step_at (take l.i l.self.stack.items) ++ drop l.i l.initial.row
