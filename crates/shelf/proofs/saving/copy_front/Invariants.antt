use Rattle.std.proofs.Common.{◌≡◌, ◌++◌, take, drop}
use Rattle.shelf.proofs.saving.copy_front.Given as goal

-- so many of the first cells are copied
abbrev pub invariant-loop-i : goal.invariant-loop-i
invariant-loop-i l = l.to ≡ take l.i l.initial.from ++ drop l.i l.initial.to
