use Rattle.std.proofs.Common.{◌≡◌, ◌-◌, drop}
use lib.Seq.{paste}
use Rattle.cells.proofs.runs.slide_up.Given as goal

abbrev pub invariant-loop-i : goal.invariant-loop-i
invariant-loop-i l =
    l.cells ≡ paste l.initial.cells (l.to - l.i) (drop (l.from - l.i) l.initial.cells) l.i
