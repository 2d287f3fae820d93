use Rattle.std.proofs.Common.{arith}
use Rattle.cells.proofs.Layouts.{next}
use Rattle.cells.proofs.Searches.{kept_first}
use Rattle.cells.proofs.rows.Row.label.Goals as goal

pub bounds-cells-self : goal.bounds-cells-self
bounds-cells-self c = let m = next c.requires.kept.1.lies (omega (arith, c.requires.kept.1.counted)) in m.here.begins

pub bounds-cells-self-2 : goal.bounds-cells-self-2
bounds-cells-self-2 c = let m = next c.requires.kept.1.lies (omega (arith, c.requires.kept.1.counted)) in m.here.begins

pub returns : goal.returns
returns c n t f a = kept_first _ a
