use Rattle.std.proofs.Common.{arith}
use Rattle.cells.proofs.Layouts.{lies_kids, lies_count, height_is}
use Rattle.cells.proofs.rows.Row.of.Goals as goal

pub returns : goal.returns
returns c t a h = record { lies = lies_kids t a; counted = lies_count _ a; high = omega (arith, height_is t) }
