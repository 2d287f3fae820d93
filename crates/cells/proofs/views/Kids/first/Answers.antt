use Rattle.std.proofs.Common.{refl, arith}
use Rattle.cells.proofs.Viewed.{rows, first_whole, first_read}
use Rattle.cells.proofs.views.Kids.first.Goals as goal

pub invariant_of-result : goal.invariant_of-result
invariant_of-result c = let r = first_whole _ _ (omega arith) (rows c.args.self) in record { whole = r.whole; sane = r.sane }

pub returns : goal.returns
returns c = record { cells = refl; split = first_read c.args.self (omega arith) }
