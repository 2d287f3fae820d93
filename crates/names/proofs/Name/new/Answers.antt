use Rattle.std.proofs.Common.{sym}
use Rattle.names.proofs.Spellings.{filled}
use Rattle.names.proofs.Name.new.Goals as goal

pub invariant_of-result : goal.invariant_of-result
invariant_of-result c = (filled _ _ c.copy_from_slice.ensures.after c.if-is_empty.ensures c.if-bytes-gt-MOST.false (sym c.if-not-is_printable.ensures)).holds

pub returns : goal.returns
returns c = (filled _ _ c.copy_from_slice.ensures.after c.if-is_empty.ensures c.if-bytes-gt-MOST.false (sym c.if-not-is_printable.ensures)).named
