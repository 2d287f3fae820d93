use Rattle.std.proofs.Common.{sym, ap, ◌∙◌}
use Rattle.script.specs.Records.{fit_record, call_of}
use Rattle.script.proofs.record.CallTryFromRefArrayU8SIZE.try_from.Goals as goal

pub returns : goal.returns
returns c = (sym (c.if-not-is_fit.ensures ∙ ap fit_record c.from-record.ensures), c.asks.ensures ∙ ap call_of c.from-record.ensures)
