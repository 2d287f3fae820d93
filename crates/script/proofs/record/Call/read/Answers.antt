use Rattle.std.proofs.Common.{ap, ◌∙◌}
use Rattle.script.specs.Records.{call_of}
use Rattle.script.proofs.record.Call.read.Goals as goal

pub returns : goal.returns
returns c = c.asks.ensures ∙ ap call_of c.read.ensures
