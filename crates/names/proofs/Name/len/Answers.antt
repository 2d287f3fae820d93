use Rattle.std.proofs.Common.{◌∙◌, ap, length}
use Rattle.names.proofs.Spellings.{text_ends}
use Rattle.names.proofs.Name.len.Goals as goal

pub returns-clause-value : goal.returns-clause-value
returns-clause-value c =
    c.unwrap_or.ensures ∙ rw c.first_zero.ensures (text_ends c.self.inside.bytes 32 c.self.told ∙ ap length c.self.view_is)
