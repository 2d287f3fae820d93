use Rattle.std.proofs.Common.{ap, ◌∙◌}
use Rattle.trees.specs.Tests.{is_some}
use Rattle.limits.proofs.Tokens.{err, tells, leaves, mark_not}
use Rattle.limits.proofs.marks.second.Goals as goal

pub unwrap_err-requires : goal.unwrap_err-requires
unwrap_err-requires c = err c.mark.result (tells c.mark.ensures (mark_not c.args.shelf.now c.requires))

pub returns : goal.returns
returns c = ap is_some (leaves c.mark.ensures (mark_not c.args.shelf.now c.requires)) ∙ c.requires
