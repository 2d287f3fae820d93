use Rattle.std.proofs.Common.{ap}
use Rattle.trees.specs.Tests.{is_some}
use Rattle.limits.proofs.Tokens.{ok, tells, leaves, mark_set}
use Rattle.limits.proofs.marks.set.Goals as goal

pub unwrap-requires : goal.unwrap-requires
unwrap-requires c = ok c.mark.result (tells c.mark.ensures (mark_set c.args.shelf.now c.requires))

pub returns : goal.returns
returns c = ap is_some (leaves c.mark.ensures (mark_set c.args.shelf.now c.requires))
