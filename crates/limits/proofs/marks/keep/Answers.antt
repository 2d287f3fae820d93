use Rattle.limits.proofs.Tokens.{spent_ok, tells, leaves, keep_done}
use Rattle.limits.proofs.marks.keep.Goals as goal

pub unwrap-requires : goal.unwrap-requires
unwrap-requires c = spent_ok c.keep.result (tells c.keep.ensures (keep_done c.args.shelf.now c.requires))

pub returns : goal.returns
returns c = leaves c.keep.ensures (keep_done c.args.shelf.now c.requires)
