use Rattle.limits.proofs.Tokens.{spent_ok, tells, leaves, roll_done}
use Rattle.limits.proofs.marks.roll_back.Goals as goal

pub unwrap-requires : goal.unwrap-requires
unwrap-requires c = spent_ok c.roll_back.result (tells c.roll_back.ensures (roll_done c.args.shelf.now c.requires))

pub returns : goal.returns
returns c = leaves c.roll_back.ensures (roll_done c.args.shelf.now c.requires)
