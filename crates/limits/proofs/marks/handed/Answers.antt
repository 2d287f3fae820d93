use Rattle.std.proofs.Common.{◌∙◌}
use Rattle.limits.proofs.Tokens.{spent_err, tells, leaves, keep_not, roll_not}
use Rattle.limits.proofs.marks.handed.Goals as goal

pub unwrap_err-requires : goal.unwrap_err-requires
unwrap_err-requires c = spent_err c.keep.result (tells c.keep.ensures (keep_not c.args.shelf.now c.requires))

pub unwrap_err-requires-2 : goal.unwrap_err-requires-2
unwrap_err-requires-2 c =
    let none = leaves c.keep.ensures (keep_not c.args.shelf.now c.requires) ∙ c.requires in
    spent_err c.roll_back.result (tells c.roll_back.ensures (roll_not c.keep.new.self none))

pub returns : goal.returns
returns c =
    let none = leaves c.keep.ensures (keep_not c.args.shelf.now c.requires) ∙ c.requires in
    leaves c.roll_back.ensures (roll_not c.keep.new.self none) ∙ none
