use Rattle.std.proofs.Common.{ap}
use Rattle.trees.specs.Calls.{Answer}
use Rattle.shelf.proofs.States.{any_rule}
use Rattle.bench.proofs.Tokens.{opens, rolls}
use Rattle.bench.proofs.times.rolled.Goals as goal

pub unwrap-requires : goal.unwrap-requires
unwrap-requires c =
    rolls c.roll_back.result c.mark.new.self
    (opens any_rule c.args.shelf.now c.mark.new.self (ap (λ (a : Answer). a.refusal) ((c.in-Ok.ensures any_rule).answers)) ((c.in-Ok.ensures any_rule).state))
    ((c.roll_back.ensures any_rule).answers)
