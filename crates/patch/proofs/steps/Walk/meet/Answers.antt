use Rattle.std.proofs.Common.{Option, subst}
use Rattle.patch.specs.declared.frames.Frame.{Frame}
use Rattle.patch.specs.Walk.{IsLaidOrOpen}
use Rattle.patch.proofs.Meetings.{laid_ends}
use Rattle.patch.proofs.steps.Walk.meet.Goals as goal

pub returns-in-Some-clause-comes : goal.returns-in-Some-clause-comes
returns-in-Some-clause-comes c k s = subst (λ (o : Option Frame). IsLaidOrOpen k c.lay_node.new.self c.args.at o) c.in-Some.is (c.in_ok-frame.ensures.comes k s)

pub returns-in-None-clause-comes : goal.returns-in-None-clause-comes
returns-in-None-clause-comes c k s = rw c.ends.ensures (laid_ends k.base k.name _ _ _ _ k.outcome (subst (λ (o : Option Frame). IsLaidOrOpen k c.lay_node.new.self c.args.at o) c.in-None.is (c.in_ok-frame.ensures.comes k s)))
