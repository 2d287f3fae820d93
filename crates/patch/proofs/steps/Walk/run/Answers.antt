use Rattle.std.proofs.Common.{reverse, sym, ap, ◌∙◌, subst}
use Rattle.std.proofs.lemmas.Result.{err_from_is_err_and}
use Rattle.arrayvec.specs.ArrayVec.{ArrayVec}
use Rattle.patch.specs.declared.frames.Frame.{Frame}
use Rattle.patch.specs.declared.frames.Step.{Step}
use Rattle.patch.specs.declared.frames.Step.TheVariants.{On, Done}
use Rattle.patch.specs.Walk.{Task, Meets, IsAtStep, HasLaid}
use Rattle.patch.proofs.Meetings.{finished_in}
use Rattle.patch.proofs.Ways.{pushed, emptied}
use Rattle.patch.proofs.steps.Walk.run.Goals as goal
use Rattle.patch.proofs.steps.Walk.run.Goals.{In-On, In-Done, In-Some}

-- where the walk stands, told from where it began
on : (c : In-On) (k : Task) → Meets k c.args.self.now c.args.from → IsAtStep k c.loop-step.self (On c.in-On.frame)
on c k s = subst (λ (o : Step). IsAtStep k c.loop-step.self o) c.in-On.is (c.loop-step.invariant.0 k s)

done : (c : In-Done) (k : Task) → Meets k c.args.self.now c.args.from → IsAtStep k c.loop-step.self (Done c.in-Done.ends)
done c k s = subst (λ (o : Step). IsAtStep k c.loop-step.self o) c.in-Done.is (c.loop-step.invariant.0 k s)

pub advance-requires : goal.advance-requires
advance-requires c = (c.requires.0, on (goal.at.advance-requires c).In-On c.requires.0 c.requires.1)

pub returns-in_err-step-in-On-clause-comes : goal.returns-in_err-step-in-On-clause-comes
returns-in_err-step-in-On-clause-comes c =
    let w = err_from_is_err_and c.from_residual-in_err-step-in-On.result c.from_residual-in_err-step-in-On.ensures.1 in
    rw (w.1, w.2) (λ k s. c.in_err-step-in-On.ensures.comes k (on (goal.at.returns-in_err-step-in-On-clause-comes c).In-On k s))

pub loop-step-preserved-in-On : goal.loop-step-preserved-in-On
loop-step-preserved-in-On c = (λ k s. c.in_ok-step-in-On.ensures.comes k (on (goal.at.loop-step-preserved-in-On c).In-On k s), c.in_ok-step-in-On.ensures.lent ∙ c.loop-step.invariant.1)

pub returns-in-None-clause-comes : goal.returns-in-None-clause-comes
returns-in-None-clause-comes c k s =
    let d = done (goal.at.returns-in-None-clause-comes c).In-Done k s in
    let none = c.in-None.ensures in
    let same = ap (λ (x : ArrayVec Frame). reverse x.items) none.empty in
    record {
      empty = same ∙ emptied c.loop-step.self.stack.items none.variant.1;
      ends = c.in-Done.ends;
      goes = finished_in k.base k.name _ _ k.outcome c.in-Done.ends same d;
    }

-- the child is done, and the frame of the node around it is off the stack
laid : (c : In-Some) (k : Task) → Meets k c.args.self.now c.args.from → HasLaid k (record { cells = c.loop-step.self.cells; used = c.loop-step.self.used; stack = c.pop.new.self }) c.in-Some.frame c.in-Done.ends
laid c k s =
    let off = pushed _ _ _ c.in-Some.ensures.items in
    finished_in k.base k.name _ _ k.outcome c.in-Done.ends (sym off) (done (goal.at.go_up-step-requires c).In-Done k s)

pub go_up-step-requires : goal.go_up-step-requires
go_up-step-requires c = (c.requires.0, laid c c.requires.0 c.requires.1)

pub loop-step-smaller : goal.loop-step-smaller
loop-step-smaller c = rw (c.in-Done.is, pushed _ _ _ c.in-Some.ensures.items) c.go_up-step.ensures.falls

pub loop-step-preserved : goal.loop-step-preserved
loop-step-preserved c = (λ k s. c.go_up-step.ensures.comes k (laid (goal.at.loop-step-preserved c).In-Some k s), c.loop-step.invariant.1)
