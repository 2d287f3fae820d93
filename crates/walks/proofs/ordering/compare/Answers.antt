use Rattle.std.proofs.Common.{reverse, ap, sym, ◌∙◌, arith}
use Rattle.trees.specs.Compare.{compare}
use Rattle.cells.specs.Views.{tree}
use Rattle.cells.proofs.Sounds.{sound_height}
use Rattle.walks.proofs.Stacks.{pushed}
use Rattle.walks.proofs.Meetings.{a_partner}
use Rattle.walks.proofs.CompareWalks.{begun, clash_around, on_around, low_around, less_around, alone_shown, none_met, clash, goes_on, on_low, on_less, opened, opened_low, opened_less}
use Rattle.walks.proofs.ordering.compare.Goals as goal

pub returns-in-Answered : goal.returns-in-Answered
unfolding compare
returns-in-Answered g c = sym (c.in-Answered.ensures.answer 15)

pub loop-open-init : goal.loop-open-init
unfolding compare
loop-open-init g c =
    begun (g.R.LeafRule.means c.args.rule.now) c.in-Opened.frame _ _ (ap reverse c.new-open.ensures) (omega (arith, c.in-Opened.ensures.less.0, sound_height 16 (tree c.args.a) c.args.a.sane, sound_height 16 (tree c.args.b) c.args.b.sane)) (c.in-Opened.ensures.answer 15)

pub loop-open-preserved-in-Some-pop : goal.loop-open-preserved-in-Some-pop
loop-open-preserved-in-Some-pop g c =
    let r = c.in_ok-take-in-Some-pop in
    (on_around (g.R.LeafRule.means c.args.rule.now) c.loop-open.frame (reverse c.loop-open.open.items) c.in-None.ensures.shows c.in-Some-pop.around (reverse c.pop.new.self.items) (pushed _ _ _ c.in-Some-pop.ensures.items) c.take.new.self r.ensures ∙ c.loop-open.invariant.0, low_around (g.R.LeafRule.means c.args.rule.now) c.loop-open.frame (reverse c.loop-open.open.items) c.in-None.ensures.shows c.in-Some-pop.around (reverse c.pop.new.self.items) (pushed _ _ _ c.in-Some-pop.ensures.items) c.take.new.self r.ensures c.loop-open.invariant.1)

pub returns-in_err-partner-in-Some : goal.returns-in_err-partner-in-Some
returns-in_err-partner-in-Some g c = c.from_residual-in_err-partner-in-Some.ensures ∙ sym (alone_shown (g.R.LeafRule.means c.args.rule.now) c.loop-open.frame (reverse c.loop-open.open.items) (c.in-Some.pair, c.next.new.self) c.in-Some.ensures.shows c.in_err-partner-in-Some.was) ∙ c.loop-open.invariant.0

pub returns-in_err-answer-in-Answered-meet : goal.returns-in_err-answer-in-Answered-meet
returns-in_err-answer-in-Answered-meet g c =
    c.from_residual-in_err-answer-in-Answered-meet.ensures ∙ sym (none_met (g.R.LeafRule.means c.args.rule.now) c.loop-open.frame (reverse c.loop-open.open.items) (c.in-Some.pair, c.next.new.self) (a_partner _ _ _ c.in-Some.ensures.shows c.in_ok-partner-in-Some.partner c.in_ok-partner-in-Some.was) c.in_ok-partner-in-Some.partner c.in_ok-partner-in-Some.was c.loop-open.invariant.1 c.in-Answered-meet.answer c.in-Answered-meet.ensures.answer c.in_err-answer-in-Answered-meet.was) ∙ c.loop-open.invariant.0

pub loop-open-preserved : goal.loop-open-preserved
loop-open-preserved g c = (opened (g.R.LeafRule.means c.args.rule.now) c.loop-open.frame (reverse c.loop-open.open.items) (c.in-Some.pair, c.next.new.self) (a_partner _ _ _ c.in-Some.ensures.shows c.in_ok-partner-in-Some.partner c.in_ok-partner-in-Some.was) c.in_ok-partner-in-Some.partner c.in_ok-partner-in-Some.was c.loop-open.invariant.1 c.in-Opened-meet.inner c.in-Opened-meet.ensures.answer c.in-Opened-meet.ensures.less _ (pushed _ _ _ c.push.ensures.items) ∙ c.loop-open.invariant.0, opened_low (g.R.LeafRule.means c.args.rule.now) c.loop-open.frame (reverse c.loop-open.open.items) (c.in-Some.pair, c.next.new.self) (a_partner _ _ _ c.in-Some.ensures.shows c.in_ok-partner-in-Some.partner c.in_ok-partner-in-Some.was) c.in_ok-partner-in-Some.partner c.in_ok-partner-in-Some.was c.loop-open.invariant.1 c.in-Opened-meet.inner c.in-Opened-meet.ensures.answer c.in-Opened-meet.ensures.less _ (pushed _ _ _ c.push.ensures.items))

pub loop-open-smaller-in-Some-pop : goal.loop-open-smaller-in-Some-pop
loop-open-smaller-in-Some-pop g c = let r = c.in_ok-take-in-Some-pop in less_around (g.R.LeafRule.means c.args.rule.now) c.loop-open.frame (reverse c.loop-open.open.items) c.in-None.ensures.shows c.in-Some-pop.around (reverse c.pop.new.self.items) (pushed _ _ _ c.in-Some-pop.ensures.items) c.take.new.self r.ensures

pub loop-open-smaller : goal.loop-open-smaller
loop-open-smaller g c = opened_less (g.R.LeafRule.means c.args.rule.now) c.loop-open.frame (reverse c.loop-open.open.items) (c.in-Some.pair, c.next.new.self) (a_partner _ _ _ c.in-Some.ensures.shows c.in_ok-partner-in-Some.partner c.in_ok-partner-in-Some.was) c.in_ok-partner-in-Some.partner c.in_ok-partner-in-Some.was c.loop-open.invariant.1 c.in-Opened-meet.inner c.in-Opened-meet.ensures.answer c.in-Opened-meet.ensures.less _ (pushed _ _ _ c.push.ensures.items)

pub returns-in_err-take-in-Some-pop : goal.returns-in_err-take-in-Some-pop
returns-in_err-take-in-Some-pop g c = c.from_residual.ensures ∙ sym (clash_around (g.R.LeafRule.means c.args.rule.now) c.loop-open.frame (reverse c.loop-open.open.items) c.in-None.ensures.shows c.in-Some-pop.around (reverse c.pop.new.self.items) (pushed _ _ _ c.in-Some-pop.ensures.items) c.in_err-take-in-Some-pop.ensures) ∙ c.loop-open.invariant.0

pub returns-in_err-take-in-Answered-meet : goal.returns-in_err-take-in-Answered-meet
returns-in_err-take-in-Answered-meet g c = c.from_residual-in_err-take-in-Answered-meet.ensures ∙ sym (clash (g.R.LeafRule.means c.args.rule.now) c.loop-open.frame (reverse c.loop-open.open.items) (c.in-Some.pair, c.next.new.self) (a_partner _ _ _ c.in-Some.ensures.shows c.in_ok-partner-in-Some.partner c.in_ok-partner-in-Some.was) c.in_ok-partner-in-Some.partner c.in_ok-partner-in-Some.was c.loop-open.invariant.1 c.in-Answered-meet.answer c.in-Answered-meet.ensures.answer c.in_ok-answer-in-Answered-meet.field-0 c.in_ok-answer-in-Answered-meet.was c.in_err-take-in-Answered-meet.ensures) ∙ c.loop-open.invariant.0

pub loop-open-smaller-in_ok-take-in-Answered-meet : goal.loop-open-smaller-in_ok-take-in-Answered-meet
loop-open-smaller-in_ok-take-in-Answered-meet g c = on_less (g.R.LeafRule.means c.args.rule.now) c.loop-open.frame (reverse c.loop-open.open.items) (c.in-Some.pair, c.next.new.self) (a_partner _ _ _ c.in-Some.ensures.shows c.in_ok-partner-in-Some.partner c.in_ok-partner-in-Some.was) c.in_ok-partner-in-Some.partner c.in_ok-partner-in-Some.was c.loop-open.invariant.1 c.in-Answered-meet.answer c.in-Answered-meet.ensures.answer c.in_ok-answer-in-Answered-meet.field-0 c.in_ok-answer-in-Answered-meet.was c.take-in-Answered-meet.new.self c.in_ok-take-in-Answered-meet.ensures

pub loop-open-preserved-in_ok-take-in-Answered-meet : goal.loop-open-preserved-in_ok-take-in-Answered-meet
loop-open-preserved-in_ok-take-in-Answered-meet g c =
    let t = c.take-in-Answered-meet.new.self in
    (goes_on (g.R.LeafRule.means c.args.rule.now) c.loop-open.frame (reverse c.loop-open.open.items) (c.in-Some.pair, c.next.new.self) (a_partner _ _ _ c.in-Some.ensures.shows c.in_ok-partner-in-Some.partner c.in_ok-partner-in-Some.was) c.in_ok-partner-in-Some.partner c.in_ok-partner-in-Some.was c.loop-open.invariant.1 c.in-Answered-meet.answer c.in-Answered-meet.ensures.answer c.in_ok-answer-in-Answered-meet.field-0 c.in_ok-answer-in-Answered-meet.was t c.in_ok-take-in-Answered-meet.ensures ∙ c.loop-open.invariant.0, on_low (g.R.LeafRule.means c.args.rule.now) c.loop-open.frame (reverse c.loop-open.open.items) (c.in-Some.pair, c.next.new.self) (a_partner _ _ _ c.in-Some.ensures.shows c.in_ok-partner-in-Some.partner c.in_ok-partner-in-Some.was) c.in_ok-partner-in-Some.partner c.in_ok-partner-in-Some.was c.loop-open.invariant.1 c.in-Answered-meet.answer c.in-Answered-meet.ensures.answer c.in_ok-answer-in-Answered-meet.field-0 c.in_ok-answer-in-Answered-meet.was t c.in_ok-take-in-Answered-meet.ensures)
