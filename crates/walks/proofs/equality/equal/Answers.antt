use Rattle.std.proofs.Common.{reverse, ◌≡◌, true, false, cond, Some, None, sym, ap, ◌∙◌, ap₂, arith}
use Rattle.trees.specs.Equal.{equal}
use Rattle.walks.specs.EqualWalk.{sure}
use Rattle.cells.specs.Views.{tree}
use Rattle.walks.proofs.equality.equal.Given.{Over}
use Rattle.cells.proofs.Sounds.{sound_height}
use Rattle.walks.proofs.Stacks.{pushed}
use Rattle.walks.proofs.Meetings.{a_partner}
use Rattle.walks.proofs.EqualWalks.{begun, on_low, on_less, answered_is, sure_some, opened, opened_low, opened_less}
use Rattle.walks.proofs.equality.equal.Goals as goal
use Rattle.walks.proofs.equality.equal.Goals.{then-inner, else-inner}

pub returns-in-Answered : goal.returns-in-Answered
unfolding equal
returns-in-Answered g c = sym (c.in-Answered.ensures.answer 15)

pub loop-open-init : goal.loop-open-init
unfolding equal
loop-open-init g c =
    begun (g.R.LeafRule.means c.args.rule.now) c.in-Opened.frame _ _ (ap reverse c.new-open.ensures) (omega (arith, c.in-Opened.ensures.less.0, sound_height 16 (tree c.args.a) c.args.a.sane, sound_height 16 (tree c.args.b) c.args.b.sane)) (c.in-Opened.ensures.answer 15)

pub loop-open-smaller-in-Answered-Some-true : goal.loop-open-smaller-in-Answered-Some-true
loop-open-smaller-in-Answered-Some-true g c = on_less (g.R.LeafRule.means c.args.rule.now) c.loop-open.frame (reverse c.loop-open.open.items) (c.in-Some.pair, c.next.new.self) (a_partner _ _ _ c.in-Some.ensures.shows c.in-Some-theirs.partner c.in-Some-theirs.is) c.in-Some-theirs.partner c.in-Some-theirs.is c.loop-open.invariant.1

pub loop-open-preserved-in-Answered-Some-true : goal.loop-open-preserved-in-Answered-Some-true
loop-open-preserved-in-Answered-Some-true g c =
    let r = c.in-Answered-Some-true in (
      sym (answered_is (g.R.LeafRule.means c.args.rule.now) c.loop-open.frame (reverse c.loop-open.open.items) (c.in-Some.pair, c.next.new.self) (a_partner _ _ _ c.in-Some.ensures.shows c.in-Some-theirs.partner c.in-Some-theirs.is) c.in-Some-theirs.partner c.in-Some-theirs.is c.loop-open.invariant.1 r.field-0 (Some true) r.ensures.answer (sure_some c.loop-open.frame.sure true r.field-0 (r.field-0-is ∙ ap Some r.field-0-0-test))) ∙ c.loop-open.invariant.0,
      on_low (g.R.LeafRule.means c.args.rule.now) c.loop-open.frame (reverse c.loop-open.open.items) (c.in-Some.pair, c.next.new.self) (a_partner _ _ _ c.in-Some.ensures.shows c.in-Some-theirs.partner c.in-Some-theirs.is) c.in-Some-theirs.partner c.in-Some-theirs.is c.loop-open.invariant.1,
    )

pub returns-in-Answered-Some-false : goal.returns-in-Answered-Some-false
returns-in-Answered-Some-false g c =
    let r = c.in-Answered-Some-false in
    sym (answered_is (g.R.LeafRule.means c.args.rule.now) c.loop-open.frame (reverse c.loop-open.open.items) (c.in-Some.pair, c.next.new.self) (a_partner _ _ _ c.in-Some.ensures.shows c.in-Some-theirs.partner c.in-Some-theirs.is) c.in-Some-theirs.partner c.in-Some-theirs.is c.loop-open.invariant.1 r.field-0 (Some false) r.ensures.answer (sure_some c.loop-open.frame.sure false r.field-0 (r.field-0-is ∙ ap Some r.field-0-0-test))) ∙ c.loop-open.invariant.0

pub returns-then-frame : goal.returns-then-frame
returns-then-frame g c =
    let r = c.in-Answered-None in
    sym (answered_is (g.R.LeafRule.means c.args.rule.now) c.loop-open.frame (reverse c.loop-open.open.items) (c.in-Some.pair, c.next.new.self) (a_partner _ _ _ c.in-Some.ensures.shows c.in-Some-theirs.partner c.in-Some-theirs.is) c.in-Some-theirs.partner c.in-Some-theirs.is c.loop-open.invariant.1 r.field-0 (Some false) r.ensures.answer (ap₂ sure c.if-frame.true r.field-0-is)) ∙ c.loop-open.invariant.0

pub returns-else-frame : goal.returns-else-frame
returns-else-frame g c =
    let r = c.in-Answered-None in
    sym (answered_is (g.R.LeafRule.means c.args.rule.now) c.loop-open.frame (reverse c.loop-open.open.items) (c.in-Some.pair, c.next.new.self) (a_partner _ _ _ c.in-Some.ensures.shows c.in-Some-theirs.partner c.in-Some-theirs.is) c.in-Some-theirs.partner c.in-Some-theirs.is c.loop-open.invariant.1 r.field-0 None r.ensures.answer (ap₂ sure c.if-frame.false r.field-0-is)) ∙ c.loop-open.invariant.0

-- enums within stay within
flag : (g : Over) (c : goal.After-frame-in-Opened-meet-1 g) → c.if-inner.sure ≡ cond c.in-Opened-meet.inner.sure true c.loop-open.frame.sure
flag g c =
    elim c.if-inner.branch [
      | then-inner w ↦ w.sure-is ∙ w.if-inner.true ∙ ap (λ b. cond b true c.loop-open.frame.sure) (sym w.if-inner.true)
      | else-inner w ↦ w.sure-is ∙ ap (λ b. cond b true c.loop-open.frame.sure) (sym w.if-inner.false)
    ]

pub loop-open-preserved : goal.loop-open-preserved
loop-open-preserved g c =
    let r = c.in-Opened-meet in (
      opened (g.R.LeafRule.means c.args.rule.now) c.loop-open.frame (reverse c.loop-open.open.items) (c.in-Some.pair, c.next.new.self) (a_partner _ _ _ c.in-Some.ensures.shows c.in-Some-theirs.partner c.in-Some-theirs.is) c.in-Some-theirs.partner c.in-Some-theirs.is c.loop-open.invariant.1 r.inner c.if-inner.sure r.ensures.answer r.ensures.less (flag g c) _ (pushed _ _ _ c.push.ensures.items) ∙ c.loop-open.invariant.0,
      opened_low (g.R.LeafRule.means c.args.rule.now) c.loop-open.frame (reverse c.loop-open.open.items) (c.in-Some.pair, c.next.new.self) (a_partner _ _ _ c.in-Some.ensures.shows c.in-Some-theirs.partner c.in-Some-theirs.is) c.in-Some-theirs.partner c.in-Some-theirs.is c.loop-open.invariant.1 r.inner c.if-inner.sure r.ensures.answer r.ensures.less (flag g c) _ (pushed _ _ _ c.push.ensures.items),
    )

pub loop-open-smaller : goal.loop-open-smaller
loop-open-smaller g c =
    let r = c.in-Opened-meet in
    opened_less (g.R.LeafRule.means c.args.rule.now) c.loop-open.frame (reverse c.loop-open.open.items) (c.in-Some.pair, c.next.new.self) (a_partner _ _ _ c.in-Some.ensures.shows c.in-Some-theirs.partner c.in-Some-theirs.is) c.in-Some-theirs.partner c.in-Some-theirs.is c.loop-open.invariant.1 r.inner c.if-inner.sure r.ensures.answer r.ensures.less (flag g c) _ (pushed _ _ _ c.push.ensures.items)
