use Rattle.std.proofs.Common.{reverse, ◌+◌, ◌<◌, refl, ap, ◌∙◌, add-one, arith}
use Rattle.std.proofs.lemmas.List.{length-reverse}
use Rattle.arrayvec.specs.ArrayVec.{ArrayVec}
use Rattle.patch.specs.declared.frames.Frame.{Frame}
use Rattle.patch.specs.Walk.{frames_of}
use Rattle.patch.proofs.Meetings.{met_less, meets_by}
use Rattle.patch.proofs.Spots.{spot_patch}
use Rattle.patch.proofs.Nexts.{node_done, stack_room, child_spot, child_comes, goes_onto, goes_past}
use Rattle.patch.proofs.Ways.{pushed}
use Rattle.patch.proofs.Ranks.{done_falls, skip_falls}
use Rattle.patch.proofs.steps.Walk.advance.Goals as goal

pub returns-then-frame-eq0-clause-comes : goal.returns-then-frame-eq0-clause-comes
returns-then-frame-eq0-clause-comes c k w = node_done k.base k.name c.args.frame _ _ _ k.outcome w c.if-frame-eq0.true

pub returns-then-frame-eq0-clause-falls : goal.returns-then-frame-eq0-clause-falls
returns-then-frame-eq0-clause-falls c = done_falls 65535 (record { target = c.args.frame.row; patch = c.args.frame.next }) c.args.frame _

pub partner-requires : goal.partner-requires
partner-requires c =
    let p : 0 < c.args.frame.next.count = omega (arith, c.if-frame-eq0.false) in
    (_, _, child_comes _ _ c.args.frame _ _ _ _ c.requires.1 p)

pub push-requires : goal.push-requires
push-requires c = (omega arith, omega (arith, stack_room _ _ c.args.frame _ _ _ _ c.requires.1, length-reverse c.args.self.now.stack.items))

pub meet-requires : goal.meet-requires
meet-requires c =
    let p : 0 < c.args.frame.next.count = omega (arith, c.if-frame-eq0.false) in
    let k = c.requires.0 in
    let w = c.requires.1 in
    let b = c.in-Some.ensures _ _ (child_comes _ _ c.args.frame _ _ _ _ w p) in
    (k, meets_by k.base k.name _ _ _ k.outcome (pushed _ _ _ c.push.ensures.items) (goes_onto k.base k.name c.args.frame _ _ _ k.outcome w p c.in-Some.row b.j b.is b.begins))

pub without_first-requires : goal.without_first-requires
without_first-requires c =
    let p : 0 < c.args.frame.next.count = omega (arith, c.if-frame-eq0.false) in
    let s = child_spot _ _ c.args.frame _ _ _ _ c.requires.1 p in
    record { first = (_, spot_patch s, s.patch_high); some = p }

pub returns-in-Some-clause-comes : goal.returns-in-Some-clause-comes
returns-in-Some-clause-comes c k w =
    let p : 0 < c.args.frame.next.count = omega (arith, c.if-frame-eq0.false) in
    let b = c.in-Some.ensures _ _ (child_comes _ _ c.args.frame _ _ _ _ w p) in
    c.meet.ensures.comes k (meets_by k.base k.name _ _ _ k.outcome (pushed _ _ _ c.push.ensures.items) (goes_onto k.base k.name c.args.frame _ _ _ k.outcome w p c.in-Some.row b.j b.is b.begins))

pub returns-in-Some-clause-falls : goal.returns-in-Some-clause-falls
returns-in-Some-clause-falls c =
    let p : 0 < c.args.frame.next.count = omega (arith, c.if-frame-eq0.false) in
    let k = c.requires.0 in
    let w = c.requires.1 in
    let b = c.in-Some.ensures _ _ (child_comes _ _ c.args.frame _ _ _ _ w p) in
    met_less k c.meet.new.self c.meet.result c.args.frame _ (frames_of c.args.self.now)
    (c.meet.ensures.comes k (meets_by k.base k.name _ _ _ k.outcome (pushed _ _ _ c.push.ensures.items) (goes_onto k.base k.name c.args.frame _ _ _ k.outcome w p c.in-Some.row b.j b.is b.begins)))
    (ap (λ (x : ArrayVec Frame). reverse x.items) c.meet.ensures.keeps.stack ∙ (pushed _ _ _ c.push.ensures.items)) refl (stack_room _ _ c.args.frame _ _ _ _ w)

pub returns-in_default : goal.returns-in_default
returns-in_default c =
    let p : 0 < c.args.frame.next.count = omega (arith, c.if-frame-eq0.false) in
    record {
      comes = λ k w.
          let s = child_spot k.base k.name c.args.frame _ _ _ k.outcome w p in
          let n = c.in-None.ensures _ _ (child_comes _ _ c.args.frame _ _ _ _ w p) in
          goes_past k.base k.name c.args.frame _ _ _ k.outcome w p _ refl (c.without_first.ensures.place _ (spot_patch s)) c.without_first.ensures.fewer (add-one _) refl n refl c.in_default.not-Extending;
      lent = refl;
      falls = skip_falls 65535 c.args.frame (record { pairing = c.args.frame.pairing; target = c.args.frame.target; row = c.args.frame.row; next = c.without_first.result; index = c.args.frame.index + 1 }) _ c.without_first.ensures.fewer;
    }

pub grow-requires : goal.grow-requires
grow-requires c =
    let p : 0 < c.args.frame.next.count = omega (arith, c.if-frame-eq0.false) in
    (c.requires.0, record { goes = c.requires.1; some = p; extends = c.in-Extending.is; alone = c.in-None.ensures })

pub returns-in-Extending-clause-comes : goal.returns-in-Extending-clause-comes
returns-in-Extending-clause-comes c k w =
    let p : 0 < c.args.frame.next.count = omega (arith, c.if-frame-eq0.false) in
    c.grow.ensures.comes k (record { goes = w; some = p; extends = c.in-Extending.is; alone = c.in-None.ensures })
