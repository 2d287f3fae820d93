use Rattle.std.proofs.Common.{◌≡◌, ◌+◌, ◌<◌, ◌≤◌, get_or, drop, Some, sym, ap, ◌∙◌, subst, arith}
use Rattle.std.proofs.lemmas.List.{at_drop_more, at_drop_all}
use Rattle.trees.specs.Tree.{count}
use Rattle.trees.specs.Place.{find}
use Rattle.cells.specs.Layout.{Lies, kids, before, far}
use Rattle.cells.proofs.Readings.{lies_read, lies_stand_at}
use Rattle.cells.proofs.Layouts.{lies_kids, lies_unique, height_is, lies_count, lie_at, height_at, at_there, at_past}
use Rattle.cells.proofs.Paths.{find_step, find_past, far_step}
use Rattle.cells.proofs.reads.find.Goals as goal

pub returns-then-i-cells : goal.returns-then-i-cells
returns-then-i-cells c t a =
    let u = c.loop-step.invariant.1 in
    let i = get_or c.args.path.now c.loop-step.step-index 0 in
    let k = lies_count _ c.loop-step.invariant.3 in
    let q : count (kids u) ≤ i = subst (λ n. n ≤ i) k c.if-i-cells.true in
    let e : t ≡ c.loop-step.invariant.0 = lies_unique a c.loop-step.invariant.2 in
    ap (λ t. find (Some t) c.args.path.now) e ∙ sym c.loop-step.invariant.5 ∙ at_drop_more (λ p. find (Some u) p) c.args.path.now c.loop-step.step-index 0 (omega arith)
    ∙ find_past i _ u (at_past (kids u) i q)

pub child_at-pos-requires : goal.child_at-pos-requires
child_at-pos-requires c =
    let u = c.loop-step.invariant.1 in
    let i = get_or c.args.path.now c.loop-step.step-index 0 in
    let k = lies_count _ c.loop-step.invariant.3 in
    let q : i < count (kids u) = subst (λ n. i < n) k c.if-i-cells.false in
    let r = (lies_read c.loop-step.invariant.3).tree in
    record { tree = lies_stand_at 16 c.loop-step.invariant.3 c.loop-step.invariant.4; index = omega (arith, ap (λ v. count (kids v)) r) }

pub loop-step-preserved : goal.loop-step-preserved
loop-step-preserved c =
    let u = c.loop-step.invariant.1 in
    let i = get_or c.args.path.now c.loop-step.step-index 0 in
    let k = lies_count _ c.loop-step.invariant.3 in
    let q : i < count (kids u) = subst (λ n. i < n) k c.if-i-cells.false in
    let v = at_there (kids u) i q in
    let e = c.child_at-pos.ensures ∙ ap (λ v. c.loop-step.pos + 1 + before i (kids v)) (lies_read c.loop-step.invariant.3).tree in
    let p = drop (c.loop-step.step-index + 1) c.args.path.now in
    let l = lie_at (c.loop-step.pos + 1) (kids u) i (lies_kids u c.loop-step.invariant.3) v.1 in
    let d = at_drop_more (λ p. find (Some u) p) c.args.path.now c.loop-step.step-index 0 (omega arith) in
    let f = at_drop_more (λ p. far (Some u) p) c.args.path.now c.loop-step.step-index 0 (omega arith) in (
      c.loop-step.invariant.0,
      v.0,
      c.loop-step.invariant.2,
      subst (λ n. Lies c.args.cells.now n v.0) (sym e) l,
      omega (arith, height_at (kids u) i v.1, height_is u),
      sym (find_step i p u (Some v.0) v.1) ∙ sym d ∙ c.loop-step.invariant.5,
      omega (arith, far_step i p u v.0 v.1),
    )

pub returns : goal.returns
returns c t a =
    let u = c.loop-step.invariant.1 in
    let d = at_drop_all (λ p. find (Some u) p) c.args.path.now c.loop-step.step-index (omega arith) in
    let f = at_drop_all (λ p. far (Some u) p) c.args.path.now c.loop-step.step-index (omega arith) in
    let e : t ≡ c.loop-step.invariant.0 = lies_unique a c.loop-step.invariant.2 in
    ((u, ap (λ t. find (Some t) c.args.path.now) e ∙ sym c.loop-step.invariant.5 ∙ d), omega (arith, ap (λ t. far (Some t) c.args.path.now) e))
