use Rattle.std.proofs.Common.{◌≡◌, List, ◌++◌, map, take, drop, length, sym, ap, ◌∙◌, ap₂, arith}
use Rattle.std.proofs.lemmas.List.{length-reverse, take_all}
use Rattle.patch.specs.declared.frames.Frame.{Frame}
use Rattle.patch.proofs.Ways.{step_at, way_is, way_more}
use Rattle.patch.proofs.steps.Walk.write_path.Goals as goal

pub loop-i-preserved : goal.loop-i-preserved
loop-i-preserved c =
    let same = c.as_slice-frame-items.ensures.value in
    way_more _ _ same c.args.row.now c.loop-i.row c.loop-i.i _ c.loop-i.invariant c.loop-i-test.true
    (omega (arith, ap length same, length-reverse c.args.self.now.stack.items, c.requires))

pub returns : goal.returns
returns c =
    let items = c.args.self.now.stack.items in
    let same = ap length c.as_slice-frame-items.ensures.value in
    let all : take c.loop-i.i items ≡ items = take_all c.loop-i.i items (omega (arith, same)) in
    let i : c.loop-i.i ≡ c.len.result = omega (arith, same, c.loop-i.auto.i-end, c.len.ensures.value) in
    record {
      counts = c.len.ensures.value ∙ sym (length-reverse items);
      writes = c.loop-i.invariant ∙ ap₂ (λ (x : List Frame) (y : _). map step_at x ++ drop y c.args.row.now) all i ∙ ap (λ x. x ++ drop c.len.result c.args.row.now) (sym (way_is items));
    }
