use Rattle.std.proofs.Common.{refl, ap, ◌∙◌, set, arith}
use Rattle.shelf.proofs.Fronts.{front_more}
use Rattle.shelf.proofs.saving.copy_front.Goals as goal

pub loop-i-preserved : goal.loop-i-preserved
loop-i-preserved c =
    let xs = c.args.from.now in
    ap (set c.loop-i.to _) c.index-from-i.is
    ∙ front_more xs xs c.args.to.now _ c.loop-i.i _ refl (omega arith) (omega arith) c.loop-i.invariant
