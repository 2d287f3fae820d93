use Rattle.std.proofs.Common.{◌-◌, ◌∙◌, drop, set, ap, arith}
use Rattle.std.proofs.lemmas.List.Edits.{paste_none}
use Rattle.cells.proofs.Slides.{up_more}
use Rattle.cells.proofs.runs.slide_up.Goals as goal

pub loop-i-init : goal.loop-i-init
loop-i-init c =
    let old = c.args.cells.now in
    paste_none old (c.args.to - 0) (drop (c.args.from - 0) old)

pub loop-i-preserved : goal.loop-i-preserved
loop-i-preserved c =
    let old = c.args.cells.now in
    let kept = c.loop-i.invariant in
    ap (set c.loop-i.cells _) c.index-cells-from.is
    ∙ up_more old c.args.from c.args.to _ _ _ kept (omega arith) (omega arith) (omega arith)
