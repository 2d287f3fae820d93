use Rattle.std.proofs.Common.{◌∙◌, drop, set, ap, arith}
use Rattle.std.proofs.lemmas.List.Edits.{paste_none}
use Rattle.cells.proofs.Slides.{down_more}
use Rattle.cells.proofs.runs.slide_down.Goals as goal

pub loop-i-init : goal.loop-i-init
loop-i-init c = paste_none c.args.cells.now c.args.to (drop c.args.from c.args.cells.now)

pub loop-i-preserved : goal.loop-i-preserved
loop-i-preserved c =
    let old = c.args.cells.now in
    let kept = c.loop-i.invariant in
    ap (set c.loop-i.cells _) c.index-cells-from.is
    ∙ down_more old c.args.from c.args.to _ _ _ kept (omega arith) (omega arith)
