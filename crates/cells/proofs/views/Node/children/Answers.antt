use Rattle.std.proofs.Common.{◌≡◌, ◌-◌, List, take, drop, length, sym, ap, ◌∙◌, arith, length-drop}
use Rattle.std.proofs.lemmas.List.{take_all}
use Rattle.cells.specs.declared.types.Cell.{Cell}
use Rattle.trees.specs.Tree.{count as number_of}
use Rattle.cells.proofs.Readings.{counted}
use Rattle.cells.proofs.Viewed.{kids_rows, kids_read}
use Rattle.cells.proofs.views.Node.children.Goals as goal

rest : (cs : List Cell) → take (length cs - 1) (drop 1 cs) ≡ drop 1 cs
rest cs = take_all (length cs - 1) (drop 1 cs) (omega (arith, length-drop 1 cs))

pub invariant_of-result : goal.invariant_of-result
invariant_of-result c =
    let n = c.args.self in
    let r = kids_rows n.cells.now _ c.index-self-0.result (record { whole = n.whole; sane = n.sane }) (rest n.cells.now) in
    record { whole = r.whole; sane = r.sane }

pub returns : goal.returns
returns c =
    let n = c.args.self in
    let e = rest n.cells.now in
    let r = kids_rows n.cells.now _ c.index-self-0.result (record { whole = n.whole; sane = n.sane }) e in
    let k = kids_read n.cells.now _ c.index-self-0.result n.whole e in
    record { forest = k; place = e; count = sym (counted _ _ r.whole) ∙ ap number_of k }
