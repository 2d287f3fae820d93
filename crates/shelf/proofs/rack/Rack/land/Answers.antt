use Rattle.std.proofs.Common.{suc, [], take, drop, set, Some, sym, refl, ap, ◌∙◌, arith}
use Rattle.trees.specs.State.{slot, nodes}
use Rattle.cells.specs.Layout.{encode}
use Rattle.cells.proofs.Layouts.{length-encode}
use Rattle.shelf.specs.Holds.{laid}
use Rattle.shelf.proofs.Runs.{cells_loose, cells_join, length-laid, length_high, nodes_set, shows_slot, size_at}
use Rattle.shelf.proofs.rack.Rack.land.Goals as goal

pub returns : goal.returns
returns c s n t w = rw (sym w.own) (
    let h = w.beside.shows in
    let o = w.beside.loose in
    let z = w.cells in
    let k = ap (slot s.slots) w.own ∙ w.empty in
    let m = s.slots in
    let i = c.args.slot.number in
    let lt = c.args.slot.low in
    let l = h.lies in
    let at = c.start-at.ensures.is s h in
    let y = size_at l i lt ∙ ap nodes k in
    let n = nodes_set l i (Some t) lt in
    let e = cells_join l i (Some t) _ o.rest lt
    (c.exchange.ensures (laid (take i m)) (laid (drop (suc i) m)) (encode [] t) o.rest
    (cells_loose h i lt k o)
    (length-laid (take i m) ∙ sym at)
    (omega (arith, length_high l i lt))
    (omega (arith, length-encode [] t))) in
    shows_slot h i (Some t) o.rest e c.exchange.auto.cells (ap (set c.args.self.now.sizes i) z) (omega arith) (omega arith) refl refl refl)
