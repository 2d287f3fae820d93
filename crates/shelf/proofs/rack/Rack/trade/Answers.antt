use Rattle.std.proofs.Common.{◌≡◌, ◌+◌, ◌-◌, [], ◌∷◌, ◌++◌, length, get_or, drop, set, Some, sym, refl, ap, ◌∙◌, append_assoc, arith, length-append, length-set, drop_at}
use Rattle.cells.specs.Layout.{encode}
use Rattle.trees.specs.Tree.{size}
use Rattle.trees.specs.State.{slot, nodes}
use Rattle.cells.proofs.Layouts.{length-encode}
use Rattle.shelf.specs.Holds.{laid}
use Rattle.shelf.proofs.Runs.{loose_rest, cells_join, length-laid, length_high, nodes_set, shows_slot, size_at, low, high, node_written, length_front}
use Rattle.shelf.proofs.rack.Rack.trade.Goals as goal

pub returns : goal.returns
returns c =
    λ s j u out w. rw (sym w.own) (
    let t = w.tree in
    let new = w.new in
    let h = w.beside.shows in
    let o = w.beside.loose in
    let d = w.trade in
    let lo_n = w.taken in
    let ln = w.given in
    let k = ap (slot s.slots) w.own ∙ w.holds in
    let i = c.args.spot.now.slot.number in
    let lt = c.args.spot.now.slot.low in
    let l = h.lies in
    let y = c.args.cell in
    let p = d.p in
    let a = d.a in
    let b = d.b in
    let at = c.start-start.ensures.is s h in
    let lo = low s.slots i in
    let hi = high s.slots i in
    let rest = o.rest in
    let su = size_at l i lt ∙ ap nodes k in
    let e1 : length (encode [] t) ≡ length p + (1 + (length a + (length out + length b))) = ap length d.whole ∙ omega (arith, length-append p (d.x ∷ (a ++ (out ++ b))), length-append a (out ++ b), length-append out b) in
    let e2 : length (encode [] u) ≡ length p + (1 + (length a + (length new + length b))) = ap length d.changed ∙ omega (arith, length-append p (y ∷ (a ++ (new ++ b))), length-append a (new ++ b), length-append new b) in
    let ns = nodes_set l i (Some u) lt in
    let f = lo ++ (p ++ (y ∷ a)) in
    let lf : length f ≡ c.start-start.result + c.args.at = length_front s.slots i p a y ∙ omega (arith, d.node_is, d.place) in
    let lh : c.start-start.result + c.args.at + (length out + length (b ++ hi)) ≡ c.args.self.now.used = omega (arith, length-append b hi, length_high l i lt, length-encode [] t, d.node_is, d.place) in
    let q1 = c.exchange.ensures f (out ++ (b ++ hi)) new rest
    (node_written h i p a (out ++ b) d.x y lt k d.whole _ (omega (arith, d.node_is)) ∙ ap (λ r. f ++ ((out ++ b) ++ (hi ++ r))) (loose_rest h o) ∙ ap (λ r. f ++ r) (simp append_assoc))
    lf
    (omega (arith, length-append out (b ++ hi)))
    (omega arith) in
    let q2 = c.exchange-2.ensures (f ++ new) out (b ++ hi) rest
    (q1 ∙ simp append_assoc)
    (omega (arith, length-append f new))
    (omega arith)
    (omega arith) in
    let g : (f ++ new) ++ ((b ++ hi) ++ (out ++ rest)) ≡ lo ++ ((p ++ (y ∷ (a ++ (new ++ b)))) ++ (hi ++ (out ++ rest))) = simp append_assoc in
    let v = cells_join l i (Some u) _ (out ++ rest) lt (q2 ∙ g ∙ ap (λ r. lo ++ (r ++ (hi ++ (out ++ rest)))) (sym d.changed)) in
    let su2 : get_or c.args.self.now.sizes i 0 - c.args.old + c.args.size ≡ size u = omega (arith, length-encode [] t, length-encode [] u) in record {
      shows = shows_slot h i (Some u) (out ++ rest) v (c.exchange-2.auto.cells ∙ c.exchange.auto.cells ∙ length-set _ _ _) (ap (set c.args.self.now.sizes i) su2) (omega arith) (omega arith) refl refl refl;
      loose = record {
        rest = rest;
        is = ap (drop _) v ∙ drop_at (laid (set s.slots i (Some u))) _ _ (length-laid (set s.slots i (Some u)) ∙ omega arith);
        fits = omega arith;
      };
    })
