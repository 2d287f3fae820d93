use Rattle.std.proofs.Common.{suc, ◌++◌, take, drop, set, None, sym, refl, ap, ◌∙◌, arith, drop_at}
use Rattle.trees.specs.State.{slot}
use Rattle.shelf.specs.Holds.{laid, run}
use Rattle.shelf.specs.Known.{rest_of}
use Rattle.shelf.proofs.Runs.{cells_split, cells_join, length-laid, length_own, length_high, nodes_set, shows_slot}
use Rattle.shelf.proofs.rack.Rack.lift.Goals as goal

pub returns : goal.returns
returns c =
    record {
      size = c.size-size.ensures;
      sized = record { sizes = refl; used = omega arith; room = refl };
      is = λ s k q h. rw (sym q) (
          let m = s.slots in
          let i = c.args.slot.number in
          let lt = c.args.slot.low in
          let l = h.lies in
          let own = run (slot m i) in
          let at = c.start-at.ensures.is s h in
          let e = cells_join l i None _ (own ++ rest_of l) lt
          (c.exchange.ensures (laid (take i m)) own (laid (drop (suc i) m)) (rest_of l) (cells_split l i lt)
          (length-laid (take i m) ∙ sym at)
          (omega (arith, length_own l i lt))
          (omega (arith, length_high l i lt))) in
          let n = nodes_set l i None lt in record {
            shows = shows_slot h i None (own ++ rest_of l) e c.exchange.auto.cells refl (omega arith) (omega arith) refl refl refl;
            loose = record {
              rest = rest_of l;
              is = ap (drop _) e ∙ drop_at (laid (set m i None)) _ _ (length-laid (set m i None) ∙ omega arith);
              fits = omega (arith, length_own l i lt);
            };
          });
    }
