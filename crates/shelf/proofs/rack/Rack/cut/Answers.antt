use Rattle.std.proofs.Common.{[], refl, arith}
use Rattle.cells.specs.Layout.{kids}
use Rattle.shelf.proofs.Spots.{at_here}
use Rattle.shelf.proofs.Trades.{trade_of, before_mono, loose_none}
use Rattle.shelf.proofs.rack.Rack.cut.Goals as goal

pub gap-at-requires : goal.gap-at-requires
gap-at-requires c =
    let h = c.requires.here in
    at_here h.holds h.there _ (omega (arith, h.many))

pub overflow_sub-old : goal.overflow_sub-old
overflow_sub-old c =
    let h = c.requires.here in
    omega (arith, before_mono (kids h.there.goal) c.args.from c.args.end c.requires.order, c.gap-at.ensures.is _ _ _ h.holds h.there, c.gap.ensures.is _ _ _ h.holds h.there)

pub trade-requires : goal.trade-requires
trade-requires c =
    let h = c.requires.here in
    let sh = h.holds.shows in
    record { shows = (_, sh); place = (omega arith, omega arith); size = omega arith }

pub returns : goal.returns
returns c s h k path t out r =
    let a = r.there in
    let g = c.gap-at.ensures.is s k path h a in
    let z = c.gap.ensures.is s k path h a in
    let n = r.room in
    record {
      beside = c.trade.ensures s k t out (record {
        own = a.own;
        tree = a.tree;
        holds = a.holds;
        new = [];
        beside = record { shows = h.shows; loose = loose_none h.shows };
        trade = trade_of c.args.spot.now.node c.gap-at.result c.args.cell r.replaced r.becomes a.place g;
        taken = omega arith;
        given = refl;
      });
      cells = omega arith;
    }
