use Rattle.std.proofs.Common.{◌≡◌, [], get_or, None, sym, refl, ap, ◌∙◌, subst, arith, get_or-set_other}
use Rattle.trees.specs.State.{slot, nodes, put_slot}
use Rattle.trees.proofs.Slots.{set_there}
use Rattle.cells.specs.Layout.{kids, encode}
use Rattle.cells.proofs.Layouts.{length-encode}
use Rattle.shelf.specs.Holds.{IsLoose, run}
use Rattle.shelf.proofs.Runs.{size_at}
use Rattle.shelf.proofs.Spots.{at_here}
use Rattle.shelf.proofs.Trades.{trade_of, before_mono}
use Rattle.shelf.proofs.rack.Rack.graft.Goals as goal

pub gap-at-requires : goal.gap-at-requires
gap-at-requires c =
    let h = c.requires.here in
    at_here h.holds h.there _ (omega (arith, h.many))

pub overflow_sub-old : goal.overflow_sub-old
overflow_sub-old c =
    let h = c.requires.here in
    omega (arith, before_mono (kids h.there.goal) c.args.from c.args.end c.requires.order, c.gap-at.ensures.is _ _ _ h.holds h.there, c.gap.ensures.is _ _ _ h.holds h.there)

pub lift-size-requires : goal.lift-size-requires
lift-size-requires c = (_, c.requires.here.holds.shows)

pub rename-requires : goal.rename-requires
rename-requires c =
    let sh = c.requires.here.holds.shows in
    let n = (c.lift-size.ensures.is _ _ refl sh).shows in
    record { room = omega (arith, n.lent, n.room, c.lift-size.ensures.sized.used, c.requires.full) }

pub trade-requires : goal.trade-requires
trade-requires c =
    let i = c.args.spot.now.slot.number in
    let j = c.args.second.number in
    let sh = c.requires.here.holds.shows in
    let z : get_or c.rename.new.self.sizes i 0 ≡ get_or c.args.self.now.sizes i 0 =
    ap (λ x. get_or x i 0) (c.rename.ensures.still.sizes ∙ c.lift-size.ensures.sized.sizes) ∙ get_or-set_other c.args.self.now.sizes j i 0 0 c.requires.apart in
    record {
      shows = (_, c.rename.ensures.shows _ (c.lift-size.ensures.is _ _ refl sh).shows);
      place = (c.gap-at.ensures.within.0, omega arith);
      size = omega arith;
    }

pub returns : goal.returns
returns c s j w h e b k path t out r =
    let a = r.there in
    let g = c.gap-at.ensures.is s k path h a in
    let d = c.gap.ensures.is s k path h a in
    let o = c.lift-size.ensures.is s j e h.shows in
    let n = r.room in
    let apart : j ≡ k → ⊥ = λ x. c.requires.apart (a.own ∙ sym x ∙ sym e) in
    c.trade.ensures (put_slot s j None) k t out (record {
      own = a.own;
      tree = a.tree;
      holds = set_there s.slots j k None apart ∙ a.holds;
      new = encode c.args.label w;
      beside = record { shows = c.rename.ensures.shows _ o.shows; loose = c.rename.ensures.loose [] w (subst (IsLoose c.lift-size.new.self) (ap run b) o.loose) };
      trade = trade_of c.args.spot.now.node c.gap-at.result c.args.cell r.replaced r.becomes a.place g;
      taken = omega arith;
      given = length-encode c.args.label w ∙ ap nodes (sym b) ∙ sym (ap (λ k. nodes (slot s.slots k)) e) ∙ sym (size_at h.shows.lies c.args.second.number c.args.second.low) ∙ sym c.lift-size.ensures.size;
    })
