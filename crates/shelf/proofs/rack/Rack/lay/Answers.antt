use Rattle.std.proofs.Common.{[], Some, None, refl, subst, arith, set-set}
use Rattle.trees.specs.Apply.{apply}
use Rattle.trees.specs.State.{with_slots, free_cells}
use Rattle.shelf.specs.Holds.{Shows}
use Rattle.shelf.proofs.Runs.{some_at}
use Rattle.shelf.proofs.Overlays.{first, last}
use Rattle.shelf.proofs.rack.Rack.lay.Goals as goal

pub start-patch-requires : goal.start-patch-requires
start-patch-requires c = (_, (c.lift-size.ensures.is _ _ refl c.requires.holds.1.shows).shows)

pub slice_bounds-apply-end : goal.slice_bounds-apply-end
slice_bounds-apply-end c =
    let k = (c.lift-size.ensures.is _ _ refl c.requires.holds.1.shows).shows in
    omega (arith, k.room, k.lent)

pub apply-laid-requires : goal.apply-laid-requires
apply-laid-requires c =
    let h = c.requires.holds.1 in
    let r = c.requires.ready in
    let t = some_at h.shows.lies c.args.target.number c.args.target.low r.target_full in
    let p = some_at h.shows.lies c.args.second.number c.args.second.low r.second_full in
    let g = first c.args.target c.args.second r c.start-patch.result c.lift-size.result c.lift-size.ensures.size c.lift-size.ensures.is c.start-patch.ensures.is h t.1 p.1 in
    record { trees = (_, [], t.0, p.0, g.rest, g.begins); lent = r.long }

pub overflow_sub-laid : goal.overflow_sub-laid
overflow_sub-laid c =
    let h = c.requires.holds.1 in
    let r = c.requires.ready in
    let t = some_at h.shows.lies c.args.target.number c.args.target.low r.target_full in
    let p = some_at h.shows.lies c.args.second.number c.args.second.low r.second_full in
    let g = (last c.args.target c.args.second r c.start-patch.result c.lift-size.result c.lift-size.ensures.size c.lift-size.ensures.is c.start-patch.ensures.is c.apply-laid.new.cells c.apply-laid.result c.apply-laid.new.row c.apply-laid.ensures c.apply-laid.auto.cells h t.1 p.1).0 in
    omega (arith, g.size_is)

pub land-requires : goal.land-requires
land-requires c =
    let h = c.requires.holds.1 in
    let r = c.requires.ready in
    let t = some_at h.shows.lies c.args.target.number c.args.target.low r.target_full in
    let p = some_at h.shows.lies c.args.second.number c.args.second.low r.second_full in
    let g = (last c.args.target c.args.second r c.start-patch.result c.lift-size.result c.lift-size.ensures.size c.lift-size.ensures.is c.start-patch.ensures.is c.apply-laid.new.cells c.apply-laid.result c.apply-laid.new.row c.apply-laid.ensures c.apply-laid.auto.cells h t.1 p.1).0 in
    record { shows = (_, g.shows); size = omega (arith, g.size_is, g.fits) }

pub returns : goal.returns
returns c s h t p a b =
    let r = c.requires.ready in
    let i = c.args.target in
    let w = apply t p (free_cells s) in
    let g = last i c.args.second r c.start-patch.result c.lift-size.result c.lift-size.ensures.size c.lift-size.ensures.is c.start-patch.ensures.is c.apply-laid.new.cells c.apply-laid.result c.apply-laid.new.row c.apply-laid.ensures c.apply-laid.auto.cells h a b in
    record {
      shows = subst (λ m. Shows c.land.new.self (with_slots s m)) (set-set s.slots i.number None (Some w.left))
          (c.land.ensures _ i.number w.left (record { own = refl; beside = record { shows = g.0.shows; loose = g.0.loose }; empty = g.0.empty; cells = omega (arith, g.0.size_is) }));
      tells = g.1;
      few = g.0.few;
    }
