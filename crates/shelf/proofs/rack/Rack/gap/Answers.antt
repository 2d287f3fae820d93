use Rattle.std.proofs.Common.{ap, arith}
use Rattle.trees.specs.Tree.{count}
use Rattle.cells.specs.Layout.{kids, before}
use Rattle.cells.proofs.Readings.{lies_read, lies_stand_at}
use Rattle.cells.proofs.Focuses.{place_within}
use Rattle.shelf.proofs.Spots.{at_lies, at_low, at_count, at_own, at_within}
use Rattle.shelf.proofs.rack.Rack.gap.Goals as goal

pub overflow_add-start : goal.overflow_add-start
overflow_add-start c =
    let h = c.requires in
    let sh = h.holds.shows in
    omega (arith, at_within h.holds h.there c.args.spot.now.slot.low, c.start-start.ensures.within)

pub child_at-requires : goal.child_at-requires
child_at-requires c =
    let h = c.requires in
    let a = h.there in
    let l = at_lies h.holds a _ c.args.spot.now.slot.low (c.start-start.ensures.is _ h.holds.shows) in
    record { tree = lies_stand_at 16 l (at_low h.holds a); index = omega (arith, h.many, at_count h.holds a, ap (λ v. count (kids v)) (lies_read l).tree) }

pub overflow_sub-result : goal.overflow_sub-result
overflow_sub-result c =
    let h = c.requires in
    let a = h.there in
    omega (arith, c.child_at.ensures, ap (λ v. before c.args.i (kids v)) (lies_read (at_lies h.holds a _ c.args.spot.now.slot.low (c.start-start.ensures.is _ h.holds.shows))).tree)

pub returns : goal.returns
returns c =
    let h = c.requires in
    let a = h.there in
    let w = ap (λ v. before c.args.i (kids v)) (lies_read (at_lies h.holds a _ c.args.spot.now.slot.low (c.start-start.ensures.is _ h.holds.shows))).tree in
    record {
      is = λ s n path k b. omega (arith, c.child_at.ensures, ap (λ v. before c.args.i (kids v)) (lies_read (at_lies k (at_own k b) _ c.args.spot.now.slot.low (c.start-start.ensures.is s k.shows))).tree);
      within = (omega (arith, c.child_at.ensures, w), omega (arith, c.child_at.ensures, w, at_within h.holds a c.args.spot.now.slot.low, place_within a.goal c.args.i));
    }
