use Rattle.std.proofs.Common.{ap, ◌∙◌, arith}
use Rattle.trees.specs.Place.{position_from}
use Rattle.cells.specs.Layout.{kids}
use Rattle.cells.proofs.Readings.{lies_read, lies_sound}
use Rattle.shelf.proofs.Spots.{at_lies, at_sound, at_own, at_within}
use Rattle.shelf.proofs.rack.Rack.field.Goals as goal

pub at-requires : goal.at-requires
at-requires c =
    let h = c.requires in
    let l = at_lies h.holds h.there _ c.args.spot.now.slot.low (c.start.ensures.is _ h.holds.shows) in
    record { whole = (lies_read l).whole; sane = lies_sound l (at_sound h.holds h.there) }

pub returns : goal.returns
returns c s n path h a =
    let l = at_lies h (at_own h a) _ c.args.spot.now.slot.low (c.start.ensures.is s h.shows) in
    c.index_of.ensures ∙ ap (λ t. position_from 0 c.args.name.now (kids t)) (c.at.ensures.tree ∙ (lies_read l).tree)

pub overflow_add-start : goal.overflow_add-start
overflow_add-start c =
    let h = c.requires in
    let sh = h.holds.shows in
    omega (arith, at_within h.holds h.there c.args.spot.now.slot.low, c.start.ensures.within)
