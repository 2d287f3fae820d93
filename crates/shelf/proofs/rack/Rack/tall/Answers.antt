use Rattle.std.proofs.Common.{ap, ◌∙◌, arith}
use Rattle.trees.specs.Tree.{height}
use Rattle.cells.proofs.Readings.{lies_read, lies_stand_at}
use Rattle.shelf.proofs.Spots.{slot_tree, slot_lies}
use Rattle.shelf.proofs.rack.Rack.tall.Goals as goal

pub height_of-requires : goal.height_of-requires
height_of-requires c =
    let h = c.requires.holds.1 in
    let t = slot_tree h c.args.slot.number _ c.args.slot.low c.requires.tree (c.start.ensures.is _ h.shows) in
    lies_stand_at 16 t.1 t.2

pub returns : goal.returns
returns c =
    let h = c.requires.holds.1 in
    let t = slot_tree h c.args.slot.number _ c.args.slot.low c.requires.tree (c.start.ensures.is _ h.shows) in
    record {
      is = λ s t h k. c.height_of.ensures ∙ ap height (lies_read (slot_lies h c.args.slot.number _ c.args.slot.low k (c.start.ensures.is s h.shows))).tree;
      low = omega (arith, c.height_of.ensures, ap height (lies_read t.1).tree);
    }
