use Rattle.std.proofs.Common.{[], ◌∙◌, arith}
use Rattle.trees.specs.Place.{change_in, change_children}
use Rattle.cells.proofs.Focuses.{replaced_kids}
use Rattle.shelf.proofs.Spots.{at_plain, at_count}
use Rattle.shelf.proofs.Trades.{recounted, moved_in}
use Rattle.shelf.proofs.rack.Rack.add.Goals as goal

pub overflow_add-spot : goal.overflow_add-spot
overflow_add-spot c =
    let h = c.requires.here in
    omega (arith, (at_plain h.holds h.there).few)

pub returns : goal.returns
returns c s k path j h m change x =
    let a = m.there in
    let u = m.other in
    let n = at_count h a in
    let q = x.one in
    moved_in s k path j change a.holds m.in_second
    (c.graft.ensures s j u h m.own m.in_second k path (change_in path (change_children (change u)) a.tree) [] (record {
      there = a;
      goal = change_children (change u) a.goal;
      becomes = c.with_children-cell.ensures ∙ recounted a (change u) _ (omega arith);
      replaced = replaced_kids (change u) path [] a.tree a.reached x.swap;
      room = omega arith;
    })).shows
