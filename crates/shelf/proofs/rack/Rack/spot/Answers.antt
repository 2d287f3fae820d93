use Rattle.std.proofs.Common.{◌≡◌, ◌<◌, length, take, sym, refl, ap, ◌∙◌, subst, arith}
use Rattle.trees.specs.Place.{find}
use Rattle.trees.specs.State.{slot, used}
use Rattle.shelf.proofs.Runs.{some_at}
use Rattle.shelf.proofs.Spots.{slot_tree, slot_lies, spot_at, found_low, at_plain}
use Rattle.shelf.proofs.rack.Rack.spot.Goals as goal

pub find-requires : goal.find-requires
find-requires c =
    let h = c.requires.holds.1 in
    slot_tree h c.args.slot.number _ c.args.slot.low c.requires.tree (c.start-start.ensures.is _ h.shows)

pub overflow_sub-result : goal.overflow_sub-result
overflow_sub-result c =
    let h = c.requires.holds.1 in
    let t = some_at h.shows.lies c.args.slot.number c.args.slot.low c.requires.tree in
    let w = c.in-Some.ensures t.0 (slot_lies h c.args.slot.number _ c.args.slot.low t.1 (c.start-start.ensures.is _ h.shows)) in
    omega (arith, w.1)

below : (c : goal.In-Some) → (c.in-Some.at < length c.args.self.now.cells.now) × (c.in-Some.at < 4096)
below c =
    let h = c.requires.holds.1 in
    let t = some_at h.shows.lies c.args.slot.number c.args.slot.low c.requires.tree in
    let q = c.start-start.ensures.is _ h.shows in
    let w = c.in-Some.ensures t.0 (slot_lies h c.args.slot.number _ c.args.slot.low t.1 q) in
    found_low h c.args.slot.number _ _ c.args.path.now c.args.slot.low q t.1 w.0.1 w.1

pub bounds-self-at : goal.bounds-self-at
bounds-self-at c = (below c).0

pub offset_bounds-self-at : goal.offset_bounds-self-at
offset_bounds-self-at c = omega (arith, (below c).1)

pub returns-in-Some : goal.returns-in-Some
returns-in-Some c =
    let i = c.args.slot.number in
    let lt = c.args.slot.low in
    let p = c.args.path.now in
    record {
      found = λ s k o h.
          let e : slot s.slots i ≡ slot s.slots k = ap (slot s.slots) o in
          let t = some_at h.shows.lies i lt c.requires.tree in
          let q = c.start-start.ensures.is s h.shows in
          let w = c.in-Some.ensures t.0 (slot_lies h i _ lt t.1 q) in
          spot_at h c.args.slot k _ _ _ p _ o (subst (λ n. n < 16) o lt) (q ∙ ap (λ k. used (take k s.slots)) o) (sym e ∙ t.1) w.0.1 w.1 (omega (arith, w.1));
      plain =
          let s = c.requires.holds.0 in
          let h = c.requires.holds.1 in
          let t = some_at h.shows.lies i lt c.requires.tree in
          let q = c.start-start.ensures.is s h.shows in
          let w = c.in-Some.ensures t.0 (slot_lies h i _ lt t.1 q) in
          at_plain h (spot_at h c.args.slot i _ _ _ p _ refl lt q t.1 w.0.1 w.1 (omega (arith, w.1)));
    }

pub returns-in-None : goal.returns-in-None
returns-in-None c =
    record {
      found = λ s k o h.
          let t = some_at h.shows.lies c.args.slot.number c.args.slot.low c.requires.tree in
          ap (λ n. find (slot s.slots n) c.args.path.now) (sym o) ∙ ap (λ o. find o c.args.path.now) t.1 ∙ c.in-None.ensures t.0 (slot_lies h c.args.slot.number _ c.args.slot.low t.1 (c.start-start.ensures.is s h.shows));
      plain = tt;
    }
