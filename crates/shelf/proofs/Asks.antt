-- Trees of slots that are asked about: where they lie, and what the answers are.
use Rattle.std.proofs.Common.{◌≡◌, ℕ, ◌<◌, get_or, take, Some}
use Rattle.trees.specs.Tree.{Tree, IsSound}
use Rattle.trees.specs.State.{State, slot, used}
use Rattle.cells.specs.Layout.{Lies}
use Rattle.shelf.specs.declared.rack.Rack.{Rack}
use Rattle.shelf.specs.Holds.{Holds}
use Rattle.shelf.proofs.Runs.{some_at}
use Rattle.shelf.proofs.Spots.{slot_sound, slot_lies}

-- the tree of a slot, which lies at the slot's beginning
pub record Asked (i : Rack) (s : State) (k at : ℕ) : Type 0 where
  pub tree : Tree
  pub is : slot s.slots k ≡ Some tree
  pub lies : Lies i.cells.now at tree
  pub sound : IsSound tree

pub asked : {i : Rack} {s : State} (h : Holds i s) (k at : ℕ) → k < 16 → 0 < get_or i.sizes k 0 → at ≡ used (take k s.slots) → Asked i s k at
asked h k at lt z e =
    let t = some_at h.shows.lies k lt z in
    record { tree = t.0; is = t.1; lies = slot_lies h k at lt t.1 e; sound = slot_sound h k t.1 }
