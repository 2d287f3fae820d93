-- Children of a node that are taken out of a slot's tree, or replaced by the tree of another slot.
use Rattle.std.specs.Prelude.{◌≡◌, ℕ, ◌+◌, List, [], length, Some, None}
use Rattle.trees.specs.Tree.{Tree, Forest, count}
use Rattle.trees.specs.State.{State, slot as in_slot, put_slot}
use Rattle.trees.specs.Deeds.{move_in}
use Rattle.cells.specs.Layout.{encode, cell_of, label_in, kids, before}
use Rattle.cells.specs.declared.types.Cell.{Cell}
use Rattle.cells.proofs.Focuses.{Replaced}
use Rattle.cells.proofs.Swaps.{Swap}
use Rattle.shelf.specs.declared.rack.Rack.{Rack}
use Rattle.shelf.specs.declared.places.Spot.{Spot}
use Rattle.shelf.specs.declared.slot.Slot.{Slot}
use Rattle.shelf.specs.Holds.{Shows, ShowsBeside}
use Rattle.shelf.specs.Places.{At, IsMet}

-- a run of cells can take the place of those children in the slot's tree, which is t then
pub record Renews (s : State) (k : ℕ) (path : List ℕ) (spot : Spot) (from end : ℕ) (cell : Cell) (t : Tree) (out new : List Cell) : Type 0 where
  pub there : At s k path spot
  -- the node as it is then, and its cell
  pub goal : Tree
  pub becomes : cell ≡ cell_of (label_in [] (Some there.tree) path) goal
  pub replaced : Replaced path [] there.tree t there.goal goal from out new
  -- the cells taken out are those of the children
  pub room : before from (kids there.goal) + length out ≡ before end (kids there.goal)

-- wherever the tree w, out of the slot j, can take their place under a name, it does
abbrev pub Grafts : Rack → State → Spot → ℕ → ℕ → Cell → ℕ → List ℕ → Tree → Type 0
Grafts i s spot from end cell j label w =
    (k : ℕ) (path : List ℕ) (t : Tree) (out : List Cell) → Renews s k path spot from end cell t out (encode label w) → ShowsBeside i (put_slot (put_slot s j None) k (Some t)) out

-- a run has been taken out and lies loose, and has n cells
pub record Cut (i : Rack) (s : State) (out : List Cell) (n : ℕ) : Type 0 where
  pub beside : ShowsBeside i s out
  pub cells : n ≡ length out

-- wherever nothing can take their place, they are taken out
abbrev pub Cuts : Rack → State → Spot → ℕ → ℕ → Cell → ℕ → Type 0
Cuts i s spot from end cell n =
    (k : ℕ) (path : List ℕ) (t : Tree) (out : List Cell) → Renews s k path spot from end cell t out [] → Cut i (put_slot s k (Some t)) out n

-- the children g are those of f with one more at i, whose cells are these
pub record IsAdded (f g : Forest) (i : ℕ) (run : List Cell) : Type 0 where
  pub one : count g ≡ count f + 1
  pub swap : Swap f g i [] run

-- whatever change of the children adds the second slot's tree, it is made
abbrev pub Adds : {s : State} {k : ℕ} {path : List ℕ} {j : ℕ} {found : Spot × Slot} → Rack → IsMet s k path j found → ℕ → List ℕ → Type 0
Adds {s} {k} {path} {j} r m i label =
    (change : Tree → Forest → Forest) → IsAdded (kids m.there.goal) (change m.other (kids m.there.goal)) i (encode label m.other) → Shows r (move_in s k path j change (in_slot s.slots j))
