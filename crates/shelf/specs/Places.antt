-- Nodes in the trees of slots, and the tests that calls with a path begin with.
use Rattle.std.specs.Prelude.{◌≡◌, ℕ, ◌<◌, ◌≤◌, ◌||◌, List, [], ◌∷◌, length, Some, None, nat_eq, slice_index, slice_index_or}
use Rattle.trees.specs.declared.codes.Refusal.TheVariants.{Slot as no_slot, Empty, Taken, Same, Path}
use Rattle.trees.specs.Tree.{Tree}
use Rattle.trees.specs.Place.{find}
use Rattle.trees.specs.State.{State, slot as in_slot}
use Rattle.trees.specs.Tests.{Test, ◌by◌, over, vacant, taken, is_none, node_at}
use Rattle.cells.specs.Layout.{cell_of, far, label_in}
use Rattle.shelf.specs.declared.rack.Rack.{Rack}
use Rattle.shelf.specs.declared.places.Spot.{Spot}
use Rattle.shelf.specs.declared.slot.Slot.{Slot}
use Rattle.shelf.specs.Holds.{Holds}

-- the tests that a call at a node of one slot begins with
abbrev pub standing : State → ℕ → List ℕ → List Test
standing s i path = over i by no_slot ∷ vacant s i by Empty ∷ is_none (node_at s i path) by Path ∷ []

-- those of a call that moves the second slot's tree to a node of the first's
abbrev pub meeting : State → ℕ → List ℕ → ℕ → List Test
meeting s i path j =
    (over i || over j) by no_slot ∷
    (vacant s i || vacant s j) by Empty ∷
    nat_eq i j by Same ∷
    is_none (node_at s i path) by Path ∷
    []

-- those of a call that moves a part of a slot's tree to the empty second slot
abbrev pub leaving : State → ℕ → List ℕ → ℕ → List Test
leaving s i path j =
    (over i || over j) by no_slot ∷
    vacant s i by Empty ∷
    taken s j by Taken ∷
    is_none (node_at s i path) by Path ∷
    []

-- the node to which the path leads in the slot's tree: its place behind the root, and its cell
pub record At (s : State) (slot : ℕ) (path : List ℕ) (spot : Spot) : Type 0 where
  pub own : spot.slot.number ≡ slot
  pub tree : Tree
  pub holds : in_slot s.slots slot ≡ Some tree
  pub goal : Tree
  pub reached : find (Some tree) path ≡ Some goal
  pub place : spot.node ≡ far (Some tree) path
  pub cell : spot.cell ≡ cell_of (label_in [] (Some tree) path) goal

-- that node, and the other slot's tree
pub record IsMet (s : State) (slot : ℕ) (path : List ℕ) (second : ℕ) (found : Spot × Slot) : Type 0 where
  pub there : At s slot path found.0
  pub own : found.1.number ≡ second
  pub other : Tree
  pub in_second : in_slot s.slots second ≡ Some other

-- that node, and the other slot that is empty
pub record IsLeft (s : State) (slot : ℕ) (path : List ℕ) (second : ℕ) (found : Spot × Slot) : Type 0 where
  pub there : At s slot path found.0
  pub own : found.1.number ≡ second
  pub apart : second ≡ slot → ⊥
  pub free : in_slot s.slots second ≡ None

-- what is told of the node in numbers
pub record IsPlain (i : Rack) (path : List ℕ) (spot : Spot) : Type 0 where
  pub place : spot.node < slice_index i.sizes spot.slot.number
  pub few : spot.cell.children < 4096
  pub short : length path < 16

-- a slot that holds a tree, and one that is empty
abbrev pub IsFull : Rack → Slot → Type 0
IsFull i slot = 0 < slice_index i.sizes slot.number

abbrev pub IsBare : Rack → Slot → Type 0
IsBare i slot = slice_index_or i.sizes slot.number 0 ≤ 0

-- the spot is a node of its slot's tree, with so many children or more
pub record Here (i : Rack) (spot : Spot) (n : ℕ) : Type 0 where
  pub state : State
  pub holds : Holds i state
  pub path : List ℕ
  pub there : At state spot.slot.number path spot
  pub many : n ≤ spot.cell.children
