-- How lent cells hold a shelf's state.
use Rattle.std.specs.Prelude.{◌≡◌, ℕ, ◌+◌, ◌≤◌, List, [], ◌∷◌, ◌++◌, map, length, take, drop, Some, None, Option, slice_index, slice_set}
use Rattle.trees.specs.Tree.{Tree, size as nodes_of, IsSound}
use Rattle.trees.specs.State.{Slots, State, slot_count, slot as in_slot, nodes, used as nodes_in}
use Rattle.trees.specs.Keeps.{Everywhere}
use Rattle.cells.specs.declared.types.Cell.{Cell}
use Rattle.cells.specs.Layout.{encode}
use Rattle.shelf.specs.declared.rack.Rack.{Rack}
use Rattle.shelf.specs.declared.places.Spot.{Spot}

-- the cells of a slot: those of its tree, whose root stands under no name
abbrev pub run : Option Tree → List Cell
run None = []
run (Some t) = encode [] t

-- the cells of the slots, one slot after the other
abbrev pub laid : Slots → List Cell
laid [] = []
laid (o ∷ slots) = run o ++ laid slots

-- the first cells are those of the sixteen slots, and sizes tells how many each slot has
pub record IsLaid (cells : List Cell) (sizes : List ℕ) (slots : Slots) : Type 0 where
  pub sixteen : length slots ≡ slot_count
  pub is : take (nodes_in slots) cells ≡ laid slots
  pub sized : sizes ≡ map nodes slots

-- what the saved area holds: the slots as of the mark, if one is open
abbrev pub IsKept : List Cell → Option (List ℕ) → ℕ → Option Slots → Type 0
IsKept cells None room None = Unit {0}
IsKept cells None room (Some slots) = ⊥
IsKept cells (Some sizes) room None = ⊥
IsKept cells (Some sizes) room (Some slots) = IsLaid cells sizes slots × (nodes_in slots ≤ room)

-- the shelf shows the state: its slots lie in the lent cells, and those that a mark saved in the saved area
pub record Shows (i : Rack) (s : State) : Type 0 where
  pub lies : IsLaid i.cells.now i.sizes s.slots
  pub used : i.used ≡ nodes_in s.slots
  pub room : i.room ≡ s.capacity
  pub fits : nodes_in s.slots ≤ s.capacity
  pub lent : s.capacity ≤ length i.cells.now
  pub spare : s.capacity ≤ length i.saved.now
  pub most : s.capacity ≤ 4096
  pub kept : IsKept i.saved.now i.mark s.capacity s.saved

-- it holds the state: every tree is sound besides
pub record Holds (i : Rack) (s : State) : Type 0 where
  pub shows : Shows i s
  pub sound : Everywhere IsSound s

-- a run of cells lies loose behind those that are used
pub record IsLoose (i : Rack) (out : List Cell) : Type 0 where
  pub rest : List Cell
  pub is : drop i.used i.cells.now ≡ out ++ rest
  pub fits : i.used + length out ≤ i.room

-- the shelf shows the state, and a run lies loose beside it
pub record ShowsBeside (i : Rack) (s : State) (out : List Cell) : Type 0 where
  pub shows : Shows i s
  pub loose : IsLoose i out

-- the tree t lies loose and has so many cells, and the slot is empty
pub record Lands (i : Rack) (slot size : ℕ) (s : State) (k : ℕ) (t : Tree) : Type 0 where
  pub own : slot ≡ k
  pub beside : ShowsBeside i s (encode [] t)
  pub empty : in_slot s.slots k ≡ None
  pub cells : size ≡ nodes_of t

-- no slot has changed its size
pub record IsStill (i j : Rack) : Type 0 where
  pub used : j.used ≡ i.used
  pub room : j.room ≡ i.room
  pub sizes : j.sizes ≡ i.sizes

-- a slot's size has become n
pub record IsSized (i j : Rack) (slot n : ℕ) : Type 0 where
  pub sizes : j.sizes ≡ slice_set i.sizes slot n
  pub used : j.used + slice_index i.sizes slot ≡ i.used + n
  pub room : j.room ≡ i.room

-- in the cells of t a run is taken out at a place and another put in, and the cell of a node before it is written: those are the cells of t'
pub record Trade (t t' : Tree) (node at : ℕ) (cell : Cell) (out new : List Cell) : Type 0 where
  pub p : List Cell
  pub a : List Cell
  pub b : List Cell
  pub x : Cell
  pub whole : encode [] t ≡ p ++ (x ∷ (a ++ (out ++ b)))
  pub changed : encode [] t' ≡ p ++ (cell ∷ (a ++ (new ++ b)))
  pub node_is : length p ≡ node
  pub place : node + 1 + length a ≡ at

-- the loose run can take another's place in the slot's tree, which is t' then
pub record Trades (i : Rack) (spot : Spot) (cell : Cell) (at old size : ℕ) (s : State) (k : ℕ) (t' : Tree) (out : List Cell) : Type 0 where
  pub own : spot.slot.number ≡ k
  pub tree : Tree
  pub holds : in_slot s.slots k ≡ Some tree
  pub new : List Cell
  pub beside : ShowsBeside i s new
  pub trade : Trade tree t' spot.node at cell out new
  pub taken : length out ≡ old
  pub given : length new ≡ size

-- the first n cells are copied to the saved area, and nothing else is changed
pub record Copies (i j : Rack) (n : ℕ) : Type 0 where
  pub saved : j.saved.now ≡ take n i.cells.now ++ drop n i.saved.now
  pub long : length j.saved.now ≡ length i.saved.now
  pub cells : j.cells ≡ i.cells
  pub sizes : j.sizes ≡ i.sizes
  pub used : j.used ≡ i.used
  pub room : j.room ≡ i.room

-- the first n cells are copied back
pub record Returns (i j : Rack) (n : ℕ) : Type 0 where
  pub cells : j.cells.now ≡ take n i.saved.now ++ drop n i.cells.now
  pub long : length j.cells.now ≡ length i.cells.now
  pub saved : j.saved ≡ i.saved
  pub room : j.room ≡ i.room
