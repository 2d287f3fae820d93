-- Children taken out of a node: one of them, or all with another variant.
use Rattle.std.proofs.Common.{◌≡◌, ℕ, ◌+◌, ◌-◌, ◌<◌, List, [], length, set, Some, sym, refl, ap, ◌∙◌, subst, arith}
use Rattle.std.specs.Option.{option_map}
use Rattle.trees.specs.declared.codes.VariantType.{VariantType}
use Rattle.trees.specs.Name.{Name}
use Rattle.trees.specs.declared.head.Head.TheVariants.{Enum as enum}
use Rattle.trees.specs.Tree.{Tree, node, empty, count, at}
use Rattle.trees.specs.Place.{change_in, change_children, take_at, label_at}
use Rattle.trees.specs.State.{State, slot, put_slot, with_slots}
use Rattle.trees.specs.Tests.{node_at, children}
use Rattle.trees.specs.Deeds.{changed, move_out}
use Rattle.cells.specs.Layout.{kids, before, label_in, cell_of, with_count, encode, encodes}
use Rattle.cells.specs.declared.types.Cell.{Cell}
use Rattle.trees.specs.declared.head.Head.TheVariants as value
use Rattle.cells.proofs.Layouts.{length-encode, length-encodes, at_there, before_first, cell_label}
use Rattle.cells.proofs.Swaps.{swap_take_at, swap_all, count_take_at}
use Rattle.cells.proofs.Focuses.{Replaced, replaced, replaced_kids, before_next, before_all}
use Rattle.shelf.specs.declared.rack.Rack.{Rack}
use Rattle.shelf.specs.declared.places.Spot.{Spot}
use Rattle.shelf.specs.Holds.{Shows, Holds}
use Rattle.shelf.specs.Places.{At}
use Rattle.shelf.specs.Changes.{Renews}
use Rattle.shelf.proofs.Spots.{at_count}
use Rattle.shelf.proofs.Trades.{recounted}

-- a child of the node, and the node without it
pub record Child {s : State} {k : ℕ} {path : List ℕ} {spot : Spot} (a : At s k path spot) (index : ℕ) : Type 0 where
  pub child : Tree
  pub label : Name
  pub is : at index (kids a.goal) ≡ Some child
  pub fits : with_count spot.cell (spot.cell.children - 1) ≡ cell_of (label_in [] (Some a.tree) path) (change_children (take_at index) a.goal)
  pub swap : Replaced path [] a.tree (change_in path (change_children (take_at index)) a.tree) a.goal (change_children (take_at index) a.goal) index (encode label child) []
  pub room : before index (kids a.goal) + length (encode label child) ≡ before (index + 1) (kids a.goal)

pub child : {i : Rack} {s : State} {k : ℕ} {path : List ℕ} {spot : Spot} (h : Holds i s) (a : At s k path spot) (index : ℕ) → index < spot.cell.children → Child a index
child {i} {s} {k} {path} {spot} h a index lt =
    let f = kids a.goal in
    let n = at_count h a in
    let v = at_there f index (omega arith) in
    let l = label_at index f in
    record {
      child = v.0;
      label = l;
      is = v.1;
      fits = recounted a (take_at index) _ (omega (arith, count_take_at f index (omega arith)));
      swap = replaced_kids (take_at index) path [] a.tree a.reached (swap_take_at f index v.1);
      room = omega (arith, before_next f index v.1, length-encode l v.0);
    }

-- that child out of the node
pub without : {s : State} {k : ℕ} {path : List ℕ} {spot : Spot} (a : At s k path spot) (index : ℕ) (c : Child a index) {cell : Cell} → cell ≡ with_count spot.cell (spot.cell.children - 1)
    → Renews s k path spot index (index + 1) cell (change_in path (change_children (take_at index)) a.tree) (encode c.label c.child) []
without a index c e = record { there = a; goal = change_children (take_at index) a.goal; becomes = e ∙ c.fits; replaced = c.swap; room = c.room }

-- a child moved to another slot
pub moved_out : {i : Rack} (s : State) (k : ℕ) (path : List ℕ) (j index : ℕ) {t v : Tree} → slot s.slots k ≡ Some t → at index (children (node_at s k path)) ≡ Some v
    → Shows i (put_slot (put_slot s k (Some (change_in path (change_children (take_at index)) t))) j (Some v)) → Shows i (move_out s k path j index)
moved_out {i} s k path j index {t} {v} a b h =
    subst (λ o. Shows i (with_slots s (set (set s.slots k (changed s k path (change_children (take_at index)))) j o))) (sym b)
    (subst (λ o. Shows i (with_slots s (set (set s.slots k (option_map (change_in path (change_children (take_at index))) o)) j (Some v)))) (sym a) h)

-- a tree changed in its slot
pub put_changed : {i : Rack} (s : State) (k : ℕ) (path : List ℕ) (change : Tree → Tree) {t : Tree} → slot s.slots k ≡ Some t → Shows i (put_slot s k (Some (change_in path change t))) → Shows i (put_slot s k (changed s k path change))
put_changed {i} s k path change a h = subst (λ o. Shows i (put_slot s k (option_map (change_in path change) o))) (sym a) h

-- the node as another variant without fields
module _ {i : Rack} {s : State} {k : ℕ} {path : List ℕ} {spot : Spot} (h : Holds i s) (a : At s k path spot) (v : VariantType) (name : Name) (index : ℕ) where
  pub reset_cell : {x : VariantType} {y : Name} → x ≡ v → y ≡ name
      → ◌≡◌ {A = Cell} (record { label = spot.cell.label; head = value.Enum x y index; children = 0 }) (cell_of (label_in [] (Some a.tree) path) (node (enum v name index) empty))
  reset_cell {x} {y} e q =
      let l : spot.cell.label ≡ (label_in [] (Some a.tree) path) = ap (λ (c : Cell). c.label) a.cell ∙ cell_label (label_in [] (Some a.tree) path) a.goal in
      λ z. record { label = l z; head = value.Enum (e z) (q z) index; children = 0 }

  reset_swap : Replaced path [] a.tree (change_in path (λ t. node (enum v name index) empty) a.tree) a.goal (node (enum v name index) empty) 0 (encodes (kids a.goal)) []
  reset_swap = replaced (λ t. node (enum v name index) empty) path [] a.tree (node (enum v name index) empty) a.reached refl (swap_all (kids a.goal) empty)

  reset_room : before 0 (kids a.goal) + length (encodes (kids a.goal)) ≡ before spot.cell.children (kids a.goal)
  reset_room =
      let f = kids a.goal in
      let e : before spot.cell.children f ≡ before (count f) f = ap (λ n. before n f) (at_count h a) in
      omega (arith, before_first f, length-encodes f, before_all f)

  pub reset : {cell : Cell} → cell ≡ cell_of (label_in [] (Some a.tree) path) (node (enum v name index) empty)
      → Renews s k path spot 0 spot.cell.children cell (change_in path (λ t. node (enum v name index) empty) a.tree) (encodes (kids a.goal)) []
  reset e = record { there = a; goal = node (enum v name index) empty; becomes = e; replaced = reset_swap; room = reset_room }
