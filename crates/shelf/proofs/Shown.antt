-- What a look at a node and at its children's names shows.
use Rattle.std.proofs.Common.{◌≡◌, ℕ, ◌+◌, ◌<◌, List, ◌++◌, length, get_or, take, drop, Some, sym, refl, ap, ◌∙◌, append_assoc, arith, drop-drop, drop_at}
use Rattle.trees.specs.Name.{Name}
use Rattle.trees.specs.Tree.{Tree, node, Forest, count, variant_name}
use Rattle.trees.specs.Place.{label_at}
use Rattle.trees.specs.State.{State, used}
use Rattle.trees.specs.Tests.{node_at}
use Rattle.trees.specs.Calls.{accepted, in_front}
use Rattle.trees.specs.Deeds.{looked, seen_head}
use Rattle.cells.specs.Layout.{LieAll, kids, root, before, encode}
use Rattle.cells.specs.declared.types.Cell.{Cell}
use Rattle.cells.proofs.Layouts.{lies_kids, first_cell, cell_label, at_there, lie_at}
use Rattle.cells.proofs.Swaps.{among}
use Rattle.shelf.specs.declared.rack.Rack.{Rack}
use Rattle.shelf.specs.declared.places.Spot.{Spot}
use Rattle.shelf.specs.Holds.{Holds}
use Rattle.shelf.specs.Places.{At}
use Rattle.shelf.proofs.Spots.{at_lies, at_count, at_head, at_node}

-- the first cell of a child, and its name
pub record Kid (cells : List Cell) (pos : ℕ) (name : Name) : Type 0 where
  pub below : pos < length cells
  pub called : (d : Cell) → (get_or cells pos d).label ≡ name

kid_at : {cells : List Cell} (pos : ℕ) (f : Forest) (i n : ℕ) → LieAll cells pos f → i < count f → n ≡ pos + before i f → Kid cells n (label_at i f)
kid_at {cells} pos f i n a lt e =
    let v = at_there f i lt in
    let x = among f i v.1 in
    let l = label_at i f in
    let w : drop pos cells ≡ x.pre ++ (encode l v.0 ++ (x.post ++ a.rest)) = a.is ∙ ap (λ y. y ++ a.rest) x.whole ∙ simp append_assoc in
    let k : drop n cells ≡ encode l v.0 ++ (x.post ++ a.rest) = ap (λ m. drop m cells) e ∙ sym (drop-drop (before i f) pos cells) ∙ ap (drop (before i f)) w ∙ drop_at x.pre _ (before i f) x.far in
    let b = lie_at pos f i a v.1 in
    record {
      below = omega (arith, b.begins);
      called = λ d. ap (λ (y : Cell). y.label) (first_cell cells n l v.0 _ d k) ∙ cell_label l v.0;
    }

module _ {i : Rack} {s : State} {k : ℕ} {path : List ℕ} {spot : Spot} (h : Holds i s) (a : At s k path spot) where
  pub kid : (start pos index : ℕ) → k < 16 → start ≡ used (take k s.slots) → index < spot.cell.children → pos ≡ start + (spot.node + 1 + before index (kids a.goal)) → Kid i.cells.now pos (label_at index (kids a.goal))
  kid start pos index lt q n e =
      kid_at (start + spot.node + 1) (kids a.goal) index pos (lies_kids a.goal (at_lies h a start lt q)) (omega (arith, at_count h a)) (omega arith)

  -- a look at the node
  pub looks_at : (row : List ℕ) → looked s (node_at s k path) row ≡ accepted s (seen_head spot.cell.head spot.cell.children) (in_front (variant_name spot.cell.head) row)
  looks_at row =
      ap (λ o. looked s o row) (at_node h a) ∙ go a.goal
      ∙ ap (λ x. accepted s (seen_head x (count (kids a.goal))) (in_front (variant_name x) row)) (sym (at_head h a))
      ∙ ap (λ n. accepted s (seen_head spot.cell.head n) (in_front (variant_name spot.cell.head) row)) (sym (at_count h a))
    where
      go : (u : Tree) → looked s (Some u) row ≡ accepted s (seen_head (root u) (count (kids u))) (in_front (variant_name (root u)) row)
      go (node x f) = refl
