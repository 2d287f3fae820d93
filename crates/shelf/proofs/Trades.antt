-- A run of cells that takes another's place in a tree, and what that makes of the tree.
use Rattle.std.proofs.Common.{◌≡◌, ℕ, zero, suc, ◌+◌, ◌≤◌, List, [], ◌∷◌, ◌++◌, length, drop, Some, None, sym, refl, ap, ◌∙◌, subst, arith}
use Rattle.std.specs.Option.{option_map}
use Rattle.trees.specs.Name.{Name}
use Rattle.trees.specs.Tree.{Tree, Forest, empty, more, count, at}
use Rattle.trees.specs.Place.{change_in, change_children, add_last, insert_under, position_from}
use Rattle.trees.specs.State.{State, slot, put_slot}
use Rattle.trees.specs.Deeds.{move_in}
use Rattle.cells.specs.Layout.{kids, before, far, label_in, cell_of, with_count, encode}
use Rattle.cells.specs.declared.types.Cell.{Cell}
use Rattle.cells.proofs.Layouts.{length-encode}
use Rattle.cells.proofs.Swaps.{Swap, placed, insert_old, insert_new, swap_insert_old, swap_add_last, count-add_last, count-put}
use Rattle.cells.proofs.Changes.{cell_changed}
use Rattle.cells.proofs.Focuses.{Replaced, replaced_kids, before_next}
use Rattle.shelf.specs.declared.rack.Rack.{Rack}
use Rattle.shelf.specs.declared.places.Spot.{Spot}
use Rattle.shelf.specs.declared.slot.Slot.{Slot}
use Rattle.shelf.specs.Holds.{Shows, Holds, Trade, IsLoose}
use Rattle.shelf.specs.Places.{At, IsMet}
use Rattle.shelf.specs.Changes.{IsAdded, Renews}
use Rattle.shelf.proofs.Spots.{at_count}

pub trade_of : {path : List ℕ} {t t' u u' : Tree} {i : ℕ} {out new : List Cell} (n at : ℕ) (cell : Cell) → Replaced path [] t t' u u' i out new → cell ≡ cell_of (label_in [] (Some t) path) u' → n ≡ far (Some t) path → at ≡ n + 1 + before i (kids u) → Trade t t' n at cell out new
trade_of {path} {t} {t'} {u} {u'} {i} {out} {new} n at cell r e k z =
    record {
      p = r.p;
      a = r.a;
      b = r.b;
      x = cell_of (label_in [] (Some t) path) u;
      whole = r.whole;
      changed = r.changed ∙ ap (λ y. r.p ++ (y ∷ (r.a ++ (new ++ r.b)))) (sym e);
      node_is = r.node ∙ sym k;
      place = omega (arith, r.place);
    }

-- later children lie further on
pub before_mono : (f : Forest) (i j : ℕ) → i ≤ j → before i f ≤ before j f
before_mono empty zero zero h = omega arith
before_mono empty zero (suc j) h = omega arith
before_mono empty (suc i) zero h = omega arith
before_mono empty (suc i) (suc j) h = omega arith
before_mono (more l t f) zero zero h = omega arith
before_mono (more l t f) zero (suc j) h = omega arith
before_mono (more l t f) (suc i) zero h = absurd (omega arith)
before_mono (more l t f) (suc i) (suc j) h = omega (arith, before_mono f i j (omega arith))

-- nothing lies loose
pub loose_none : {i : Rack} {s : State} → Shows i s → IsLoose i []
loose_none {i} {s} h = record { rest = drop i.used i.cells.now; is = refl; fits = omega arith }

-- the node's cell with other children
pub recounted : {s : State} {k : ℕ} {path : List ℕ} {spot : Spot} (a : At s k path spot) (change : Forest → Forest) (n : ℕ) → n ≡ count (change (kids a.goal)) → with_count spot.cell n ≡ cell_of (label_in [] (Some a.tree) path) (change_children change a.goal)
recounted {s} {k} {path} {spot} a change n e =
    ap (with_count spot.cell) e ∙ ap (λ x. with_count x (count (change (kids a.goal)))) a.cell ∙ sym (cell_changed change (label_in [] (Some a.tree) path) a.goal)

-- the second slot's tree put among the children of a node
pub moved_in : {i : Rack} (s : State) (k : ℕ) (path : List ℕ) (j : ℕ) (change : Tree → Forest → Forest) {t u : Tree} → slot s.slots k ≡ Some t → slot s.slots j ≡ Some u
    → Shows i (put_slot (put_slot s j None) k (Some (change_in path (change_children (change u)) t))) → Shows i (move_in s k path j change (slot s.slots j))
moved_in {i} s k path j change {t} {u} a b h =
    subst (λ o. Shows i (move_in s k path j change o)) (sym b)
    (subst (λ o. Shows i (put_slot (put_slot s j None) k (option_map (change_in path (change_children (change u))) o))) (sym a) h)

-- the second slot's tree as the last child of a node
pub added_last : {i : Rack} {s : State} {k : ℕ} {path : List ℕ} {j : ℕ} {found : Spot × Slot} (h : Holds i s) (q : IsMet s k path j found) (n : Name)
    → IsAdded (kids q.there.goal) (add_last n q.other (kids q.there.goal)) found.0.cell.children (encode n q.other)
added_last h q n =
    let f = kids q.there.goal in
    record { one = count-add_last n q.other f; swap = subst (λ x. Swap f (add_last n q.other f) x [] (encode n q.other)) (sym (at_count h q.there)) (swap_add_last n q.other f) }

-- the field of a name, and the node with another tree in its place
pub record Field {s : State} {k : ℕ} {path : List ℕ} {spot : Spot} (a : At s k path spot) (n : Name) (u : Tree) (x : ℕ) : Type 0 where
  pub child : Tree
  pub is : at x (kids a.goal) ≡ Some child
  pub fits : spot.cell ≡ cell_of (label_in [] (Some a.tree) path) (change_children (insert_under n u) a.goal)
  pub swap : Replaced path [] a.tree (change_in path (change_children (insert_under n u)) a.tree) a.goal (change_children (insert_under n u) a.goal) x (encode n child) (encode n u)
  pub room : before x (kids a.goal) + length (encode n child) ≡ before (x + 1) (kids a.goal)

pub field_old : {i : Rack} {s : State} {k : ℕ} {path : List ℕ} {spot : Spot} (h : Holds i s) (a : At s k path spot) (n : Name) (u : Tree) (x : ℕ) → position_from 0 n (kids a.goal) ≡ Some x → Field a n u x
field_old {i} {s} {k} {path} {spot} h a n u x e =
    let f = kids a.goal in
    let o = placed n f x e in
    record {
      child = o.child;
      is = o.is;
      fits = recounted a (insert_under n u) _ (at_count h a ∙ sym (ap count (insert_old n u f x o) ∙ count-put n u f));
      swap = replaced_kids (insert_under n u) path [] a.tree a.reached (swap_insert_old n u f x o);
      room = omega (arith, before_next f x o.is, length-encode n o.child);
    }

-- the field's tree out of the node, and the other under its name in its place
pub in_field : {i : Rack} {s : State} {k : ℕ} {path : List ℕ} {spot : Spot} (h : Holds i s) (a : At s k path spot) (n : Name) (u : Tree) (x : ℕ) (o : Field a n u x) {l : Name} → n ≡ l
    → Renews s k path spot x (x + 1) spot.cell (change_in path (change_children (insert_under n u)) a.tree) (encode n o.child) (encode l u)
in_field {path} h a n u x o e =
    record {
      there = a;
      goal = change_children (insert_under n u) a.goal;
      becomes = o.fits;
      replaced = subst (λ l. Replaced path [] a.tree (change_in path (change_children (insert_under n u)) a.tree) a.goal (change_children (insert_under n u) a.goal) x (encode n o.child) (encode l u)) e o.swap;
      room = o.room;
    }

-- the second slot's tree under a new name
pub added_new : {i : Rack} {s : State} {k : ℕ} {path : List ℕ} {j : ℕ} {found : Spot × Slot} (h : Holds i s) (q : IsMet s k path j found) (n : Name) → position_from 0 n (kids q.there.goal) ≡ None → {l : Name} → n ≡ l
    → IsAdded (kids q.there.goal) (insert_under n q.other (kids q.there.goal)) found.0.cell.children (encode l q.other)
added_new {found} h q n e {l} k =
    let f = kids q.there.goal in
    subst (λ g. IsAdded f g found.0.cell.children (encode l q.other)) (sym (insert_new n q.other f e)) (subst (λ l. IsAdded f (add_last n q.other f) found.0.cell.children (encode l q.other)) k (added_last h q n))
