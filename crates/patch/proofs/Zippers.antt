-- A target with a focus: a node around it filled, a fault that goes up, and what lies in the focus.
use Rattle.std.proofs.Common.{◌≡◌, ℕ, suc, ◌+◌, ◌≤◌, List, [], ◌∷◌, ◌++◌, length, drop, set, sym, refl, ap, ◌∙◌, ap₂, append_assoc, arith, length-append, drop_at}
use lib.Seq.{set_at, drop-append-le}
use Rattle.trees.specs.Name.{Name}
use Rattle.std.proofs.lemmas.List.{append-nil}
use Rattle.trees.specs.Tree.{Tree, node, count}
use Rattle.trees.specs.Place.{change_at}
use Rattle.trees.specs.Apply.{Walked, Fault, ended, stopped, below, field_then, within_node, apply_within}
use Rattle.cells.specs.declared.types.Cell.{Cell}
use Rattle.cells.specs.Layout.{encode, Lies}
use Rattle.cells.proofs.Changes.{count_change}
use Rattle.cells.proofs.Layouts.{lies}
use Rattle.patch.specs.declared.errors.ApplyError.{ApplyError}
use Rattle.patch.specs.declared.errors.ApplyError.TheVariants.{MismatchedKinds, MismatchedTypes, Room}
use Rattle.patch.specs.declared.frames.Frame.{Frame}
use Rattle.patch.specs.Manners.{onto}
use Rattle.patch.specs.Walk.{Open, after, resume, label, pre, post, Holds, Fits, IsHeld, way, fault_of, Stopped}

-- what lies in the front lies in the whole
pub drop_beyond : {base : List Cell} {at : ℕ} {u : Tree} (rest : List Cell) (a : Lies base at u) → drop at (base ++ rest) ≡ encode a.label u ++ (a.rest ++ rest)
drop_beyond {base} {at} {u} rest a = drop-append-le at base rest (omega (arith, a.begins)) ∙ ap (λ x. x ++ rest) a.is ∙ append_assoc (encode a.label u) a.rest rest

abbrev pub lies_beyond : {base : List Cell} {at : ℕ} {u : Tree} (rest : List Cell) → Lies base at u → Lies (base ++ rest) at u
lies_beyond {base} {at} {u} rest a =
    record {
      label = a.label;
      rest = a.rest ++ rest;
      is = drop_beyond rest a;
      begins = omega (arith, a.begins, length-append base rest);
      within = omega (arith, a.within, length-append base rest);
    }

-- a node in the focus with a tree for its child, or that tree in the focus
pub filled : (base : List Cell) (l : Name) (os : List Open) (fr : Frame) (o : Open) (t : Tree) (X : List Cell) → Fits base l os fr o
    → pre l os ++ (encode (label l os) (node o.head (change_at o.j (λ _. t) o.children)) ++ X) ≡ pre l (o ∷ os) ++ (encode (label l (o ∷ os)) t ++ (o.back ++ X))
filled base l os fr o t X k =
    let c : ℕ → Cell = λ n. record { label = label l os; head = o.head; children = n } in
    ap₂ (λ (n : ℕ) (ys : List Cell). pre l os ++ (c n ∷ (ys ++ X))) (count_change (λ _. t) o.children o.j) (k.splits t)
    ∙ regroup (pre l os) (c (count o.children)) o.front (encode (label l (o ∷ os)) t) o.back X
  where
    regroup : (P : List Cell) (c : Cell) (F E B X : List Cell) → P ++ (c ∷ ((F ++ (E ++ B)) ++ X)) ≡ (P ++ (c ∷ F)) ++ (E ++ (B ++ X))
    regroup P c F E B X = simp append_assoc

-- a fault seen from above
below_fault : (e : ApplyError) (i : ℕ) (q : List ℕ) → below i (fault_of e q) ≡ fault_of e (i ∷ q)
below_fault (MismatchedKinds e) i q = refl
below_fault (MismatchedTypes from to) i q = refl
below_fault (Room from to) i q = refl

after_stopped : (o : Open) (r : Walked Tree) (x : Fault) → r.ending ≡ stopped x → after o r ≡ ended (node o.head (change_at o.j (λ _. r.left) o.children)) r.free (stopped (below o.i x))
after_stopped o r x e = ap (λ y. within_node o.head (field_then o.i (change_at o.j (λ _. r.left) o.children) r.free y (λ f free. onto (apply_within o.levels) o.pairing (suc o.i) f o.others free))) e

-- a fault goes up to the root
pub gone_up : (base : List Cell) (l : Name) (frames : List Frame) (os : List Open) (r : Walked Tree) (e : ApplyError) (q : List ℕ) → IsHeld base l frames os → r.ending ≡ stopped (fault_of e q)
    → ((resume os r).free ≡ r.free) × (encode l (resume os r).left ≡ pre l os ++ (encode (label l os) r.left ++ post os)) × ((resume os r).ending ≡ stopped (fault_of e (way frames ++ q)))
gone_up base l [] [] r e q h x = (refl, sym (append-nil (encode l r.left)), x)
gone_up base l [] (o ∷ os) r e q h x = absurd h
gone_up base l (fr ∷ frs) [] r e q h x = absurd h
gone_up base l (fr ∷ frs) (o ∷ os) r e q h x =
    let s = after_stopped o r (fault_of e q) x in
    let r' = ended (node o.head (change_at o.j (λ _. r.left) o.children)) r.free (stopped (below o.i (fault_of e q))) in
    let up = gone_up base l frs os r' e (o.i ∷ q) h.1 (ap stopped (below_fault e o.i q)) in
    let i : fr.index ≡ o.i = h.0.index_is in (
      ap (λ y. (resume os y).free) s ∙ up.0,
      ap (λ y. encode l (resume os y).left) s ∙ up.1 ∙ filled base l os fr o r.left (post os) h.0,
      ap (λ y. (resume os y).ending) s ∙ up.2 ∙ ap (λ y. stopped (fault_of e y)) (sym (append_assoc (way frs) (fr.index ∷ []) q ∙ ap (λ y. way frs ++ (y ∷ q)) i)),
    )

regrouped : (P E Q R : List Cell) → P ++ (E ++ (Q ++ R)) ≡ (P ++ (E ++ Q)) ++ R
regrouped P E Q R = simp append_assoc

-- so the walk ends with it
pub stops : (base : List Cell) (l : Name) (frames : List Frame) (os : List Open) (r : Walked Tree) (e : ApplyError) (used : ℕ) (rest cells : List Cell) (a : Walked Tree) (q : List ℕ) → IsHeld base l frames os → r.ending ≡ stopped (fault_of e q) → r.free ≡ length rest
    → Holds base l os r.left rest cells → used + length rest ≡ length cells → a ≡ resume os r → (frames' : List Frame) → way frames' ≡ way frames ++ q → length frames' ≤ 15 → Stopped base l frames' used cells e a
stops base l frames os r e used rest cells a q h x fr holds us c frames' w n =
    let d = gone_up base l frames os r e q h x in
    record {
      rest = rest;
      holds = holds ∙ ap (λ y. base ++ y) (regrouped (pre l os) (encode (label l os) r.left) (post os) rest ∙ ap (λ y. y ++ rest) (sym (ap (λ (y : Walked Tree). encode l y.left) c ∙ d.1)));
      free_is = ap (λ (y : Walked Tree). y.free) c ∙ d.0 ∙ fr;
      used_is = us;
      deep = n;
      ending_is = ap (λ (y : Walked Tree). y.ending) c ∙ d.2 ∙ ap (λ y. stopped (fault_of e y)) (sym w);
    }

-- where the tree in the focus lies
pub focus_lies : (base : List Cell) (l : Name) (os : List Open) (t : Tree) (rest cells : List Cell) (at : ℕ) → Holds base l os t rest cells → at ≡ length base + length (pre l os) → Lies cells at t
focus_lies base l os t rest cells at holds place =
    let P = base ++ pre l os in
    lies (label l os) (post os ++ rest)
    (ap (drop at) (holds ∙ sym (append_assoc base (pre l os) _)) ∙ drop_at P (encode (label l os) t ++ (post os ++ rest)) at (length-append base (pre l os) ∙ sym place))

-- the cell where the focus begins is written
pub set_focus : (base P K X cells : List Cell) (c d : Cell) (at : ℕ) → cells ≡ base ++ (P ++ ((c ∷ K) ++ X)) → at ≡ length base + length P → set cells at d ≡ base ++ (P ++ ((d ∷ K) ++ X))
set_focus base P K X cells c d at holds e =
    ap (λ x. set x at d) (holds ∙ sym (append_assoc base P ((c ∷ K) ++ X)))
    ∙ set_at (base ++ P) c (K ++ X) d at (length-append base P ∙ sym e)
    ∙ append_assoc base P ((d ∷ K) ++ X)

pub held_length : (base : List Cell) (l : Name) (frames : List Frame) (os : List Open) → IsHeld base l frames os → length frames ≡ length os
held_length base l [] [] h = refl
held_length base l [] (o ∷ os) h = absurd h
held_length base l (fr ∷ frs) [] h = absurd h
held_length base l (fr ∷ frs) (o ∷ os) h = ap suc (held_length base l frs os h.1)
