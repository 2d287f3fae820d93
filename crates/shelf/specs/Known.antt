-- A shelf holds one state, in one way, so that the state can be taken out of the fact that there is one.
use Rattle.std.proofs.Common.{◌≡◌, ℕ, suc, Bool, List, [], ◌∷◌, ◌++◌, drop, ap, map, Some, None, Option, sym, refl, ◌∙◌, subst, append_assoc, arith}
use mathlib.Core.HLevel.{Π_prop, ×_prop, Σ_prop_path}
use mathlib.Core.Logic.{∥∥₁_elim}
use native.Mathlib.Bridge.{le_prop}
use base.Stored.{Coded-set, coded_list, coded_ℕ, coded_bool}
use Rattle.std.proofs.lemmas.List.{take-append-drop}
use Rattle.trees.specs.Tree.{Tree, size, IsSound}
use Rattle.trees.specs.State.{Slots, State, slot, nodes, used}
use Rattle.trees.specs.Keeps.{On, InAll, OfSaved}
use Rattle.cells.specs.declared.types.Cell.{Cell}
use Rattle.cells.specs.Layout.{encode}
use Rattle.cells.proofs.Layouts.{unique, size_pos}
use Rattle.cells.proofs.Props.{cells_set}
use Rattle.shelf.specs.declared.rack.Rack.{Rack}
use Rattle.shelf.specs.Holds.{laid, IsLaid, IsKept, Shows, Holds}

-- what stands behind the cells of the slots
abbrev pub rest_of : {cells : List Cell} {sizes : List ℕ} {m : Slots} → IsLaid cells sizes m → List Cell
rest_of {cells} {m} l = drop (used m) cells

pub is_of : {cells : List Cell} {sizes : List ℕ} {m : Slots} (l : IsLaid cells sizes m) → cells ≡ laid m ++ rest_of l
is_of {cells} {m} l = sym (take-append-drop (used m) cells) ∙ ap (λ xs. xs ++ drop (used m) cells) l.is

nat_set : IsSet ℕ
nat_set = Coded-set coded_ℕ

numbers_set : IsSet (List ℕ)
numbers_set = Coded-set (coded_list coded_ℕ)

bool_set : IsSet Bool
bool_set = Coded-set coded_bool

-- cells and sizes tell the slots, if the trees are sound
slots_unique : (m n : Slots) (r s : List Cell) → InAll IsSound m → InAll IsSound n → map nodes m ≡ map nodes n → laid m ++ r ≡ laid n ++ s → m ≡ n
slots_unique [] [] r s a b z e = refl
slots_unique [] (o ∷ n) r s a b z e = absurd (let k : ◌≡◌ {A = ℕ} 0 1 = cc in omega arith)
slots_unique (o ∷ m) [] r s a b z e = absurd (let k : ◌≡◌ {A = ℕ} 0 1 = cc in omega arith)
slots_unique (None ∷ m) (None ∷ n) r s a b z e = let k = slots_unique m n r s (λ i. a (suc i)) (λ i. b (suc i)) (cc) e in cc
slots_unique (None ∷ m) (Some u ∷ n) r s a b z e = absurd (let k : 0 ≡ size u = cc in omega (arith, size_pos u))
slots_unique (Some t ∷ m) (None ∷ n) r s a b z e = absurd (let k : 0 ≡ size t = cc in omega (arith, size_pos t))
slots_unique (Some t ∷ m) (Some u ∷ n) r s a b z e =
    let x = unique [] [] t u (laid m ++ r) (laid n ++ s) (sym (append_assoc (encode [] t) (laid m) r) ∙ e ∙ append_assoc (encode [] u) (laid n) s) in
    let p = x.1 in
    let k = slots_unique m n r s (λ i. a (suc i)) (λ i. b (suc i)) (cc) x.2 in
    cc

laid_unique : {cells : List Cell} {sizes : List ℕ} {m n : Slots} → IsLaid cells sizes m → IsLaid cells sizes n → InAll IsSound m → InAll IsSound n → m ≡ n
laid_unique {m} {n} a b x y = slots_unique m n (rest_of a) (rest_of b) x y (sym a.sized ∙ b.sized) (sym (is_of a) ∙ is_of b)

kept_unique : (cells : List Cell) (mark : Option (List ℕ)) (room : ℕ) (o p : Option Slots) → IsKept cells mark room o → IsKept cells mark room p → OfSaved (InAll IsSound) o → OfSaved (InAll IsSound) p → o ≡ p
kept_unique cells None room None None a b x y = refl
kept_unique cells None room None (Some n) a b x y = absurd b
kept_unique cells None room (Some m) p a b x y = absurd a
kept_unique cells (Some sizes) room None p a b x y = absurd a
kept_unique cells (Some sizes) room (Some m) None a b x y = absurd b
kept_unique cells (Some sizes) room (Some m) (Some n) a b x y = let k = laid_unique a.0 b.0 x y in cc

-- a shelf holds one state
pub holds_unique : {i : Rack} {s t : State} → Holds i s → Holds i t → s ≡ t
holds_unique {i} {s} {t} h k =
    let a = h.shows in
    let b = k.shows in
    let p = laid_unique a.lies b.lies h.sound.now k.sound.now in
    let q : s.capacity ≡ t.capacity = sym a.room ∙ b.room in
    let r = kept_unique _ _ s.capacity s.saved t.saved a.kept (subst (λ n. IsKept i.saved.now i.mark n t.saved) (sym q) b.kept) h.sound.old k.sound.old in
    λ j. record { capacity = q j; slots = p j; saved = r j }

-- and holds it in one way
laid_prop : {cells : List Cell} {sizes : List ℕ} {m : Slots} → IsProp (IsLaid cells sizes m)
laid_prop a b = λ k. record {
  sixteen = nat_set _ _ a.sixteen b.sixteen k;
  is = cells_set _ _ a.is b.is k;
  sized = numbers_set _ _ a.sized b.sized k;
}

kept_prop : (cells : List Cell) (mark : Option (List ℕ)) (room : ℕ) (o : Option Slots) → IsProp (IsKept cells mark room o)
kept_prop cells None room None = λ a b. refl
kept_prop cells None room (Some m) = λ a b. absurd a
kept_prop cells (Some sizes) room None = λ a b. absurd a
kept_prop cells (Some sizes) room (Some m) = ×_prop laid_prop le_prop

on_prop : (o : Option Tree) → IsProp (On IsSound o)
on_prop None = λ a b. refl
on_prop (Some t) = bool_set _ _

all_prop : (m : Slots) → IsProp (InAll IsSound m)
all_prop m = Π_prop (λ i. on_prop (slot m i))

saved_prop : (o : Option Slots) → IsProp (OfSaved (InAll IsSound) o)
saved_prop None = λ a b. refl
saved_prop (Some m) = all_prop m

shows_prop : {i : Rack} (s : State) → IsProp (Shows i s)
shows_prop s a b = λ k. record {
  lies = laid_prop a.lies b.lies k;
  used = nat_set _ _ a.used b.used k;
  room = nat_set _ _ a.room b.room k;
  fits = le_prop a.fits b.fits k;
  lent = le_prop a.lent b.lent k;
  spare = le_prop a.spare b.spare k;
  most = le_prop a.most b.most k;
  kept = kept_prop _ _ _ s.saved a.kept b.kept k;
}

holds_prop : {i : Rack} (s : State) → IsProp (Holds i s)
holds_prop s a b = λ k. record {
  shows = shows_prop s a.shows b.shows k;
  sound = record { now = all_prop s.slots a.sound.now b.sound.now k; old = saved_prop s.saved a.sound.old b.sound.old k };
}

pub known : {i : Rack} → ∥ ((s : State) × Holds i s) ∥₁ → (s : State) × Holds i s
known t = ∥∥₁_elim t (λ a b. Σ_prop_path holds_prop (holds_unique a.1 b.1)) (λ a. a)
