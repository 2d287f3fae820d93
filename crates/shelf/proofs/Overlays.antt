-- A patch that is laid on a slot's tree: the cells as the walk begins, and as it leaves them.
use Rattle.std.proofs.Common.{◌≡◌, ℕ, zero, suc, ◌+◌, ◌-◌, ◌<◌, ◌≤◌, List, [], ◌∷◌, ◌++◌, length, get_or, take, drop, set, Some, None, sym, refl, ap, ◌∙◌, subst, append_assoc, arith, length-append, length-take-le, take_at, drop_at}
use borrow.Rule.Slice.Mut.{set_vals}
use Rattle.trees.specs.Tree.{Tree, size}
use Rattle.trees.specs.Apply.{Walked, apply}
use Rattle.trees.specs.State.{Slots, State, slot, nodes, used, put_slot, free_cells}
use Rattle.trees.proofs.Slots.{set_there, set_here}
use Rattle.cells.specs.declared.types.Cell.{Cell}
use Rattle.cells.specs.Layout.{encode}
use Rattle.cells.proofs.Layouts.{lies, length-encode}
use Rattle.patch.specs.Outcome.{Begins, Leaves, Tells}
use Rattle.patch.specs.declared.walk.Applied.{Applied}
use Rattle.shelf.specs.declared.rack.Rack.{Rack}
use Rattle.shelf.specs.declared.slot.Slot.{Slot}
use Rattle.shelf.specs.Holds.{Holds, Shows, ShowsBeside, IsLoose, laid, run}
use Rattle.std.proofs.lemmas.List.{take-append-drop}
use Rattle.shelf.specs.Patching.{IsReady}
use Rattle.shelf.specs.Known.{is_of}
use Rattle.shelf.proofs.Runs.{loose_rest, laid_at, length-laid, used_set, shows_free, size_at}
use Rattle.shelf.proofs.Spots.{slot_sound}

take_past : {X : Type 0} (xs ys : List X) (n : ℕ) → length xs ≤ n → take n (xs ++ ys) ≡ xs ++ take (n - length xs) ys
take_past [] ys n h = ap (λ k. take k ys) (let e : n ≡ n - 0 = omega arith in e)
take_past (x ∷ xs) ys zero h = absurd (omega arith)
take_past (x ∷ xs) ys (suc n) h = ap (λ l. x ∷ l) (take_past xs ys n (omega arith) ∙ ap (λ k. xs ++ take k ys) (let e : n - length xs ≡ suc n - suc (length xs) = omega arith in e))

-- the cells up to the room: those of the other slots, the loose tree and the free ones
pub record Ground (s : State) (target : ℕ) (t p : Tree) (cells : List Cell) (at patch behind : ℕ) : Type 0 where
  pub rest : List Cell
  pub begins : Begins cells at patch behind (laid (set s.slots target None)) [] t p rest
  pub free : length rest ≡ free_cells s

module _ {i : Rack} {s : State} (h : Holds i s) (target second : ℕ) {t p : Tree} (a : slot s.slots target ≡ Some t) (b : slot s.slots second ≡ Some p) (low : target < 16) (lt : second < 16) (apart : target ≡ second → ⊥) where
  abbrev others : Slots
  others = set s.slots target None

  others_used : used others + size t ≡ used s.slots
  others_used = let e = ap nodes a in omega (arith, used_set s.slots target None (omega (arith, h.shows.lies.sixteen)))

  pub ground : {j : Rack} (k : Shows j (put_slot s target None)) (o : IsLoose j (encode [] t)) (patch behind n : ℕ) → patch ≡ used (take second others) → behind ≡ j.used + size t → n ≡ j.room → Ground s target t p (take n j.cells.now) j.used patch behind
  ground {j} k o patch behind n e u r =
      let sh = h.shows in
      let w : j.cells.now ≡ (laid others ++ encode [] t) ++ o.rest = is_of k.lies ∙ ap (λ xs. laid others ++ xs) (loose_rest k o) ∙ sym (append_assoc (laid others) (encode [] t) o.rest) in
      let z : length (laid others ++ encode [] t) ≡ used others + size t = omega (arith, length-append (laid others) (encode [] t), length-laid others, length-encode [] t) in
      let rest = take (n - length (laid others ++ encode [] t)) o.rest in
      let q : take n j.cells.now ≡ laid others ++ (encode [] t ++ rest) = ap (take n) w ∙ take_past (laid others ++ encode [] t) o.rest n (omega (arith, others_used, sh.fits, k.room)) ∙ append_assoc (laid others) (encode [] t) rest in
      let v : length (take n j.cells.now) ≡ n = length-take-le n j.cells.now (omega (arith, k.lent, k.room)) in
      let x : length (take n j.cells.now) ≡ used others + (size t + length rest) = ap length q ∙ omega (arith, length-append (laid others) (encode [] t ++ rest), length-append (encode [] t) rest, length-laid others, length-encode [] t) in
      let there : slot others second ≡ Some p = set_there s.slots target second None apart ∙ b in
      record {
        rest = rest;
        begins = record {
          is = q;
          target_is = k.used ∙ sym (length-laid others);
          patch_lies = lies [] (laid (drop (suc second) others))
              (ap (drop patch) (laid_at others second (omega (arith, k.lies.sixteen))) ∙ drop_at (laid (take second others)) _ patch (length-laid (take second others) ∙ sym e) ∙ ap (λ y. run y ++ laid (drop (suc second) others)) there);
          used_is = omega (arith, k.used);
          sound_target = slot_sound h target a;
          sound_patch = slot_sound h second b;
          few = omega (arith, length-laid others, k.fits, k.most);
        };
        free = omega (arith, others_used, k.room, k.used);
      }

  -- the shelf as the walk leaves it, with the target loose
  pub record Grown (j' : Rack) (w : Walked Tree) (behind at room : ℕ) : Type 0 where
    pub shows : Shows j' (put_slot s target None)
    pub loose : IsLoose j' (encode [] w.left)
    pub size_is : behind ≡ at + size w.left
    pub fits : behind ≤ room
    pub few : w.free ≤ 4096
    pub empty : slot others target ≡ None

  pub grown : {j j' : Rack} (k : Shows j (put_slot s target None)) (o : IsLoose j (encode [] t)) (n : ℕ) (xs post : List Cell) {x : Applied} {before row : List ℕ} {w : Walked Tree}
      → n ≡ j.room
      → take n j.cells.now ++ post ≡ j.cells.now
      → length xs ≡ length (take n j.cells.now)
      → Leaves (laid others) [] xs x before row w
      → j'.cells.now ≡ xs ++ post
      → j'.sizes ≡ j.sizes
      → j'.used ≡ j.used
      → j'.room ≡ j.room
      → j'.saved ≡ j.saved
      → j'.mark ≡ j.mark
      → Grown j' w x.used j.used j.room
  grown {j} {j'} k o n xs post {x} {before} {row} {w} r cut len l e zs us rs sa ma =
      let v : length (take n j.cells.now) ≡ n = length-take-le n j.cells.now (omega (arith, k.lent, k.room)) in
      let base = length-laid others in
      let y : length xs ≡ used others + (size w.left + length l.rest) = ap length l.is ∙ omega (arith, length-append (laid others) (encode [] w.left ++ l.rest), length-append (encode [] w.left) l.rest, base, length-encode [] w.left) in
      let f : j'.cells.now ≡ laid others ++ (encode [] w.left ++ (l.rest ++ post)) = e ∙ ap (λ ys. ys ++ post) l.is ∙ simp append_assoc in
      let g : length j'.cells.now ≡ length j.cells.now = ap length e ∙ omega (arith, length-append xs post, length-append (take n j.cells.now) post) ∙ ap length cut in
      record {
        shows = shows_free k (ap (take j.used) f ∙ take_at (laid others) _ j.used (base ∙ sym k.used) ∙ sym k.lies.is ∙ ap (λ n. take n j.cells.now) (sym k.used)) g zs us rs sa ma;
        loose = record {
          rest = l.rest ++ post;
          is = ap (drop j'.used) f ∙ drop_at (laid others) _ j'.used (base ∙ sym k.used ∙ sym us);
          fits = omega (arith, length-encode [] w.left, k.used);
        };
        size_is = omega (arith, l.used_is, k.used);
        fits = omega (arith, l.used_is, k.used);
        few = omega (arith, l.free_is, k.room, k.most);
        empty = set_here s.slots target t None a;
      }

-- a walk over the cells up to the room of a shelf whose target was lifted
module _ {i j : Rack} (target second : Slot) {path : List ℕ} (ready : IsReady i (target, second) path)
    (patch lifted : ℕ)
    (size_is : lifted ≡ get_or i.sizes target.number 0)
    (lift_is : (s : State) (k : ℕ) → target.number ≡ k → Shows i s → ShowsBeside j (put_slot s k None) (run (slot s.slots k)))
    (start_is : (s : State) → Shows j s → patch ≡ used (take second.number s.slots)) where
  pub first : {s : State} {t p : Tree} (h : Holds i s) (a : slot s.slots target.number ≡ Some t) (b : slot s.slots second.number ≡ Some p) → Ground s target.number t p (take (j.room - 0) j.cells.now) j.used patch (j.used + lifted)
  first {s} {t} {p} h a b =
      let o = lift_is s _ refl h.shows in
      ground h target.number second.number a b target.low second.low ready.apart o.shows (subst (IsLoose j) (ap run a) o.loose) patch _ (j.room - 0) (start_is _ o.shows)
      (ap (λ n. j.used + n) (size_is ∙ size_at h.shows.lies target.number target.low ∙ ap nodes a)) (omega arith)

  abbrev after : List Cell → Rack
  after xs = record { cells = set_vals (xs ++ drop (j.room - 0) j.cells.now) j.cells; saved = j.saved; sizes = j.sizes; used = j.used; room = j.room; mark = j.mark }

  pub last : (xs : List Cell) (x : Applied) (row : List ℕ) (apply_is : (base : List Cell) (l : List ℕ) (t p : Tree) (rest : List Cell) → Begins (take (j.room - 0) j.cells.now) j.used patch (j.used + lifted) base l t p rest → Leaves base l xs x path row (apply t p (length rest)))
      → length xs ≡ length (take (j.room - 0) j.cells.now)
      → {s : State} {t p : Tree} (h : Holds i s) (a : slot s.slots target.number ≡ Some t) (b : slot s.slots second.number ≡ Some p)
      → Grown h target.number second.number a b target.low second.low ready.apart (after xs) (apply t p (free_cells s)) x.used j.used j.room × Tells x.outcome path row (apply t p (free_cells s)).ending
  last xs x row apply_is len {s} {t} {p} h a b =
      let o = lift_is s _ refl h.shows in
      let g = first h a b in
      let l = subst (λ n. Leaves (laid (set s.slots target.number None)) [] xs x path row (apply t p n)) g.free (apply_is _ [] t p g.rest g.begins) in
      (grown h target.number second.number a b target.low second.low ready.apart o.shows (subst (IsLoose j) (ap run a) o.loose) (j.room - 0) xs (drop (j.room - 0) j.cells.now) (omega arith) (take-append-drop (j.room - 0) j.cells.now) len l refl refl refl refl refl refl, l.tells)
