-- What a mark saved, and the calls on marks.
use Rattle.std.proofs.Common.{◌≡◌, ℕ, ◌≤◌, true, false, not, List, [], ◌∷◌, ◌++◌, take, sum, length, is_some, Some, None, Option, sym, refl, ap, ◌∙◌, subst, take_at, arith, MutBor}
use Rattle.rules.specs.Meaning.{Meaning}
use Rattle.trees.specs.State.{Slots, State, used}
use Rattle.trees.specs.Tests as test
use Rattle.trees.specs.declared.codes.Refusal.TheVariants.{NoMark}
use Rattle.trees.specs.Tree.{IsSound}
use Rattle.trees.specs.Keeps.{InAll, OfSaved}
use Rattle.trees.specs.Calls.{Call, mark}
use Rattle.trees.specs.Tests.{◌by◌, tests, Passed}
use Rattle.trees.specs.Deeds.{restored, mark_kept, rolled_back}
use Rattle.cells.specs.declared.types.Cell.{Cell}
use Rattle.shelf.specs.declared.rack.Rack.{Rack}
use Rattle.shelf.specs.Holds.{laid, IsLaid, IsKept, Shows, Holds, Copies, Returns}
use Rattle.shelf.proofs.Runs.{length-laid, total_is}
use Rattle.shelf.proofs.Outcomes.{Accepted}

-- whether a mark is open
kept_some : (cells : List Cell) (mark : Option (List ℕ)) (room : ℕ) (o : Option Slots) → IsKept cells mark room o → test.is_some o ≡ is_some mark
kept_some cells None room None k = refl
kept_some cells None room (Some m) k = absurd k
kept_some cells (Some sizes) room None k = absurd k
kept_some cells (Some sizes) room (Some m) k = refl

none_saved : (o : Option Slots) → test.is_some o ≡ false → o ≡ None
none_saved None e = refl
none_saved (Some m) e = absurd (let z : ◌≡◌ {A = ℕ} 0 1 = cc in omega arith)

none_of : (o : Option Slots) → test.is_none o ≡ not (test.is_some o)
none_of None = refl
none_of (Some m) = refl

-- what an open mark saved
pub record Saved (cells : List Cell) (sizes : List ℕ) (room : ℕ) (o : Option Slots) : Type 0 where
  pub slots : Slots
  pub is : o ≡ Some slots
  pub lies : IsLaid cells sizes slots
  pub fits : used slots ≤ room

saved_by : (cells : List Cell) (mark : Option (List ℕ)) (sizes : List ℕ) (room : ℕ) (o : Option Slots) → IsKept cells mark room o → mark ≡ Some sizes → Saved cells sizes room o
saved_by cells None sizes room o k e = absurd (let z : ◌≡◌ {A = ℕ} 0 1 = cc in omega arith)
saved_by cells (Some sizes') sizes room None k e = absurd k
saved_by cells (Some sizes') sizes room (Some m) k e =
    let q : sizes' ≡ sizes = cc in
    record { slots = m; is = refl; lies = subst (λ xs. IsLaid cells xs m) q k.0; fits = k.1 }

-- cells that begin alike hold the same slots
pub laid_moved : {cells : List Cell} {sizes : List ℕ} {m : Slots} (l : IsLaid cells sizes m) (xs rest : List Cell) (n : ℕ) → n ≡ used m → xs ≡ take n cells ++ rest → IsLaid xs sizes m
laid_moved {cells} {sizes} {m} l xs rest n k e =
    let w : xs ≡ laid m ++ rest = e ∙ ap (λ n. take n cells ++ rest) k ∙ ap (λ l. l ++ rest) l.is in
    record { sixteen = l.sixteen; is = ap (take (used m)) w ∙ take_at (laid m) rest (used m) (length-laid m); sized = l.sized }

-- a shelf that shows the slots as of the mark is rolled back
pub rolled : {i : Rack} (s : State) (m : Slots) → s.saved ≡ Some m → Shows i (record { capacity = s.capacity; slots = m; saved = None }) → Shows i (rolled_back s)
rolled {i} s m e h = subst (λ o. Shows i (record { capacity = s.capacity; slots = restored s.slots o; saved = None })) (sym e) h

module _ {r : Rack} {s : State} (m : Meaning) (h : Holds r s) where
  open_is : test.is_some s.saved ≡ is_some r.mark
  open_is = kept_some _ _ s.capacity s.saved h.shows.kept

  none_is : test.is_none s.saved ≡ not (is_some r.mark)
  none_is = none_of s.saved ∙ ap not open_is

  pub marks : {j : Rack} → is_some r.mark ≡ false → Copies r j r.used → Accepted m s mark (record j { mark = Some j.sizes })
  marks {j} e w =
      let k = h.shows in
      record {
        passed = (open_is ∙ e, tt);
        sound = h.sound;
        shows = record {
          lies = subst (λ (x : MutBor (List Cell)). IsLaid x.now j.sizes s.slots) (sym w.cells) (subst (λ z. IsLaid r.cells.now z s.slots) (sym w.sizes) k.lies);
          used = w.used ∙ k.used;
          room = w.room ∙ k.room;
          fits = k.fits;
          lent = subst (λ (x : MutBor (List Cell)). s.capacity ≤ length x.now) (sym w.cells) k.lent;
          spare = subst (λ n. s.capacity ≤ n) (sym w.long) k.spare;
          most = k.most;
          kept = (subst (λ z. IsLaid j.saved.now z s.slots) (sym w.sizes) (laid_moved k.lies _ _ _ k.used w.saved), k.fits);
        };
      }

  -- a mark that ended
  pub ends : Holds (record r { mark = None }) (mark_kept s)
  ends =
      let k = h.shows in
      record {
        shows = record { lies = k.lies; used = k.used; room = k.room; fits = k.fits; lent = k.lent; spare = k.spare; most = k.most; kept = tt };
        sound = record { now = h.sound.now; old = tt };
      }

  pub saved_in : (sizes : List ℕ) → r.mark ≡ Some sizes → Saved r.saved.now sizes s.capacity s.saved
  saved_in sizes e = saved_by _ _ sizes s.capacity s.saved h.shows.kept e

  -- where none is open, nothing is restored
  pub none_undone : is_some r.mark ≡ false → Holds r (rolled_back s)
  none_undone e = subst (Holds r) (λ i. record { capacity = s.capacity; slots = q i; saved = p i }) h
    where
      p : s.saved ≡ None
      p = none_saved s.saved (open_is ∙ e)

      q : s.slots ≡ restored s.slots s.saved
      q = ap (restored s.slots) (sym p)

  pub undoes : {j : Rack} (sizes : List ℕ) (n : ℕ) → r.mark ≡ Some sizes → n ≡ sum (take 16 sizes) → Returns r j n → Holds (record j { sizes = sizes; used = n; mark = None }) (rolled_back s)
  undoes {j} sizes n e z w =
      let k = h.shows in
      let v = saved_in sizes e in
      let q = z ∙ total_is v.lies in
      record {
        shows = rolled s v.slots v.is (record {
          lies = laid_moved v.lies _ _ _ q w.cells;
          used = q;
          room = w.room ∙ k.room;
          fits = v.fits;
          lent = subst (λ n. s.capacity ≤ n) (sym w.long) k.lent;
          spare = subst (λ (x : MutBor (List Cell)). s.capacity ≤ length x.now) (sym w.saved) k.spare;
          most = k.most;
          kept = tt;
        });
        sound = record { now = subst (λ o. InAll IsSound (restored s.slots o)) (sym v.is) (subst (OfSaved (InAll IsSound)) v.is h.sound.old); old = tt };
      }

  -- the calls that end a mark that is open
  module _ (c : Call) (bad : (tests m s c) ≡ (test.is_none s.saved by NoMark ∷ [])) (e : is_some r.mark ≡ true) where
    pub open_passed : Passed (tests m s c)
    open_passed = subst Passed (sym bad) (none_is ∙ ap not e, tt)
