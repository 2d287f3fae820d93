-- What a walk on a shelf answers, done or stopped.
use Rattle.std.proofs.Common.{◌≡◌, ℕ, ◌-◌, ◌<◌, ◌≤◌, None, List, ◌++◌, length, take, drop, Some, Ok, Err, Option, Result, sym, refl, ap, ap₂, ◌∙◌, subst, arith, length-take-le}
use Rattle.std.proofs.lemmas.List.{take-append-drop}
use Rattle.rules.specs.Meaning.{Meaning}
use Rattle.trees.specs.declared.codes.Refusal.TheVariants as refuse
use Rattle.trees.specs.Codes.{kind_number}
use Rattle.trees.specs.Tree.{Tree, size}
use Rattle.trees.specs.Apply.{Fault as Reason, Ending, done, stopped, apply}
use Rattle.trees.specs.State.{State, slot, nodes, used, put_slot, free_cells}
use Rattle.trees.specs.Tests.{tests, Passed}
use Rattle.trees.specs.Calls.{lay, lay_whole, nothing, Outcome, faulted, in_front}
use Rattle.trees.specs.Deeds.{deed, walk, laid, laid_whole, mark_set, mark_kept, rolled_back}
use Rattle.trees.specs.Tree.{IsSound}
use Rattle.trees.specs.Keeps.{Everywhere}
use Rattle.trees.proofs.Slots.{unless_passed, laid_keeps, put_everywhere}
use Rattle.trees.proofs.Sounds.{apply_keeps}
use Rattle.patch.specs.declared.errors.ApplyError.{ApplyError}
use Rattle.patch.specs.declared.errors.ApplyError.TheVariants.{MismatchedKinds, MismatchedTypes, Room}
use Rattle.patch.specs.declared.walk.Fault.{Fault}
use Rattle.patch.specs.Walk.{fault_of}
use Rattle.shelf.specs.declared.rack.Rack.{Rack}
use Rattle.shelf.specs.declared.slot.Slot.{Slot}
use Rattle.patch.specs.Outcome.{Tells}
use Rattle.shelf.specs.declared.patching.Stop.{Stop}
use Rattle.shelf.specs.declared.patching.Stop.TheVariants.{Fault as fault}
use Rattle.shelf.specs.Holds.{Shows, Holds}
use Rattle.shelf.specs.Patching.{IsReady, Walks, Lays}
use Rattle.shelf.specs.Questions.{AreSlots}
use Rattle.shelf.specs.Stops.{stopping, FaultFits, IsShort}
use Rattle.shelf.specs.Does.{DoesUnder}
use Rattle.shelf.proofs.Runs.{start_within, some_at, size_at}
use Rattle.shelf.proofs.Spots.{slot_sound}
use Rattle.shelf.proofs.Faults.{Modest, apply_modest}

-- a tree of a shelf has few cells
pub few_cells : {i : Rack} {s : State} (h : Holds i s) (k : ℕ) {p : Tree} → k < 16 → slot s.slots k ≡ Some p → size p ≤ 4096
few_cells {i} {s} h k lt b = let e = ap nodes b in omega (arith, size_at h.shows.lies k lt, start_within h.shows.lies k lt, h.shows.fits, h.shows.most)

-- the answer that a fault gives
pub said : (x : Fault) (before row : List ℕ) (s : State) → x.depth ≤ length row → drop x.depth row ≡ drop x.depth before → stopping (Err (fault x)) row ≡ (faulted s (fault_of x.error (take x.depth row)) before).answer
said x before row s long same = go x.error
  where
    path : List ℕ
    path = take x.depth row

    is_long : length path ≡ x.depth
    is_long = length-take-le x.depth row long

    front : row ≡ in_front path before
    front = sym (take-append-drop x.depth row) ∙ ap (λ xs. path ++ xs) same ∙ ap (λ n. path ++ drop n before) (sym is_long)

    go : (e : ApplyError) → stopping (Err (fault (record { error = e; depth = x.depth }))) row ≡ (faulted s (fault_of e path) before).answer
    go (MismatchedKinds e) = λ k. record { refusal = Some refuse.MismatchedKinds; from = kind_number e.from; to = kind_number e.to; steps = sym is_long k; value = nothing; row = front k }
    go (MismatchedTypes from to) = λ k. record { refusal = Some refuse.MismatchedTypes; from = from; to = to; steps = sym is_long k; value = nothing; row = front k }
    go (Room from to) = λ k. record { refusal = Some refuse.Room; from = from; to = to; steps = sym is_long k; value = nothing; row = front k }

-- the numbers of a fault fit an answer
pub fits : (x : Fault) (row : List ℕ) (wanted free : ℕ) → x.depth ≤ length row → wanted ≤ 4096 → free ≤ 4096 → Modest 16 wanted free (stopped (fault_of x.error (take x.depth row))) → FaultFits x
fits x row wanted free long w f m = go x.error m
  where
    go : (e : ApplyError) → Modest 16 wanted free (stopped (fault_of e (take x.depth row))) → FaultFits (record { error = e; depth = x.depth })
    go (MismatchedKinds e) m = record { cells = tt; steps = omega (arith, m.0, length-take-le x.depth row long) }
    go (MismatchedTypes from to) m = record { cells = tt; steps = omega (arith, m.0, length-take-le x.depth row long) }
    go (Room from to) m = let b = m.1 refl in record { cells = (omega (arith, b.0), omega (arith, b.1)); steps = omega (arith, m.0, length-take-le x.depth row long) }

-- the result of a call whose walk came to a result
abbrev pub stop_result : Result (Unit {0}) Fault → Result (Unit {0}) Stop
stop_result (Ok x) = Ok x
stop_result (Err x) = Err (fault x)

-- a walk on two slots' trees, on a shelf where the trees are those of s
pub record Laid (s s' : State) (target second : ℕ) (before row : List ℕ) (r : Result (Unit {0}) Fault) (j : Rack) : Type 0 where
  pub low : second < 16
  pub t : Tree
  pub p : Tree
  pub target_is : slot s.slots target ≡ Some t
  pub second_is : slot s.slots second ≡ Some p
  pub walks : Walks j s' target (apply t p (free_cells s)) r before row

pub laid_by : {i j : Rack} {s s' : State} {target second : ℕ} {slots : Slot × Slot} {before row : List ℕ} {r : Result (Unit {0}) Fault}
    → Holds i s → s'.slots ≡ s.slots → s'.capacity ≡ s.capacity → AreSlots target second slots → IsReady i slots before → Lays j s' slots.0.number slots.1.number r before row → Laid s s' target second before row r j
laid_by {j} {s} {s'} {target} {second} {slots} {before} {row} {r} h e z k ready lays =
    let t = some_at h.shows.lies slots.0.number slots.0.low ready.target_full in
    let p = some_at h.shows.lies slots.1.number slots.1.low ready.second_full in
    let free : free_cells s' ≡ free_cells s = ap₂ (λ c m. c - used m) z e in
    record {
      low = subst (λ n. n < 16) k.second slots.1.low;
      t = t.0;
      p = p.0;
      target_is = sym (ap (slot s.slots) k.first) ∙ t.1;
      second_is = sym (ap (slot s.slots) k.second) ∙ p.1;
      walks = subst (λ n. Walks j s' n (apply t.0 p.0 (free_cells s)) r before row) k.first
          (subst (λ n. Walks j s' slots.0.number (apply t.0 p.0 n) r before row) free
          (lays t.0 p.0 (ap (λ m. slot m slots.0.number) e ∙ t.1) (ap (λ m. slot m slots.1.number) e ∙ p.1)));
    }

module _ {i : Rack} {s s' : State} (h : Holds i s) {target second : ℕ} {before row : List ℕ} {r : Result (Unit {0}) Fault} {j : Rack} (d : Laid s s' target second before row r j) where
  abbrev end : Ending
  end = (apply d.t d.p (free_cells s)).ending

  abbrev left : Option Tree
  left = Some (apply d.t d.p (free_cells s)).left

  module _ (m : Meaning) where
    lay_is : deed m s (lay target second before) ≡ laid s target before left end
    lay_is =
        ap (λ o. laid s target before (walk o (slot s.slots second) (free_cells s)).left (walk o (slot s.slots second) (free_cells s)).ending) d.target_is
        ∙ ap (λ o. laid s target before (walk (Some d.t) o (free_cells s)).left (walk (Some d.t) o (free_cells s)).ending) d.second_is

    whole_is : deed m s (lay_whole target second before) ≡ laid_whole s target before left end
    whole_is =
        ap (λ o. laid_whole s target before (walk o (slot s.slots second) (free_cells s)).left (walk o (slot s.slots second) (free_cells s)).ending) d.target_is
        ∙ ap (λ o. laid_whole s target before (walk (Some d.t) o (free_cells s)).left (walk (Some d.t) o (free_cells s)).ending) d.second_is

  -- the answer is the same, whether what was done stays or is rolled back
  answer_is : stopping (stop_result r) row ≡ (laid s target before left end).answer
  answer_is = go r d.walks.tells
    where
      go : (r : Result (Unit {0}) Fault) → Tells r before row end → stopping (stop_result r) row ≡ (laid s target before left end).answer
      go (Ok x) k = ap (stopping (Ok x)) k.1 ∙ ap (λ e. (laid s target before left e).answer) (sym k.0)
      go (Err x) k = said x before row (put_slot s target left) k.1 k.2 ∙ ap (λ e. (laid s target before left e).answer) (sym k.0)

  -- its numbers fit
  pub lays_short : IsShort (stop_result r)
  lays_short = go r d.walks.tells
    where
      go : (r : Result (Unit {0}) Fault) → Tells r before row end → IsShort (stop_result r)
      go (Ok x) k = tt
      go (Err x) k = fits x row (size d.p) (apply d.t d.p (free_cells s)).free k.1 (few_cells h second d.low d.second_is) d.walks.few (subst (Modest 16 (size d.p) (apply d.t d.p (free_cells s)).free) k.0 (apply_modest d.t d.p (free_cells s)))

  same_answer : (e : Ending) → (laid s target before left e).answer ≡ (laid_whole s target before left e).answer
  same_answer done = refl
  same_answer (stopped x) = refl

  pub lays_answer : (m : Meaning) → stopping (stop_result r) row ≡ (deed m s (lay target second before)).answer
  lays_answer m = answer_is ∙ ap (λ (o : Outcome). o.answer) (sym (lay_is m))

  -- the state after a walk under a mark, and after the mark's end
  abbrev pub walked : State
  walked = put_slot (mark_set s) target left

  lays_whole : (m : Meaning) {new : State} → Passed (tests m s (lay_whole target second before)) → new ≡ (laid_whole s target before left end).state → DoesUnder m (lay_whole target second before) s new (stopping (stop_result r) row)
  lays_whole m q e =
      let x = unless_passed s before (tests m s (lay_whole target second before)) (deed m s (lay_whole target second before)) q ∙ whole_is m in
      record {
        state = e ∙ ap (λ (o : Outcome). o.state) (sym x);
        answers = answer_is ∙ same_answer end ∙ ap (λ (o : Outcome). o.answer) (sym x);
      }

  -- it is held
  pub holds_laid : {i' : Rack} → Holds i' s' → s' ≡ mark_set s → Holds j walked
  holds_laid k e =
      record {
        shows = subst (λ s'. Shows j (put_slot s' target left)) e d.walks.shows;
        sound = put_everywhere IsSound (mark_set s) target left (subst (Everywhere IsSound) e k.sound) (apply_keeps d.t d.p (free_cells s) (slot_sound h target d.target_is) (slot_sound h second d.second_is));
      }

  -- what a walk leaves that is done, or that stopped and is rolled back
  kept_done : s.saved ≡ None → end ≡ done → mark_kept walked ≡ (laid_whole s target before left end).state
  kept_done n k = let e : mark_kept walked ≡ put_slot s target left = (λ i. record { capacity = s.capacity; slots = (put_slot s target left).slots; saved = sym n i }) in e ∙ ap (λ e. (laid_whole s target before left e).state) (sym k)

  undone_stopped : s.saved ≡ None → {x : Reason} → end ≡ stopped x → rolled_back walked ≡ (laid_whole s target before left end).state
  undone_stopped n k = let e : rolled_back walked ≡ s = (λ i. record { capacity = s.capacity; slots = s.slots; saved = sym n i }) in e ∙ ap (λ e. (laid_whole s target before left e).state) (sym k)

  -- the call, where the walk was done, and where it stopped
  pub lays_kept : (m : Meaning) {new : State} {x : Unit {0}} → Passed (tests m s (lay_whole target second before)) → s.saved ≡ None → r ≡ Ok x → new ≡ mark_kept walked → DoesUnder m (lay_whole target second before) s new (stopping (Ok x) row)
  lays_kept m {new} q n e k =
      let y = subst (λ r. Tells r before row end) e d.walks.tells in
      subst (λ y. DoesUnder m (lay_whole target second before) s new (stopping y row)) (ap stop_result e) (lays_whole m q (k ∙ kept_done n y.0))

  pub lays_undone : (m : Meaning) {new : State} {x : Fault} → Passed (tests m s (lay_whole target second before)) → s.saved ≡ None → r ≡ Err x → new ≡ rolled_back walked → DoesUnder m (lay_whole target second before) s new (stopping (Err (fault x)) row)
  lays_undone m {new} q n e k =
      let y = subst (λ r. Tells r before row end) e d.walks.tells in
      subst (λ y. DoesUnder m (lay_whole target second before) s new (stopping y row)) (ap stop_result e) (lays_whole m q (k ∙ undone_stopped n y.0))

pub lays_shows : (m : Meaning) {i : Rack} {s : State} (h : Holds i s) {target second : ℕ} {before row : List ℕ} {r : Result (Unit {0}) Fault} {j : Rack} (d : Laid s s target second before row r j) → Shows j (deed m s (lay target second before)).state
lays_shows m {s} h {target} {before} {j} d = subst (λ (o : Outcome). Shows j o.state) (sym (lay_is h d m)) (laid_keeps (Shows j) s target before (left h d) (end h d) d.walks.shows)
