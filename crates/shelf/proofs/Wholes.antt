-- A mark that is set before a walk, and kept or rolled back after it.
use Rattle.std.proofs.Common.{◌≡◌, ℕ, ◌<◌, true, false, List, [], ◌∷◌, get_or, Some, None, Ok, Err, Option, Result, IsOk, sym, refl, ap, ◌∙◌, subst, arith}
use Rattle.std.proofs.lemmas.Bool.{cond-true, cond-false}
use Rattle.rules.specs.Meaning.{Meaning}
use Rattle.trees.specs.declared.codes.Refusal.{Refusal}
use Rattle.trees.specs.declared.codes.Refusal.TheVariants.{MarkOpen, NoMark}
use Rattle.trees.specs.Tests.{◌by◌, tests, is_none, is_some, Passed}
use Rattle.trees.specs.Calls.{Call, mark, Answer, Outcome, refused, row_of}
use Rattle.trees.specs.Play.{step}
use Rattle.trees.proofs.Names.{by_test}
use Rattle.trees.specs.State.{Slots, State}
use Rattle.trees.specs.Deeds.{deed, mark_set}
use Rattle.trees.proofs.Slots.{unless_none, unless_passed}
use Rattle.shelf.specs.declared.rack.Rack.{Rack}
use Rattle.shelf.specs.declared.slot.Slot.{Slot}
use Rattle.shelf.specs.Holds.{Shows}
use Rattle.shelf.specs.Patching.{IsReady}
use Rattle.shelf.specs.Places.{IsFull}
use Rattle.shelf.specs.Answers.{plainly, spent}
use Rattle.shelf.specs.Does.{DoesUnder}
use Rattle.shelf.specs.declared.marks.Mark.{Mark}

none_saved : (o : Option Slots) → is_some o ≡ false → o ≡ None
none_saved None e = refl
none_saved (Some m) e = absurd (let z : ◌≡◌ {A = ℕ} 0 1 = cc in omega arith)

module _ (m : Meaning) (s : State) {new : State} where
  -- a mark that was set
  pub marked : {a : Answer} → DoesUnder m mark s new a → a.refusal ≡ None → (s.saved ≡ None) × (new ≡ mark_set s)
  marked d e =
      let p = unless_none s [] (tests m s mark) (deed m s mark) (sym (ap (λ (a : Answer). a.refusal) d.answers) ∙ e) in
      (none_saved s.saved p.0, d.state ∙ ap (λ (o : Outcome). o.state) (unless_passed s [] (tests m s mark) (deed m s mark) p))

  -- one that was refused
  pub unmarked : (e : Refusal) → DoesUnder m mark s new (plainly {X = Mark} (Err e)) → (is_some s.saved ≡ true) × (e ≡ MarkOpen) × (new ≡ s)
  unmarked e d =
      by_test (is_some s.saved)
      (λ q.
      let k : step m s mark ≡ refused s MarkOpen [] = cond-true (is_some s.saved) (refused s MarkOpen []) (deed m s mark) q in
      let z : ◌≡◌ {A = Option Refusal} (Some e) (Some MarkOpen) = ap (λ (a : Answer). a.refusal) (d.answers ∙ ap (λ (o : Outcome). o.answer) k) in
      (q, cc, d.state ∙ ap (λ (o : Outcome). o.state) k))
      (λ q.
      let k : step m s mark ≡ deed m s mark = cond-false (is_some s.saved) (refused s MarkOpen []) (deed m s mark) q in
      let z : ◌≡◌ {A = Option Refusal} (Some e) None = ap (λ (a : Answer). a.refusal) (d.answers ∙ ap (λ (o : Outcome). o.answer) k) in
      absurd (let y : ◌≡◌ {A = ℕ} 0 1 = cc in omega arith))

-- the result of a call that took a mark and was not refused
took : {X : Type 0} (r : Result (Unit {0}) X) → (plainly (spent r)).refusal ≡ None → IsOk r
took (Ok x) e = refl
took (Err x) e = absurd (let z : ◌≡◌ {A = ℕ} 0 1 = cc in omega arith)

-- where a mark is open, a call that ends it is not refused
pub ended : (m : Meaning) {s new : State} {c : Call} {X : Type 0} (r : Result (Unit {0}) X) → DoesUnder m c s new (plainly (spent r)) →
    tests m s c ≡ (is_none s.saved by NoMark ∷ []) → (deed m s c).answer.refusal ≡ None → is_none s.saved ≡ false → IsOk r × (new ≡ (deed m s c).state)
ended m {s} {c} r d bad free still =
    let e = unless_passed s (row_of c) (tests m s c) (deed m s c) (subst Passed (sym bad) (still, tt)) in
    (took r (ap (λ (a : Answer). a.refusal) (d.answers ∙ ap (λ (o : Outcome). o.answer) e) ∙ free), d.state ∙ ap (λ (o : Outcome). o.state) e)

-- a mark changes no slot
pub ready_still : {i j : Rack} {s : State} (slots : Slot × Slot) {row : List ℕ} → Shows i s → Shows j (mark_set s) → IsReady i slots row → IsReady j slots row
ready_still {i} {j} slots h k r =
    let e : i.sizes ≡ j.sizes = h.lies.sized ∙ sym k.lies.sized in
    let full : (n : Slot) → IsFull i n → IsFull j n = λ n f. subst (λ xs. 0 < get_or xs n.number 0) e f in
    record { target_full = full slots.0 r.target_full; second_full = full slots.1 r.second_full; apart = r.apart; long = r.long }
