-- What a call comes to: which test refuses it, or what it leaves.
use Rattle.std.proofs.Common.{◌≡◌, ℕ, List, [], ◌∷◌, ◌++◌, sym, ap, ◌∙◌, subst, inl, inr}
use Rattle.std.proofs.lemmas.Bool.{cond-true, cond-false}
use Rattle.rules.specs.Meaning.{Meaning}
use Rattle.trees.specs.declared.codes.Refusal.{Refusal}
use Rattle.trees.specs.Tree.{IsSound}
use Rattle.trees.specs.State.{State}
use Rattle.trees.specs.Calls.{Call, Answer, Outcome, refused, row_of}
use Rattle.trees.specs.Tests.{Test, tests, unless, Passed}
use Rattle.trees.specs.Deeds.{deed}
use Rattle.trees.specs.Play.{step}
use Rattle.trees.specs.Keeps.{Everywhere}
use Rattle.trees.proofs.Slots.{unless_passed}
use Rattle.trees.proofs.Shelves.{calls_keep_sound}
use Rattle.shelf.specs.declared.rack.Rack.{Rack}
use Rattle.shelf.specs.Holds.{Shows, Holds}
use Rattle.shelf.specs.Tries.{Stops}
use Rattle.shelf.specs.State.{state_of}
use Rattle.shelf.specs.Does.{DoesUnder}
use Rattle.shelf.proofs.States.{seen}

-- the first test that holds refuses, with nothing changed
pub unless_stops : (s : State) (row : List ℕ) (ts : List Test) (o : Outcome) {e : Refusal} → Stops ts e → unless s row ts o ≡ refused s e row
unless_stops s row [] o x = absurd x
unless_stops s row (t ∷ ts) o {e} (inl (b, k)) = cond-true t.bad (refused s t.refusal row) (unless s row ts o) b ∙ ap (λ r. refused s r row) k
unless_stops s row (t ∷ ts) o {e} (inr (b, x)) = cond-false t.bad (refused s t.refusal row) (unless s row ts o) b ∙ unless_stops s row ts o x

-- a refused call
pub refuses : {s : State} (m : Meaning) (c : Call) {a : Answer} (e : Refusal) → Stops (tests m s c) e → a ≡ (refused s e (row_of c)).answer → DoesUnder m c s s a
refuses {s} m c e x k =
    let q = unless_stops s (row_of c) (tests m s c) (deed m s c) x in
    record { state = sym (ap (λ (o : Outcome). o.state) q); answers = k ∙ sym (ap (λ (o : Outcome). o.answer) q) }

-- an accepted call on sound trees: it passes its tests, and the cells show what it leaves
pub record Accepted (m : Meaning) (s : State) (c : Call) (r : Rack) : Type 0 where
  pub passed : Passed (tests m s c)
  pub shows : Shows r (deed m s c).state
  pub sound : Everywhere IsSound s

module _ {m : Meaning} {s : State} {c : Call} {r : Rack} (w : Accepted m s c r) where
  pub leaves : Holds r (step m s c).state
  leaves =
      let e = unless_passed s (row_of c) (tests m s c) (deed m s c) w.passed in
      record { shows = subst (λ (o : Outcome). Shows r o.state) (sym e) w.shows; sound = calls_keep_sound m s c w.sound }

  pub accepts : {a : Answer} → a ≡ (deed m s c).answer → (ok : ∥ ((t : State) × Holds r t) ∥₁) → DoesUnder m c s (state_of ok) a
  accepts q ok =
      let e = unless_passed s (row_of c) (tests m s c) (deed m s c) w.passed in
      record { state = seen ok leaves; answers = q ∙ ap (λ (o : Outcome). o.answer) (sym e) }

-- a call that was accepted and changes nothing
pub tells : {s : State} (m : Meaning) (c : Call) {a : Answer} → Passed (tests m s c) → s ≡ (deed m s c).state → a ≡ (deed m s c).answer → DoesUnder m c s s a
tells {s} m c p k q =
    let e = unless_passed s (row_of c) (tests m s c) (deed m s c) p in
    record { state = k ∙ ap (λ (o : Outcome). o.state) (sym e); answers = q ∙ ap (λ (o : Outcome). o.answer) (sym e) }

-- tests that are followed by others
pub later : (ts more : List Test) (e : Refusal) → Passed ts → Stops more e → Stops (ts ++ more) e
later [] more e p x = x
later (t ∷ ts) more e p x = inr (p.0, later ts more e p.1 x)

pub sooner : (ts more : List Test) (e : Refusal) → Stops ts e → Stops (ts ++ more) e
sooner [] more e x = absurd x
sooner (t ∷ ts) more e (inl x) = inl x
sooner (t ∷ ts) more e (inr (b, x)) = inr (b, sooner ts more e x)

pub both : (ts more : List Test) → Passed ts → Passed more → Passed (ts ++ more)
both [] more p q = q
both (t ∷ ts) more p q = (p.0, both ts more p.1 q)
