-- The last element of a List, taken out by the call that takes out a child at a position.
use Rattle.std.proofs.Common.{◌≡◌, ℕ, suc, false, leb, List, [], ◌∷◌, ◌++◌, Some, None, Ok, Err, sym, refl, ap, ◌∙◌, arith}
use Rattle.std.proofs.lemmas.Bool.{lt-leb}
use Rattle.rules.specs.Meaning.{Meaning}
use Rattle.trees.specs.declared.codes.Refusal.{Refusal}
use Rattle.trees.specs.declared.codes.Refusal.TheVariants as refusal
use Rattle.trees.specs.Tree.{count}
use Rattle.trees.specs.State.{State}
use Rattle.trees.specs.Calls.{Answer, Outcome, number, remove_at}
use Rattle.trees.specs.Tests.{Test, ◌by◌, tests, node_at, unfit, children, is_list, struct_or_list, Passed}
use Rattle.trees.specs.Deeds.{deed}
use Rattle.trees.proofs.Slots.{unless_none, unless_passed}
use Rattle.shelf.specs.Answers.{told, plainly}
use Rattle.shelf.specs.Does.{DoesUnder}
use Rattle.shelf.specs.Places.{leaving}
use Rattle.shelf.proofs.Outcomes.{both}
use Rattle.shelf.specs.Derived.{last_out, popped}

-- what is left and answered is as popping says
pub record Pops (s : State) (i : ℕ) (p : List ℕ) (j : ℕ) (t : State) (a : Answer) : Type 0 where
  pub after : t ≡ (popped s i p j).state
  pub answer : a ≡ (popped s i p j).answer

module _ (m : Meaning) (s t : State) (i : ℕ) (p : List ℕ) (j : ℕ) where
  abbrev kind : List Test
  kind = unfit is_list (node_at s i p) by refusal.Kind ∷ []

  pops : (n : ℕ) → Passed (leaving s i p j ++ kind) → count (children (node_at s i p)) ≡ n → t ≡ (last_out s i p j n).state → {a : Answer} → a ≡ (last_out s i p j n).answer → Pops s i p j t a
  pops n x e k q =
      let w = unless_passed s [] (leaving s i p j ++ kind) (last_out s i p j (count (children (node_at s i p)))) x ∙ ap (last_out s i p j) e in
      record { after = k ∙ sym (ap (λ (o : Outcome). o.state) w); answer = q ∙ sym (ap (λ (o : Outcome). o.answer) w) }

  -- the last element was taken out
  pub pop_last : (index : ℕ) → Passed (leaving s i p j) → unfit is_list (node_at s i p) ≡ false → count (children (node_at s i p)) ≡ suc index → DoesUnder m (remove_at i p j index) s t (plainly {X = Unit {0}} (Ok tt)) → Pops s i p j t (told number [] (Ok (Some index)))
  pop_last index w k z d =
      let pass = unless_none s [] (tests m s (remove_at i p j index)) (deed m s (remove_at i p j index)) (sym (ap (λ (a : Answer). a.refusal) d.answers)) in
      pops (suc index) (both (leaving s i p j) kind w (k, tt)) z (d.state ∙ ap (λ (o : Outcome). o.state) (unless_passed s [] (tests m s (remove_at i p j index)) (deed m s (remove_at i p j index)) pass)) refl

  -- it is not refused
  pub pop_never : {X : Type 0} (index : ℕ) → Passed (leaving s i p j) → unfit struct_or_list (node_at s i p) ≡ false → count (children (node_at s i p)) ≡ suc index → (e : Refusal) → DoesUnder m (remove_at i p j index) s t (plainly {X = Unit {0}} (Err e)) → X
  pop_never index w f z e d =
      let pass = both (leaving s i p j) (unfit struct_or_list (node_at s i p) by refusal.Kind ∷ leb (count (children (node_at s i p))) index by refusal.Index ∷ []) w (f, (lt-leb (count (children (node_at s i p))) index (omega (arith, z)), tt)) in
      let k : Some e ≡ None = ap (λ (a : Answer). a.refusal) (d.answers ∙ ap (λ (o : Outcome). o.answer) (unless_passed s [] (tests m s (remove_at i p j index)) (deed m s (remove_at i p j index)) pass)) in
      absurd (let q : ◌≡◌ {A = ℕ} 0 1 = cc in omega arith)

  -- there was none
  pub pop_none : Passed (leaving s i p j) → unfit is_list (node_at s i p) ≡ false → count (children (node_at s i p)) ≡ 0 → t ≡ s → Pops s i p j t (told number [] (Ok None))
  pop_none w k z e = pops 0 (both (leaving s i p j) kind w (k, tt)) z e refl
