-- What the answer of a call tells of its tests, and what a look tells of a node.
use Rattle.std.proofs.Common.{◌≡◌, ℕ, ◌+◌, Bool, true, false, not, eqb, List, [], ◌∷◌, ◌++◌, Some, None, Ok, Err, Option, sym, refl, ap, ◌∙◌, inl, inr, arith}
use Rattle.std.proofs.lemmas.Bool.{cond-true, cond-false}
use Rattle.trees.specs.declared.codes.Refusal.{Refusal}
use Rattle.trees.specs.declared.codes.Refusal.TheVariants as refusal
use Rattle.trees.specs.declared.codes.VariantType.{VariantType}
use Rattle.trees.specs.Codes.{variant_number}
use Rattle.trees.specs.declared.codes.VariantType.TheVariants.{Unit as unit, Tuple as tuple_like, Struct as struct_like}
use Rattle.trees.specs.declared.head.Head.{Head}
use Rattle.trees.specs.declared.head.Head.TheVariants.{Enum as enum}
use Rattle.trees.specs.Tree.{Tree, node, code}
use Rattle.trees.specs.State.{State}
use Rattle.trees.specs.Calls.{truth, Outcome, accepted, refused}
use Rattle.trees.specs.Tests.{Test, ◌by◌, unless, node_at, unfit, is_enum, Passed}
use Rattle.trees.proofs.Names.{by_test}
use Rattle.trees.proofs.Slots.{unless_passed}
use Rattle.cells.specs.Layout.{root}
use Rattle.shelf.specs.Answers.{told}
use Rattle.shelf.specs.Tries.{Stops}
use Rattle.shelf.specs.Places.{standing}
use Rattle.shelf.proofs.Outcomes.{unless_stops, sooner, later, both}
use Rattle.shelf.specs.Derived.{code_of, variant_asked}

-- a call that is refused was refused by a test, if nothing but a test refuses it
pub err_stops : (s : State) (row : List ℕ) (ts : List Test) (o : Outcome) (e : Refusal) → o.answer.refusal ≡ None → Some e ≡ (unless s row ts o).answer.refusal → Stops ts e
err_stops s row [] o e n k = absurd (let z : ◌≡◌ {A = ℕ} 0 1 = cc in omega arith)
err_stops s row (t ∷ ts) o e n k =
    by_test t.bad
    (λ b. let q = k ∙ ap (λ (r : Outcome). r.answer.refusal) (cond-true t.bad (refused s t.refusal row) (unless s row ts o) b) in inl (b, cc))
    (λ b. inr (b, err_stops s row ts o e n (k ∙ ap (λ (r : Outcome). r.answer.refusal) (cond-false t.bad (refused s t.refusal row) (unless s row ts o) b))))

pub unfit_root : (test : Head → Bool) {o : Option Tree} {u : Tree} → o ≡ Some u → unfit test o ≡ not (test (root u))
unfit_root test {o} {u} e = ap (unfit test) e ∙ go u
  where
    go : (u : Tree) → unfit test (Some u) ≡ not (test (root u))
    go (node h f) = refl

-- whether an enum is of a variant type: refused, or answered
module _ (s : State) (i : ℕ) (p : List ℕ) (kind : VariantType) where
  abbrev tail : List Test
  tail = unfit is_enum (node_at s i p) by refusal.Kind ∷ []

  pub asked_stops : (e : Refusal) → Stops (standing s i p) e → told (λ (b : Bool). truth (Some b)) [] (Err e) ≡ (variant_asked s i p kind).answer
  asked_stops e x = sym (ap (λ (o : Outcome). o.answer) (unless_stops s [] (standing s i p ++ tail) _ (sooner (standing s i p) tail e x)))

  pub asked_kind : Passed (standing s i p) → unfit is_enum (node_at s i p) ≡ true → told (λ (b : Bool). truth (Some b)) [] (Err refusal.Kind) ≡ (variant_asked s i p kind).answer
  asked_kind x k = sym (ap (λ (o : Outcome). o.answer) (unless_stops s [] (standing s i p ++ tail) _ (later (standing s i p) tail refusal.Kind x (inl (k, refl)))))

  pub asked_done : (b : Bool) → Passed (standing s i p) → unfit is_enum (node_at s i p) ≡ false → b ≡ eqb (code_of (node_at s i p)) (4 + variant_number kind) → told (λ (b : Bool). truth (Some b)) [] (Ok b) ≡ (variant_asked s i p kind).answer
  asked_done b x k e =
      ap (λ b. told (λ (b : Bool). truth (Some b)) [] (Ok b)) e
      ∙ sym (ap (λ (o : Outcome). o.answer) (unless_passed s [] (standing s i p ++ tail) (accepted s (truth (Some (eqb (code_of (node_at s i p)) (4 + variant_number kind)))) []) (both (standing s i p) tail x (k, tt))))

pub code_root : {o : Option Tree} {u : Tree} → o ≡ Some u → code_of o ≡ code (root u)
code_root {o} {u} e = ap code_of e ∙ go u
  where
    go : (u : Tree) → code_of (Some u) ≡ code (root u)
    go (node h f) = refl

pub enum_fit : (v : VariantType) (n : List ℕ) (i : ℕ) → is_enum (enum v n i) ≡ true
enum_fit unit n i = refl
enum_fit tuple_like n i = refl
enum_fit struct_like n i = refl

-- variant types by their numbers, and by the codes of enums
pub same_codes : (v w : VariantType) → eqb (variant_number v) (variant_number w) ≡ eqb (4 + variant_number v) (4 + variant_number w)
same_codes unit unit = refl
same_codes unit tuple_like = refl
same_codes unit struct_like = refl
same_codes tuple_like unit = refl
same_codes tuple_like tuple_like = refl
same_codes tuple_like struct_like = refl
same_codes struct_like unit = refl
same_codes struct_like tuple_like = refl
same_codes struct_like struct_like = refl

pub code_enum : (v : VariantType) (n : List ℕ) (i : ℕ) → code (enum v n i) ≡ 4 + variant_number v
code_enum unit n i = refl
code_enum tuple_like n i = refl
code_enum struct_like n i = refl
