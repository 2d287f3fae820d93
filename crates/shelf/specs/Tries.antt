-- Which of a call's tests refuses, and the tests that several calls begin with.
use Rattle.std.specs.Prelude.{◌≡◌, ℕ, true, false, not, ◌&&◌, ◌⊎◌, List, [], ◌∷◌, Ok, Err, Result}
use Rattle.names.specs.Names.{good_name}
use Rattle.trees.specs.declared.codes.Refusal.{Refusal}
use Rattle.trees.specs.declared.codes.Refusal.TheVariants.{Kind, Name}
use Rattle.trees.specs.Name as name
use Rattle.trees.specs.declared.codes.VariantType.{VariantType}
use Rattle.trees.specs.Place.{head_of, variant_of}
use Rattle.trees.specs.Tests.{Test, ◌by◌, node_code, enum_code, Passed}
use Rattle.trees.specs.declared.head.Head.{Head}

-- the first test that holds refuses so
abbrev pub Stops : List Test → Refusal → Type 0
Stops [] e = ⊥
Stops (t ∷ ts) e = ((t.bad ≡ true) × (t.refusal ≡ e)) ⊎ ((t.bad ≡ false) × Stops ts e)

-- what a part of a call comes to: it passes its tests with an answer that is right, or the first that holds refuses
abbrev pub Tries : {X : Type 0} → List Test → (X → Type 0) → Result X Refusal → Type 0
Tries ts Right (Ok x) = Passed ts × Right x
Tries ts Right (Err e) = Stops ts e

-- the tests of a new node's code and name
abbrev pub head_tests : ℕ → name.Name → List Test
head_tests n name = not (node_code n) by Kind ∷ (enum_code n && not (good_name name)) by Name ∷ []

-- the value of the head of a code 1 to 6
abbrev pub Heads : ℕ → name.Name → ℕ → Result Head Refusal → Type 0
Heads n name index r = Tries (head_tests n name) (λ h. h ≡ (head_of n name index)) r

-- the code is that of an enum of a variant type
abbrev pub IsVariant : ℕ → VariantType → Type 0
IsVariant n v = (enum_code n ≡ true) × (v ≡ variant_of n)

-- the code is none of an enum, and is refused
abbrev pub NoVariant : ℕ → Refusal → Type 0
NoVariant n e = (enum_code n ≡ false) × (e ≡ Kind)
