-- The tests of slots.
use Rattle.std.specs.Prelude.{◌≡◌, ℕ, ◌||◌, List, [], ◌∷◌, nat_lt}
use Rattle.trees.specs.declared.codes.Refusal.TheVariants.{Slot as no_slot, Empty, Taken, Room}
use Rattle.trees.specs.State.{State, free_cells}
use Rattle.trees.specs.Tests.{Test, ◌by◌, over, vacant, taken}
use Rattle.shelf.specs.declared.slot.Slot.{Slot}

-- the two slots of these numbers
pub record AreSlots (i j : ℕ) (slots : Slot × Slot) : Type 0 where
  pub first : slots.0.number ≡ i
  pub second : slots.1.number ≡ j

-- of a slot that is to hold a tree
abbrev pub full_test : State → ℕ → List Test
full_test s i = vacant s i by Empty ∷ []

-- with that of its number
abbrev pub holding : State → ℕ → List Test
holding s i = over i by no_slot ∷ vacant s i by Empty ∷ []

-- of two slots
abbrev pub holding_both : State → ℕ → ℕ → List Test
holding_both s i j = (over i || over j) by no_slot ∷ (vacant s i || vacant s j) by Empty ∷ []

-- of a slot that is to receive a tree
abbrev pub bare_test : State → ℕ → List Test
bare_test s i = taken s i by Taken ∷ []

-- with that of its number
abbrev pub receiving : State → ℕ → List Test
receiving s i = over i by no_slot ∷ taken s i by Taken ∷ []

-- of a slot that holds a tree, and one that is to receive a tree
abbrev pub passing : State → ℕ → ℕ → List Test
passing s i j = (over i || over j) by no_slot ∷ vacant s i by Empty ∷ taken s j by Taken ∷ []

-- of free cells, so many
abbrev pub room_test : State → ℕ → List Test
room_test s n = nat_lt (free_cells s) n by Room ∷ []
