-- What the calls that lay a patch answer, and the tests that they begin with.
use Rattle.std.specs.Prelude.{◌≡◌, ℕ, ◌≤◌, ◌||◌, List, [], ◌∷◌, length, Some, Result, nat_eq}
use Rattle.trees.specs.declared.codes.Refusal.TheVariants.{Lent, Slot as no_slot, Empty, Same}
use Rattle.trees.specs.Tree.{Tree}
use Rattle.trees.specs.Apply.{Walked, apply}
use Rattle.trees.specs.State.{State, slot as in_slot, put_slot, free_cells}
use Rattle.trees.specs.Tests.{Test, ◌by◌, over, vacant, short_path_row}
use Rattle.patch.specs.declared.walk.Fault.{Fault}
use Rattle.patch.specs.Outcome.{Tells}
use Rattle.shelf.specs.declared.rack.Rack.{Rack}
use Rattle.shelf.specs.declared.slot.Slot.{Slot}
use Rattle.shelf.specs.Holds.{Shows}
use Rattle.shelf.specs.Places.{IsFull}

-- the tests that both calls begin with
abbrev pub laying : State → ℕ → ℕ → List ℕ → List Test
laying s i j row =
    short_path_row row by Lent ∷
    (over i || over j) by no_slot ∷
    (vacant s i || vacant s j) by Empty ∷
    nat_eq i j by Same ∷
    []

-- two slots that hold trees, and a row that is long enough
pub record IsReady (i : Rack) (slots : Slot × Slot) (row : List ℕ) : Type 0 where
  pub target_full : IsFull i slots.0
  pub second_full : IsFull i slots.1
  pub apart : slots.0.number ≡ slots.1.number → ⊥
  pub long : 15 ≤ length row

-- the target is what the walk w left, and the result and the row tell how it ended
pub record Walks (i : Rack) (s : State) (target : ℕ) (w : Walked Tree) (r : Result (Unit {0}) Fault) (before row : List ℕ) : Type 0 where
  pub shows : Shows i (put_slot s target (Some w.left))
  pub tells : Tells r before row w.ending
  pub few : w.free ≤ 4096

-- the second slot's tree was laid on the target's
abbrev pub Lays : Rack → State → ℕ → ℕ → Result (Unit {0}) Fault → List ℕ → List ℕ → Type 0
Lays i s target second r before row =
    (t p : Tree) → in_slot s.slots target ≡ Some t → in_slot s.slots second ≡ Some p → Walks i s target (apply t p (free_cells s)) r before row
