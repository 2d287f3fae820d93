-- A shelf holds its state, and no other.
use Rattle.std.proofs.Common.{◌≡◌, false, None, subst}
use Rattle.rules.specs.Meaning.{Meaning}
use Rattle.trees.specs.State.{State}
use Rattle.shelf.specs.declared.rack.Rack.{Rack}
use Rattle.shelf.specs.Holds.{Holds}
use Rattle.shelf.specs.Known.{known, holds_unique}
use Rattle.shelf.specs.State.{state_of}

-- the cells hold the state that is seen
pub holds : {r : Rack} (ok : ∥ ((s : State) × Holds r s) ∥₁) → Holds r (state_of ok)
unfolding state_of
holds ok = (known ok).1

pub held : {r : Rack} {s t : State} → Holds r t → t ≡ s → Holds r s
held {r} h e = subst (Holds r) e h

-- the state that they hold is seen
pub seen : {r : Rack} {s : State} (ok : ∥ ((s : State) × Holds r s) ∥₁) → Holds r s → state_of ok ≡ s
unfolding state_of
seen ok h = holds_unique (known ok).1 h

-- a rule for the calls that ask none
pub any_rule : Meaning
any_rule = record { admits = λ p. false; eq = λ p q. None; cmp = λ p q. None; hash = λ p. None; beside = λ p. None }
