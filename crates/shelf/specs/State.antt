-- The state that a shelf holds.
use Rattle.trees.specs.State.{State}
use Rattle.shelf.specs.declared.rack.Rack.{Rack}
use Rattle.shelf.specs.Holds.{Holds}
use Rattle.shelf.specs.Known.{known}

-- the state that the cells are known to hold
unfoldable pub state_of : {r : Rack} → ∥ ((s : State) × Holds r s) ∥₁ → State
state_of ok = (known ok).0
