use Rattle.shelf.proofs.Saves.{ends}
use Rattle.shelf.proofs.States.{any_rule, holds, held, seen}
use Rattle.shelf.proofs.Shelf.end.Goals as goal

pub invariant_of-self-inside : goal.invariant_of-self-inside
invariant_of-self-inside c = (tt, (∣ (_, ends any_rule c.self.invariant) ∣₁, tt))

pub invariant_of-self : goal.invariant_of-self
invariant_of-self c = holds _

pub returns : goal.returns
returns c = seen _ (ends any_rule (held c.self.invariant c.self.view_is))
