use Rattle.std.proofs.Common.{arith}
use Rattle.shelf.proofs.Runs.{total_is, sizes_sixteen}
use Rattle.shelf.proofs.Saves.{saved_in, undoes}
use Rattle.shelf.proofs.States.{any_rule, holds, held, seen}
use Rattle.shelf.proofs.Shelf.undo.Goals as goal

pub start_of-used-requires : goal.start_of-used-requires
start_of-used-requires c =
    let h = c.self.invariant in
    let k = h.shows in
    let v = saved_in any_rule h _ c.in-Some.is in
    (omega (arith, sizes_sixteen v.lies), omega (arith, total_is v.lies))

pub restore-requires : goal.restore-requires
restore-requires c =
    let h = c.self.invariant in
    let k = h.shows in
    let v = saved_in any_rule h _ c.in-Some.is in
    (omega (arith, total_is v.lies), omega (arith, total_is v.lies))

pub invariant_of-self-inside : goal.invariant_of-self-inside
invariant_of-self-inside c = (∣ (_, undoes any_rule c.self.invariant _ _ c.in-Some.is c.start_of-used.ensures c.restore.ensures) ∣₁, tt)

pub invariant_of-self : goal.invariant_of-self
invariant_of-self c = holds _

pub returns-in-Some : goal.returns-in-Some
returns-in-Some c = seen _ (undoes any_rule (held c.self.invariant c.self.view_is) _ _ c.in-Some.is c.start_of-used.ensures c.restore.ensures)
