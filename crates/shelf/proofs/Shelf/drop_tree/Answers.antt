use Rattle.std.proofs.Common.{[], refl, ap, subst}
use Rattle.rules.specs.Meaning.{Meaning}
use Rattle.trees.specs.Calls.{drop_tree}
use Rattle.shelf.specs.Holds.{IsLoose, run}
use Rattle.shelf.proofs.Runs.{some_at}
use Rattle.shelf.proofs.Spots.{slot_low}
use Rattle.shelf.proofs.States.{any_rule, holds, held}
use Rattle.shelf.proofs.Outcomes.{Accepted, leaves, accepts}
use Rattle.shelf.proofs.Shelf.drop_tree.Goals as goal
use Rattle.shelf.proofs.Shelf.drop_tree.Goals.{After-free}

pub free-requires : goal.free-requires
free-requires c =
    let h = c.self.invariant in
    let i = c.in_ok-slot.slot.number in
    let t = some_at h.shows.lies i c.in_ok-slot.slot.low c.in_ok-slot.ensures.full in
    ([], t.0, subst (IsLoose c.lift.new.self) (ap run t.1) (c.lift.ensures.is _ i refl h.shows).loose, slot_low h i t.1)

done : (c : After-free) (m : Meaning) → Accepted m c.args.self.now (drop_tree c.args.slot) c.free.new.self
done c m =
    let s = c.args.self.now in
    let h = held c.self.invariant c.self.view_is in
    let w = c.in_ok-slot.ensures.tries s h in
    record {
      passed = w.0;
      sound = h.sound;
      shows = c.free.ensures _ (c.lift.ensures.is s c.args.slot w.1 h.shows).shows;
    }

pub invariant_of-self-inside : goal.invariant_of-self-inside
invariant_of-self-inside c = (∣ (_, leaves (done c any_rule)) ∣₁, tt)

pub invariant_of-self : goal.invariant_of-self
invariant_of-self c = holds _

pub returns : goal.returns
returns c m = accepts (done (goal.at.returns c).After-free m) refl _
