use Rattle.std.proofs.Common.{leb, [], ◌∷◌, sym, refl, ap, ◌∙◌, arith}
use Rattle.std.proofs.lemmas.Bool.{lt-leb}
use Rattle.rules.specs.Meaning.{Meaning}
use Rattle.trees.specs.declared.codes.Refusal.TheVariants as refusal
use Rattle.trees.specs.Place.{head_of}
use Rattle.trees.specs.State.{slot, free_cells}
use Rattle.trees.specs.Tests.{◌by◌}
use Rattle.trees.specs.Calls.{new_node}
use Rattle.shelf.specs.Tries.{head_tests}
use Rattle.shelf.proofs.Runs.{none_at}
use Rattle.shelf.proofs.States.{any_rule, holds, held}
use Rattle.shelf.proofs.Outcomes.{Accepted, leaves, accepts, both}
use Rattle.shelf.proofs.Shelf.node.Goals as goal
use Rattle.shelf.proofs.Shelf.node.Goals.{After-plant}

done : (c : After-plant) (m : Meaning) → Accepted m c.args.self.now (new_node c.args.slot c.args.code c.args.name.now c.args.index) c.plant.new.self
done c m =
    let s = c.args.self.now in
    let h = held c.self.invariant c.self.view_is in
    let n = c.args.code in
    let x = c.args.name.now in
    let e = c.in_ok-head.ensures in
    let w = c.in_ok-slot.ensures.tries s h in
    let r = c.in_ok-room_for.ensures.room in
    let sh = h.shows in
    record {
      passed = (w.0.0, (w.0.1.0, both (head_tests n x) (leb (free_cells s) 0 by refusal.Room ∷ []) e.0 (lt-leb (free_cells s) 0 (omega arith), tt)));
      sound = h.sound;
      shows = c.plant.ensures s c.args.slot (head_of n x c.args.index) w.1 h.shows
          (sym (ap (slot s.slots) w.1) ∙ none_at h.shows.lies c.in_ok-slot.slot.number c.in_ok-slot.slot.low c.in_ok-slot.ensures.bare) e.1;
    }

pub invariant_of-self-inside : goal.invariant_of-self-inside
invariant_of-self-inside c = (∣ (_, leaves (done c any_rule)) ∣₁, tt)

pub invariant_of-self : goal.invariant_of-self
invariant_of-self c = holds _

pub returns : goal.returns
returns c m = accepts (done (goal.at.returns c).After-plant m) refl _
