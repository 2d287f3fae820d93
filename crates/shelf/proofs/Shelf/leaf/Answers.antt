use Rattle.std.proofs.Common.{not, sym, refl, ap, ◌∙◌, arith}
use Rattle.std.proofs.lemmas.Bool.{lt-leb}
use Rattle.trees.specs.declared.head.Head.TheVariants.{Leaf as leaf}
use Rattle.trees.specs.State.{slot, free_cells}
use Rattle.trees.specs.Calls.{new_leaf}
use Rattle.shelf.proofs.Runs.{none_at}
use Rattle.shelf.proofs.States.{holds, held}
use Rattle.shelf.proofs.Outcomes.{Accepted, leaves, accepts}
use Rattle.shelf.proofs.Shelf.leaf.Given.{Over}
use Rattle.shelf.proofs.Shelf.leaf.Goals as goal
use Rattle.shelf.proofs.Shelf.leaf.Goals.{After-plant}

done : (g : Over) (c : After-plant g) → Accepted (g.R.LeafRule.means c.args.rule.now) c.args.self.now (new_leaf c.args.slot c.args.tag c.args.value) c.plant.new.self
done g c =
    let s = c.args.self.now in
    let h = held c.self.invariant c.self.view_is in
    let w = c.in_ok-slot.ensures.tries s h in
    let r = c.in_ok-room_for.ensures.room in
    let sh = h.shows in
    record {
      passed = (w.0.0, (w.0.1.0, (ap not (sym c.admits.ensures ∙ c.if-not-admits.false), (lt-leb (free_cells s) 0 (omega arith), tt))));
      sound = h.sound;
      shows = c.plant.ensures s c.args.slot (leaf (record { tag = c.args.tag; value = c.args.value })) w.1 h.shows
          (sym (ap (slot s.slots) w.1) ∙ none_at h.shows.lies c.in_ok-slot.slot.number c.in_ok-slot.slot.low c.in_ok-slot.ensures.bare) refl;
    }

pub invariant_of-self-inside : goal.invariant_of-self-inside
invariant_of-self-inside g c = (∣ (_, leaves (done g c)) ∣₁, tt)

pub invariant_of-self : goal.invariant_of-self
invariant_of-self g c = holds _

pub returns : goal.returns
returns g c = accepts (done g (goal.at.returns g c).After-plant) refl _
