use Rattle.trees.specs.Tests.{Passed}
use Rattle.std.proofs.Common.{◌≡◌, sym, refl, ap, ◌∙◌, subst}
use Rattle.rules.specs.Meaning.{Meaning}
use Rattle.trees.specs.State.{slot, nodes, put_slot}
use Rattle.trees.specs.Calls.{copy}
use Rattle.shelf.specs.Holds.{Shows, IsLoose, run}
use Rattle.shelf.specs.Questions.{passing, room_test}
use Rattle.shelf.proofs.Runs.{none_at, some_at, size_at, run_at}
use Rattle.shelf.proofs.States.{any_rule, holds, held}
use Rattle.shelf.proofs.Outcomes.{Accepted, leaves, accepts, both}
use Rattle.shelf.proofs.Shelf.copy.Goals as goal
use Rattle.shelf.proofs.Shelf.copy.Goals.{After-land}

done : (c : After-land) (m : Meaning) → Accepted m c.args.self.now (copy c.args.from c.args.to) c.land.new.self
done c m =
    let s = c.args.self.now in
    let h = held c.self.invariant c.self.view_is in
    let w = c.in_ok-from.ensures.tries s h in
    let i = c.in_ok-from.from.number in
    let j = c.in_ok-from.to.number in
    let f = c.in_ok-from.ensures.ok in
    let low = c.in_ok-from.from.low in
    let t = some_at h.shows.lies i low f.0 in
    let z = c.size-size.ensures ∙ size_at h.shows.lies i low in
    let from : slot s.slots i ≡ slot s.slots c.args.from = ap (slot s.slots) w.1.first in
    record {
      passed = both (passing s c.args.from c.args.to) (room_test s (nodes (slot s.slots c.args.from))) w.0 (subst (λ n. Passed (room_test s n)) (z ∙ ap nodes from) (c.in_ok-room_for.ensures.tries s h).0);
      sound = h.sound;
      shows = subst (λ o. Shows c.land.new.self (put_slot s c.args.to o)) (sym t.1 ∙ from)
          (c.land.ensures s c.args.to t.0 (record {
            own = w.1.second;
            beside = record {
              shows = c.append.ensures.shows s h.shows;
              loose = subst (IsLoose c.append.new.self) (run_at h.shows.lies i _ _ low (c.start-at.ensures.is s h.shows) c.size-size.ensures ∙ ap run t.1) c.append.ensures.loose;
            };
            empty = sym (ap (slot s.slots) w.1.second) ∙ none_at h.shows.lies j c.in_ok-from.to.low f.1;
            cells = z ∙ ap nodes t.1;
          }));
    }

pub invariant_of-self-inside : goal.invariant_of-self-inside
invariant_of-self-inside c = (∣ (_, leaves (done c any_rule)) ∣₁, tt)

pub invariant_of-self : goal.invariant_of-self
invariant_of-self c = holds _

pub returns : goal.returns
returns c m = accepts (done (goal.at.returns c).After-land m) refl _
