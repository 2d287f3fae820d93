use Rattle.std.proofs.Common.{not, [], ◌∷◌, sym, refl, ap, ◌∙◌}
use Rattle.rules.specs.Meaning.{Meaning}
use Rattle.trees.specs.declared.codes.Refusal.TheVariants as refusal
use Rattle.trees.specs.Tree.{unnamed}
use Rattle.trees.specs.Place.{add_last}
use Rattle.trees.specs.Tests.{◌by◌, unfit, node_at, too_deep}
use Rattle.trees.specs.Calls.{push}
use Rattle.shelf.proofs.Spots.{at_unfit}
use Rattle.shelf.proofs.Trades.{added_last}
use Rattle.shelf.specs.Places.{meeting}
use Rattle.shelf.proofs.States.{any_rule, holds, held}
use Rattle.shelf.proofs.Outcomes.{Accepted, leaves, accepts, both}
use Rattle.shelf.proofs.Shelf.push.Goals as goal
use Rattle.shelf.proofs.Shelf.push.Goals.{After-add}

done : (c : After-add) (m : Meaning) → Accepted m c.args.self.now (push c.args.slot c.args.path.now c.args.second) c.add.new.self
done c m =
    let s = c.args.self.now in
    let i = c.args.slot in
    let j = c.args.second in
    let p = c.args.path.now in
    let h = held c.self.invariant c.self.view_is in
    let w = c.in_ok-node.ensures.meets s h in
    let q = w.1 in
    let a = q.there in
    record {
      passed = both (meeting s i p j) (unfit unnamed (node_at s i p) by refusal.Kind ∷ too_deep s p j by refusal.Depth ∷ []) w.0
          (at_unfit h a unnamed ∙ ap not (sym c.is_unnamed.ensures ∙ c.if-not-is_unnamed.false), (c.in_ok-deep_enough.ensures s j q.own h).0);
      sound = h.sound;
      shows = c.add.ensures s i p j h q (add_last [])
          (added_last h q []);
    }

pub invariant_of-self-inside : goal.invariant_of-self-inside
invariant_of-self-inside c = (∣ (_, leaves (done c any_rule)) ∣₁, tt)

pub invariant_of-self : goal.invariant_of-self
invariant_of-self c = holds _

pub returns : goal.returns
returns c m = accepts (done (goal.at.returns c).After-add m) refl _
