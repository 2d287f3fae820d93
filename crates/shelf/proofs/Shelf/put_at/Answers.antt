use Rattle.std.proofs.Common.{not, [], ◌∷◌, sym, refl, ap, ◌∙◌}
use Rattle.rules.specs.Meaning.{Meaning}
use Rattle.trees.specs.declared.codes.Refusal.TheVariants as refusal
use Rattle.std.proofs.Common.{◌≤◌, ltb, arith}
use Rattle.std.proofs.lemmas.Bool.{le-ltb}
use Rattle.trees.specs.Tree.{count}
use Rattle.trees.specs.Place.{add_at}
use Rattle.trees.specs.Tests.{◌by◌, unfit, node_at, children, too_deep, is_list}
use Rattle.trees.specs.Calls.{put_at}
use Rattle.cells.specs.Layout.{kids}
use Rattle.cells.proofs.Swaps.{swap_add_at, count_add_at}
use Rattle.shelf.proofs.Spots.{at_unfit, at_number, at_count}
use Rattle.shelf.specs.Places.{meeting}
use Rattle.shelf.proofs.States.{any_rule, holds, held}
use Rattle.shelf.proofs.Outcomes.{Accepted, leaves, accepts, both}
use Rattle.shelf.proofs.Shelf.put_at.Goals as goal
use Rattle.shelf.proofs.Shelf.put_at.Goals.{After-add}

done : (c : After-add) (m : Meaning) → Accepted m c.args.self.now (put_at c.args.slot c.args.path.now c.args.second c.args.index) c.add.new.self
done c m =
    let s = c.args.self.now in
    let i = c.args.slot in
    let j = c.args.second in
    let p = c.args.path.now in
    let h = held c.self.invariant c.self.view_is in
    let w = c.in_ok-list.ensures.meets s h in
    let q = w.1 in
    let a = q.there in
    record {
      passed = both (meeting s i p j) (unfit is_list (node_at s i p) by refusal.Kind ∷ ltb (count (children (node_at s i p))) c.args.index by refusal.Index ∷ too_deep s p j by refusal.Depth ∷ []) w.0
          (at_unfit h a is_list ∙ ap not (sym c.is_list.ensures ∙ c.if-not-is_list.false), (le-ltb (count (children (node_at s i p))) c.args.index (omega (arith, at_number h a)), (c.in_ok-deep_enough.ensures s j q.own h).0));
      sound = h.sound;
      shows = c.add.ensures s i p j h q (add_at c.args.index)
          (let y = at_count h a in let o : c.args.index ≤ count (kids a.goal) = omega arith in record { one = count_add_at q.other (kids a.goal) c.args.index o; swap = swap_add_at q.other (kids a.goal) c.args.index o });
    }

pub invariant_of-self-inside : goal.invariant_of-self-inside
invariant_of-self-inside c = (∣ (_, leaves (done c any_rule)) ∣₁, tt)

pub invariant_of-self : goal.invariant_of-self
invariant_of-self c = holds _

pub returns : goal.returns
returns c m = accepts (done (goal.at.returns c).After-add m) refl _
