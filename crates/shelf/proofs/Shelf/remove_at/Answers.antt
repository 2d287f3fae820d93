use Rattle.std.proofs.Common.{not, leb, [], ◌∷◌, Some, sym, refl, ap, ◌∙◌, arith}
use Rattle.std.proofs.lemmas.Bool.{lt-leb}
use Rattle.rules.specs.Meaning.{Meaning}
use Rattle.trees.specs.declared.codes.Refusal.TheVariants as refusal
use Rattle.trees.specs.Tree.{count, at}
use Rattle.trees.specs.Place.{change_in, change_children, take_at}
use Rattle.trees.specs.State.{put_slot}
use Rattle.trees.specs.Tests.{◌by◌, unfit, node_at, children, struct_or_list}
use Rattle.trees.specs.Calls.{remove_at}
use Rattle.trees.proofs.Slots.{set_there}
use Rattle.cells.proofs.Layouts.{length-encode, size_pos}
use Rattle.shelf.specs.Places.{leaving}
use Rattle.shelf.proofs.Spots.{at_unfit, at_number, at_children}
use Rattle.shelf.proofs.Takes.{child, without, moved_out}
use Rattle.shelf.proofs.States.{any_rule, holds, held}
use Rattle.shelf.proofs.Outcomes.{Accepted, leaves, accepts, both}
use Rattle.shelf.proofs.Shelf.remove_at.Goals as goal
use Rattle.shelf.proofs.Shelf.remove_at.Goals.{After-land}

pub rename-requires : goal.rename-requires
rename-requires c =
    let h = c.self.invariant in
    let a = (c.in_ok-spot.ensures.leaves _ h).1.there in
    let k = child h a c.args.index (omega arith) in
    let o = (c.cut-size.ensures _ h _ _ _ _ (without a c.args.index k c.with_children-cell.ensures)).beside in
    let sh = o.shows in
    record { room = omega (arith, o.loose.fits, length-encode k.label k.child, size_pos k.child) }

pub land-requires : goal.land-requires
land-requires c =
    let h = c.self.invariant in
    let a = (c.in_ok-spot.ensures.leaves _ h).1.there in
    let k = child h a c.args.index (omega arith) in
    let o = c.cut-size.ensures _ h _ _ _ _ (without a c.args.index k c.with_children-cell.ensures) in
    record { shows = (_, c.rename.ensures.shows _ o.beside.shows); size = omega (arith, o.beside.loose.fits, o.cells) }

done : (c : After-land) (m : Meaning) → Accepted m c.args.self.now (remove_at c.args.slot c.args.path.now c.args.second c.args.index) c.land.new.self
done c m =
    let s = c.args.self.now in
    let h = held c.self.invariant c.self.view_is in
    let i = c.args.slot in
    let j = c.args.second in
    let p = c.args.path.now in
    let n = c.args.index in
    let w = c.in_ok-spot.ensures.leaves s h in
    let q = w.1 in
    let a = q.there in
    let k = child h a n (omega arith) in
    let o = c.cut-size.ensures s h _ _ _ _ (without a n k c.with_children-cell.ensures) in
    let t' = change_in p (change_children (take_at n)) a.tree in
    record {
      passed = both (leaving s i p j) (unfit struct_or_list (node_at s i p) by refusal.Kind ∷ leb (count (children (node_at s i p))) n by refusal.Index ∷ []) w.0
          (at_unfit h a struct_or_list ∙ ap not (sym c.is_struct_or_list.ensures ∙ c.if-not-is_struct_or_list.false), (lt-leb (count (children (node_at s i p))) n (omega (arith, at_number h a)), tt));
      sound = h.sound;
      shows = moved_out s i p j n a.holds (ap (at n) (at_children h a) ∙ k.is)
          (c.land.ensures (put_slot s i (Some t')) j k.child (record {
            own = q.own;
            beside = record { shows = c.rename.ensures.shows _ o.beside.shows; loose = c.rename.ensures.loose k.label k.child o.beside.loose };
            empty = set_there s.slots i j (Some t') (λ e. q.apart (sym e)) ∙ q.free;
            cells = o.cells ∙ length-encode k.label k.child;
          }));
    }

pub invariant_of-self-inside : goal.invariant_of-self-inside
invariant_of-self-inside c = (∣ (_, leaves (done c any_rule)) ∣₁, tt)

pub invariant_of-self : goal.invariant_of-self
invariant_of-self c = holds _

pub returns : goal.returns
returns c m = accepts (done (goal.at.returns c).After-land m) refl _
