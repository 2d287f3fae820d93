use Rattle.std.proofs.Common.{not, [], ◌∷◌, sym, refl, ap, ◌∙◌, arith}
use Rattle.rules.specs.Meaning.{Meaning}
use Rattle.names.specs.Names.{good_name}
use Rattle.trees.specs.declared.codes.Refusal.TheVariants as refusal
use Rattle.trees.specs.Tree.{named}
use Rattle.trees.specs.Place.{position_from, insert_under}
use Rattle.trees.specs.Tests.{◌by◌, unfit, node_at, too_deep}
use Rattle.trees.specs.Calls.{insert}
use Rattle.cells.specs.Layout.{kids}
use Rattle.shelf.specs.Places.{meeting}
use Rattle.shelf.proofs.Spots.{at_unfit, at_here, at_below, at_kid}
use Rattle.shelf.proofs.Trades.{moved_in, field_old, in_field, added_new}
use Rattle.shelf.proofs.Labels.{named_some}
use Rattle.shelf.proofs.States.{any_rule, holds, held}
use Rattle.shelf.proofs.Outcomes.{Accepted, leaves, accepts, both}
use Rattle.shelf.proofs.Shelf.insert.Goals as goal
use Rattle.shelf.proofs.Shelf.insert.Goals.{After-free, After-add}

pub overflow_add-i : goal.overflow_add-i
overflow_add-i c =
    let h = c.self.invariant in
    let n = c.args.name.now in
    let a = (c.in_ok-spot.ensures.meets _ h).1.there in
    let b = named_some n c.in_ok-label.label (sym c.in_ok-label.ensures.ok_part ∙ c.new.ensures) in
    let e = c.in-Some.ensures _ c.args.slot c.args.path.now h a ∙ ap (λ x. position_from 0 x (kids a.goal)) b.1 in
    omega (arith, at_below h a n c.in-Some.i (sym e), c.in_ok-spot.ensures.plain.few)

pub graft-requires-clause-here : goal.graft-requires-clause-here
graft-requires-clause-here c =
    let h = c.self.invariant in
    let n = c.args.name.now in
    let a = (c.in_ok-spot.ensures.meets _ h).1.there in
    let b = named_some n c.in_ok-label.label (sym c.in_ok-label.ensures.ok_part ∙ c.new.ensures) in
    let e = c.in-Some.ensures _ c.args.slot c.args.path.now h a ∙ ap (λ x. position_from 0 x (kids a.goal)) b.1 in
    at_here h a _ (omega (arith, at_below h a n c.in-Some.i (sym e)))

pub free-requires : goal.free-requires
free-requires c =
    let h = c.self.invariant in
    let p = c.args.path.now in
    let n = c.args.name.now in
    let q = (c.in_ok-spot.ensures.meets _ h).1 in
    let a = q.there in
    let b = named_some n c.in_ok-label.label (sym c.in_ok-label.ensures.ok_part ∙ c.new.ensures) in
    let e = c.in-Some.ensures _ c.args.slot p h a ∙ ap (λ x. position_from 0 x (kids a.goal)) b.1 in
    let o = field_old h a n q.other c.in-Some.i (sym e) in
    (n, o.child, (c.graft.ensures _ _ q.other h q.own q.in_second _ p _ _ (in_field h a n q.other c.in-Some.i o (sym b.1))).loose, at_kid h a c.in-Some.i o.is)

-- the same name, whose tree is replaced
replaced : (c : After-free) (m : Meaning) → Accepted m c.args.self.now (insert c.args.slot c.args.path.now c.args.second c.args.name.now) c.free.new.self
replaced c m =
    let s = c.args.self.now in
    let h = held c.self.invariant c.self.view_is in
    let i = c.args.slot in
    let j = c.args.second in
    let p = c.args.path.now in
    let n = c.args.name.now in
    let w = c.in_ok-spot.ensures.meets s h in
    let q = w.1 in
    let a = q.there in
    let u = q.other in
    let b = named_some n c.in_ok-label.label (sym c.in_ok-label.ensures.ok_part ∙ c.new.ensures) in
    let e = c.in-Some.ensures s i p h a ∙ ap (λ x. position_from 0 x (kids a.goal)) b.1 in
    let o = field_old h a n u c.in-Some.i (sym e) in
    record {
      passed = both (meeting s i p j) (unfit named (node_at s i p) by refusal.Kind ∷ not (good_name n) by refusal.Name ∷ too_deep s p j by refusal.Depth ∷ []) w.0
          (at_unfit h a named ∙ ap not (sym c.is_named.ensures ∙ c.if-not-is_named.false), (ap not b.0, (c.in_ok-deep_enough.ensures s j q.own h).0));
      sound = h.sound;
      shows = moved_in s i p j (insert_under n) a.holds q.in_second
          (c.free.ensures _ (c.graft.ensures s j u h q.own q.in_second i p _ _ (in_field h a n u c.in-Some.i o (sym b.1))).shows);
    }

-- a new name, last
added : (c : After-add) (m : Meaning) → Accepted m c.args.self.now (insert c.args.slot c.args.path.now c.args.second c.args.name.now) c.add.new.self
added c m =
    let s = c.args.self.now in
    let h = held c.self.invariant c.self.view_is in
    let i = c.args.slot in
    let j = c.args.second in
    let p = c.args.path.now in
    let n = c.args.name.now in
    let w = c.in_ok-spot.ensures.meets s h in
    let q = w.1 in
    let a = q.there in
    let b = named_some n c.in_ok-label.label (sym c.in_ok-label.ensures.ok_part ∙ c.new.ensures) in
    let e = c.in-None.ensures s i p h a ∙ ap (λ x. position_from 0 x (kids a.goal)) b.1 in
    record {
      passed = both (meeting s i p j) (unfit named (node_at s i p) by refusal.Kind ∷ not (good_name n) by refusal.Name ∷ too_deep s p j by refusal.Depth ∷ []) w.0
          (at_unfit h a named ∙ ap not (sym c.is_named.ensures ∙ c.if-not-is_named.false), (ap not b.0, (c.in_ok-deep_enough.ensures s j q.own h).0));
      sound = h.sound;
      shows = c.add.ensures s i p j h q (insert_under n) (added_new h q n (sym e) (sym b.1));
    }

pub invariant_of-self-inside : goal.invariant_of-self-inside
invariant_of-self-inside c = (∣ (_, leaves (replaced c any_rule)) ∣₁, tt)

pub invariant_of-self : goal.invariant_of-self
invariant_of-self c = holds _

pub returns-in-Some : goal.returns-in-Some
returns-in-Some c m = accepts (replaced (goal.at.returns-in-Some c).After-free m) refl _

pub invariant_of-self-inside-in-None : goal.invariant_of-self-inside-in-None
invariant_of-self-inside-in-None c = (∣ (_, leaves (added c any_rule)) ∣₁, tt)

pub invariant_of-self-in-None : goal.invariant_of-self-in-None
invariant_of-self-in-None c = holds _

pub returns-in-None : goal.returns-in-None
returns-in-None c m = accepts (added (goal.at.returns-in-None c).After-add m) refl _
