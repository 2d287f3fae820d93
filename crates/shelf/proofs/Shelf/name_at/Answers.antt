use Rattle.std.proofs.Common.{◌+◌, leb, [], ◌∷◌, length, Some, Ok, sym, refl, ap, ◌∙◌, arith}
use Rattle.std.proofs.lemmas.Bool.{lt-leb}
use Rattle.trees.specs.declared.codes.Refusal.TheVariants as refusal
use Rattle.trees.specs.Tree.{count}
use Rattle.trees.specs.Place.{label_at}
use Rattle.trees.specs.Tests.{◌by◌, node_at, children}
use Rattle.trees.specs.Calls.{name_at, number, in_front}
use Rattle.shelf.specs.Places.{standing}
use Rattle.shelf.proofs.Spots.{at_number, at_children, at_own}
use Rattle.shelf.specs.Answers.{told}
use Rattle.shelf.proofs.Shown.{kid}
use Rattle.shelf.proofs.States.{held}
use Rattle.shelf.proofs.Outcomes.{tells, both}
use Rattle.shelf.proofs.Shelf.name_at.Goals as goal

pub bounds-self-inside-at : goal.bounds-self-inside-at
bounds-self-inside-at c =
    let h = c.self.invariant in
    let p = c.args.path.now in
    let a = (c.in_ok-spot.ensures.stands _ h).1 in
    (kid h (at_own h a) _ _ c.args.index c.in_ok-spot.spot.slot.low (c.start.ensures.is _ h.shows) (omega arith) (ap (λ n. c.start.result + n) (c.gap.ensures.is _ _ p h a))).below

pub returns : goal.returns
returns c m =
    let s = c.args.self.now in
    let h = held c.self.invariant c.self.view_is in
    let i = c.args.slot in
    let p = c.args.path.now in
    let n = c.args.index in
    let r = c.args.row.now in
    let w = c.in_ok-spot.ensures.stands s h in
    let a = w.1 in
    let k = kid h (at_own h a) _ _ n c.in_ok-spot.spot.slot.low (c.start.ensures.is s h.shows) (omega arith) (ap (λ n. c.start.result + n) (c.gap.ensures.is s _ p h a)) in
    let e = k.called _ ∙ ap (label_at n) (sym (at_children h a)) in
    tells m (name_at i p n r)
    (c.in_ok-name_row.ensures.0.0, both (standing s i p) (leb (count (children (node_at s i p))) n by refusal.Index ∷ []) w.0 (lt-leb (count (children (node_at s i p))) n (omega (arith, at_number h a)), tt))
    refl
    (ap (λ x. told (λ n. number (Some n)) c.show_name.new.row (Ok x)) (c.show_name.ensures.size ∙ ap length e)
    ∙ ap (λ y. told (λ n. number (Some n)) y (Ok (length (label_at n (children (node_at s i p)))))) (c.show_name.ensures.front ∙ ap (λ x. in_front x r) e))
