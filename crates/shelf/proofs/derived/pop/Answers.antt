use Rattle.std.proofs.Common.{◌≡◌, Bool, true, false, not, ◌||◌, refl, sym, ap, ◌∙◌, arith}
use Rattle.std.specs.Prelude.{◌==◌}
use Rattle.trees.specs.Tree.{code}
use Rattle.trees.specs.Tests.{is_list, struct_or_list}
use Rattle.shelf.proofs.Spots.{at_unfit, at_number}
use Rattle.shelf.proofs.Pops.{pop_last, pop_never}
use Rattle.shelf.proofs.States.{any_rule, held}
use Rattle.shelf.proofs.derived.pop.Goals as goal

or_right : (x y : Bool) → y ≡ true → (x || y) ≡ true
or_right true y e = refl
or_right false y e = e

pub returns-in_err-remove_at : goal.returns-in_err-remove_at
returns-in_err-remove_at c =
    let s = c.args.shelf.now in
    let h = held c.shelf.invariant c.shelf.view_is in
    let w = c.in_ok-spot.ensures.leaves s h in
    let a = w.1.there in
    let x = c.in_ok-spot.spot.cell.head in
    let k = at_unfit h a struct_or_list ∙ ap not (or_right (code x == 1) (code x == 3) (sym c.is_list.ensures ∙ c.if-not-is_list.false)) in
    let y = at_number h a in
    pop_never any_rule s c.remove_at.new.self c.args.slot c.args.path.now c.args.second c.in-Some.index w.0 k (omega (arith, y)) _ (c.in_err-remove_at.ensures any_rule)

pub returns : goal.returns
returns c =
    let s = c.args.shelf.now in
    let h = held c.shelf.invariant c.shelf.view_is in
    let w = c.in_ok-spot.ensures.leaves s h in
    let a = w.1.there in
    let k = at_unfit h a is_list ∙ ap not (sym c.is_list.ensures ∙ c.if-not-is_list.false) in
    let y = at_number h a in
    let r = pop_last any_rule s c.remove_at.new.self c.args.slot c.args.path.now c.args.second c.in-Some.index w.0 k (omega (arith, y)) (c.in_ok-remove_at.ensures any_rule) in
    record { after = r.after; answer = r.answer }
