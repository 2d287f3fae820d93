use Rattle.std.proofs.Common.{not, [], ◌∷◌, Ok, sym, refl, ap, ◌∙◌}
use Rattle.names.specs.Names.{good_name}
use Rattle.trees.specs.declared.codes.Refusal.TheVariants as refusal
use Rattle.trees.specs.Place.{position_from}
use Rattle.trees.specs.Tests.{◌by◌}
use Rattle.trees.specs.Calls.{index_of, number}
use Rattle.cells.specs.Layout.{kids}
use Rattle.shelf.specs.Places.{standing}
use Rattle.shelf.proofs.Spots.{at_children}
use Rattle.shelf.specs.Answers.{told}
use Rattle.shelf.proofs.Labels.{named_some}
use Rattle.shelf.proofs.States.{held}
use Rattle.shelf.proofs.Outcomes.{tells, both}
use Rattle.shelf.proofs.Shelf.index_of.Goals as goal

pub returns : goal.returns
returns c m =
    let s = c.args.self.now in
    let h = held c.self.invariant c.self.view_is in
    let i = c.args.slot in
    let p = c.args.path.now in
    let n = c.args.name.now in
    let w = c.in_ok-parent.ensures.stands s h in
    let a = w.1 in
    let b = named_some n c.in_ok-label.label (sym c.in_ok-label.ensures.ok_part ∙ c.new.ensures) in
    let e = c.field.ensures s i p h a ∙ ap (λ x. position_from 0 x (kids a.goal)) b.1 in
    tells m (index_of i p n) (both (standing s i p) (not (good_name n) by refusal.Name ∷ []) w.0 (ap not b.0, tt)) refl
    (ap (λ x. told number [] (Ok x)) (e ∙ ap (position_from 0 n) (sym (at_children h a))))
