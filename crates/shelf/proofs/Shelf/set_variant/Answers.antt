use Rattle.std.proofs.Common.{not, ◌||◌, [], ◌∷◌, sym, refl, ap, ◌∙◌}
use Rattle.std.proofs.lemmas.Bool.{or_from}
use Rattle.rules.specs.Meaning.{Meaning}
use Rattle.names.specs.Names.{good_name}
use Rattle.trees.specs.declared.codes.Refusal.TheVariants as refusal
use Rattle.trees.specs.declared.head.Head.TheVariants.{Enum as enum}
use Rattle.trees.specs.Tree.{node, empty}
use Rattle.trees.specs.Place.{variant_of}
use Rattle.trees.specs.Tests.{◌by◌, unfit, node_at, is_enum, enum_code}
use Rattle.trees.specs.Calls.{set_variant}
use Rattle.shelf.specs.Places.{standing}
use Rattle.shelf.proofs.Spots.{at_unfit}
use Rattle.shelf.proofs.Labels.{named_some}
use Rattle.shelf.proofs.Takes.{put_changed, reset_cell, reset}
use Rattle.shelf.proofs.States.{any_rule, holds, held}
use Rattle.cells.specs.declared.types.Cell.{Cell}
use Rattle.trees.specs.declared.head.Head.TheVariants as value
use Rattle.shelf.proofs.Outcomes.{Accepted, leaves, accepts, both}
use Rattle.shelf.proofs.Shelf.set_variant.Goals as goal
use Rattle.shelf.proofs.Shelf.set_variant.Goals.{After-cut}

done : (c : After-cut) (m : Meaning) → Accepted m c.args.self.now (set_variant c.args.slot c.args.path.now c.args.code c.args.name.now c.args.index) c.cut.new.self
done c m =
    let s = c.args.self.now in
    let h = held c.self.invariant c.self.view_is in
    let i = c.args.slot in
    let p = c.args.path.now in
    let n = c.args.code in
    let x = c.args.name.now in
    let d = c.args.index in
    let w = c.in_ok-spot.ensures.stands s h in
    let a = w.1 in
    let k = or_from (unfit is_enum (node_at s i p)) (not (enum_code n)) (at_unfit h a is_enum ∙ ap not (sym c.is_enum.ensures ∙ c.if-not-is_enum.false)) (ap not c.in_ok-kind.ensures.0) in
    let b = named_some x c.in_ok-name.name (sym c.in_ok-name.ensures.ok_part ∙ c.new.ensures) in
    record {
      passed = both (standing s i p) ((unfit is_enum (node_at s i p) || not (enum_code n)) by refusal.Kind ∷ not (good_name x) by refusal.Name ∷ []) w.0 (k, (ap not b.0, tt));
      sound = h.sound;
      shows = put_changed s i p (λ t. node (enum (variant_of n) x d) empty) a.holds
          (c.cut.ensures s h i p _ _ (reset h a (variant_of n) x d
          (ap (λ (v : Cell). record { label = v.label; head = value.Enum c.in_ok-kind.kind c.in_ok-name.name d; children = v.children }) c.with_children-cell.ensures ∙ reset_cell h a (variant_of n) x d c.in_ok-kind.ensures.1 b.1))).beside.shows;
    }

pub invariant_of-self-inside : goal.invariant_of-self-inside
invariant_of-self-inside c = (∣ (_, leaves (done c any_rule)) ∣₁, tt)

pub invariant_of-self : goal.invariant_of-self
invariant_of-self c = holds _

pub returns : goal.returns
returns c m = accepts (done (goal.at.returns c).After-cut m) refl _
