use Rattle.std.proofs.Common.{sym, refl, ap, ◌∙◌, arith}
use Rattle.names.specs.Names.{same_name}
use Rattle.trees.specs.Tree.{count}
use Rattle.cells.specs.Views.{tree, label}
use Rattle.cells.proofs.Viewed.{first_and_rest}
use Rattle.walks.proofs.Searches.{sought_all, sought_on, Begins, begins_hint, begins_row, handed_on, Hit, hit, none_found}
use Rattle.walks.proofs.pairs.Fields.find.Goals as goal
use Rattle.walks.proofs.pairs.Fields.find.Goals.{In_ok-child, in-Some+then-eq, in-Some-first+then-eq-2, in_default-first}

pub loop-child-init : goal.loop-child-init
loop-child-init c = sought_all _ _

pub loop-child-preserved : goal.loop-child-preserved
loop-child-preserved c =
    let k = c.in-Some-first.child in
    sought_on k c.loop-child.invariant c.in-Some-first.ensures c.rest-left.ensures.behind c.rest-left.ensures.forest (ap (same_name c.args.name.now) (sym c.label-in-Some-first.ensures) ∙ sym c.if-eq-2.ensures)

pub loop-child-smaller : goal.loop-child-smaller
loop-child-smaller c = omega (arith, ap count (first_and_rest c.loop-child.left c.rest-left.result c.in-Some-first.child c.in-Some-first.ensures c.rest-left.ensures.forest))

found_hit : (c : In_ok-child) → Hit c.args.self.row c.in_ok-child.hint c.args.name.now (tree c.in_ok-child.child)
found_hit c =
    let b : Begins c.args.self.row c.in_ok-from.from c.args.name.now =
    elim c.match-search.branch [
      | in-Some+then-eq w ↦
          handed_on w.found-is c.in_ok-from.was
          (begins_hint w.in-Some.child c.args.self.apart c.args.self.trails w.in-Some.ensures (ap (same_name c.args.name.now) (sym w.label.ensures) ∙ sym w.if-eq.ensures))
      | in-Some-first+then-eq-2 w ↦
          handed_on w.found-is c.in_ok-from.was
          (begins_row w.in-Some-first.child w.loop-child.invariant w.in-Some-first.ensures (ap (same_name c.args.name.now) (sym w.label-in-Some-first.ensures) ∙ sym w.if-eq-2.ensures))
      | in_default-first w ↦ none_found w.found-is c.in_ok-from.was
    ] in
    hit (label c.in_ok-child.child) (tree c.in_ok-child.child) b c.in_ok-child.ensures.behind c.in_ok-child.ensures.split

pub invariant_of-result : goal.invariant_of-result
invariant_of-result c = record { apart = c.args.self.apart; trails = (found_hit (goal.at.invariant_of-result c).In_ok-child).trails }

pub returns : goal.returns
returns c = ((found_hit (goal.at.returns c).In_ok-child).is, refl)
