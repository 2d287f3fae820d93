use Rattle.std.proofs.Common.{◌≡◌, true, false, sym, ap, ◌∙◌, arith}
use Rattle.trees.specs.Tree.{count}
use Rattle.trees.specs.Place.{position_from}
use Rattle.names.specs.Names.{same_name}
use Rattle.cells.specs.Reading.{behind}
use Rattle.cells.specs.Views.{tree, label, forest}
use Rattle.cells.proofs.Layouts.{none_left}
use Rattle.cells.proofs.Searches.{position_here, position_past}
use Rattle.cells.proofs.Viewed.{first_and_rest}
use Rattle.cells.proofs.views.Node.index_of.Goals as goal

pub loop-i-init : goal.loop-i-init
loop-i-init c = (ap (position_from 0 c.args.name.now) c.children-row.ensures.forest, omega (arith, c.len-i-end.ensures))

pub returns-then-eq : goal.returns-then-eq
returns-then-eq c =
    let n = c.args.name.now in
    let k = c.in_ok-child.child in
    let q : same_name n (label k) ≡ true = ap (same_name n) (sym c.label.ensures) ∙ sym c.if-eq.ensures in
    sym (position_here n (label k) (tree k) (behind 1 (forest c.loop-i.row)) (forest c.loop-i.row) c.in_ok-child.ensures.split c.loop-i.i q) ∙ c.loop-i.invariant.0

pub loop-i-preserved : goal.loop-i-preserved
loop-i-preserved c =
    let n = c.args.name.now in
    let k = c.in_ok-child.child in
    let q : same_name n (label k) ≡ false = ap (same_name n) (sym c.label.ensures) ∙ sym c.if-eq.ensures in
    let e = first_and_rest c.loop-i.row c.rest-row.result k c.in_ok-child.ensures c.rest-row.ensures.forest in (
      sym (position_past n (label k) (tree k) (forest c.rest-row.result) (forest c.loop-i.row) e c.loop-i.i q) ∙ c.loop-i.invariant.0,
      omega (arith, c.loop-i.invariant.1, ap count e),
    )

pub returns : goal.returns
returns c = ap (position_from c.loop-i.i c.args.name.now) (sym (none_left (forest c.loop-i.row) (omega (arith, c.loop-i.invariant.1)))) ∙ c.loop-i.invariant.0
