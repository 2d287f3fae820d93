use Rattle.std.proofs.Common.{sym, ap, ◌∙◌, ap₂, arith}
use Rattle.std.proofs.lemmas.Bool.{not-false}
use Rattle.names.specs.Names.{same_name}
use Rattle.trees.specs.Tree.{count}
use Rattle.cells.specs.Views.{tree, label}
use Rattle.cells.proofs.Viewed.{first_and_rest}
use Rattle.walks.proofs.CompareWalks.{order_step}
use Rattle.walks.proofs.ordering.partners_of.Goals as goal

pub loop-a-preserved : goal.loop-a-preserved
loop-a-preserved c =
    let a = c.in-Some.a in
    let b = c.in-Some-first.b in
    order_step _ _ _ _ (label a) (label b) (tree a) (tree b) (first_and_rest c.loop-a.x c.rest-x.result a c.in-Some.ensures c.rest-x.ensures.forest) (first_and_rest c.loop-a.y c.rest-y.result b c.in-Some-first.ensures c.rest-y.ensures.forest)
    (ap₂ same_name (sym c.label.ensures) (sym c.label-in-loop-a.ensures) ∙ not-false _ (sym c.ne.ensures ∙ c.if-ne.false)) ∙ c.loop-a.invariant

pub loop-a-smaller : goal.loop-a-smaller
loop-a-smaller c = omega (arith, ap count (first_and_rest c.loop-a.x c.rest-x.result c.in-Some.a c.in-Some.ensures c.rest-x.ensures.forest))
