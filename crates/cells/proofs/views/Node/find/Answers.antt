use Rattle.std.proofs.Common.{◌≡◌, ◌+◌, get_or, drop, Some, None, sym, ap, ◌∙◌, subst, arith}
use Rattle.std.specs.Prelude.{option_map, IfSome}
use Rattle.std.proofs.lemmas.List.{at_drop_more}
use Rattle.trees.specs.Tree.{at}
use Rattle.trees.specs.Place.{find}
use Rattle.cells.specs.Layout.{kids}
use Rattle.cells.specs.Views.{tree, IsChildOf, IsFoundBy}
use Rattle.cells.proofs.Paths.{find_past}
use Rattle.cells.proofs.Viewed.{leads_none, leads_on, leads_end}
use Rattle.cells.proofs.views.Node.find.Goals as goal

pub loop-step-init : goal.loop-step-init
loop-step-init c = leads_none c.args.self c.args.path.now

pub returns-in_err-node : goal.returns-in_err-node
returns-in_err-node c =
    let u = tree c.loop-step.node in
    let p = c.args.path.now in
    let n = c.loop-step.step-index in
    let a : at (get_or p n 0) (kids u) ≡ None = ap (λ k. at k (kids u)) (sym c.from.ensures) ∙ sym c.in_err-node.ensures.child in
    record {
      node =
          ap (option_map tree) c.from_residual.ensures ∙ sym (find_past (get_or p n 0) (drop (n + 1) p) u a)
          ∙ sym (at_drop_more (find (Some u)) p n 0 c.loop-step-test.true) ∙ c.loop-step.invariant.on;
      place = subst (λ o. IfSome o (IsFoundBy c.args.self p)) (sym c.from_residual.ensures) tt;
    }

pub loop-step-preserved : goal.loop-step-preserved
loop-step-preserved c =
    let u = tree c.loop-step.node in
    let v = c.in_ok-node.node in
    let i = get_or c.args.path.now c.loop-step.step-index 0 in
    let a : at i (kids u) ≡ Some (tree v) = ap (λ k. at k (kids u)) (sym c.from.ensures) ∙ sym c.in_ok-node.ensures.child in
    leads_on c.args.self c.args.path.now c.loop-step.step-index c.loop-step.node v c.loop-step-test.true a (subst (λ k. IsChildOf c.loop-step.node k v) c.from.ensures c.in_ok-node.ensures.place) c.loop-step.invariant

pub returns : goal.returns
returns c =
    let e = leads_end c.args.self c.args.path.now c.loop-step.step-index c.loop-step.node (omega arith) c.loop-step.invariant in
    record { node = e.0; place = e.1 }
