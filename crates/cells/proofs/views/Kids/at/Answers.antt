use Rattle.std.proofs.Common.{◌≡◌, ◌+◌, ◌-◌, sym, ap, ◌∙◌, subst, arith}
use Rattle.std.specs.Prelude.{option_map, IfSome}
use Rattle.trees.specs.Tree.{at}
use Rattle.cells.specs.Views.{tree, forest, IsAmong}
use Rattle.cells.proofs.Layouts.{at_past}
use Rattle.cells.proofs.Readings.{counted}
use Rattle.cells.proofs.Viewed.{rows, first_whole, Reaches, reaches_all, reaches_on, some_left, reached_child, reached_name, past_behind}
use Rattle.cells.proofs.views.Kids.at.Goals as goal

pub returns-then-i-self : goal.returns-then-i-self
returns-then-i-self c =
    let n = counted c.args.self.count _ c.args.self.whole in
    record { child = sym (at_past (forest c.args.self) c.args.i (omega arith)); place = tt }

pub loop-init : goal.loop-init
loop-init c = reaches_all c.args.self

pub returns-in_err-rest : goal.returns-in_err-rest
returns-in_err-rest c =
    let n = c.loop.counter in
    let z : n + (c.args.i - n) ≡ c.args.i = omega arith in
    let p = past_behind n (c.args.i - n) (forest c.args.self) (sym c.loop.invariant.rows ∙ c.in_err-rest.ensures.split) in
    record {
      child = ap (option_map tree) c.from_residual.ensures ∙ sym p ∙ ap (λ k. at k (forest c.args.self)) z;
      place = subst (λ o. IfSome o (IsAmong c.args.self c.args.i)) (sym c.from_residual.ensures) tt;
    }

pub loop-preserved : goal.loop-preserved
loop-preserved c = reaches_on c.args.self c.loop.row c.loop.counter _ c.loop.invariant c.in_ok-rest.ensures.split c.in_ok-rest.ensures.cut

pub invariant_of-result : goal.invariant_of-result
invariant_of-result c =
    let row = c.loop.row in
    let r = first_whole _ _ (some_left c.args.self row c.loop.counter c.loop.invariant (omega arith)) (rows row) in
    record { whole = r.whole; sane = r.sane }

pub returns : goal.returns
returns c =
    let row = c.loop.row in
    let z : c.loop.counter ≡ c.args.i = omega arith in
    let r = subst (λ k. Reaches c.args.self k row) z c.loop.invariant in
    record {
      child = sym (reached_child c.args.self row c.args.i r (omega arith));
      place = record { name = reached_name c.args.self row c.args.i r (omega arith); place = r.place };
    }
