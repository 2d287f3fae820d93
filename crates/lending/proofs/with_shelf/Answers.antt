use Rattle.std.proofs.Common.{◌≡◌, Ok, Err, Result, IfOk, refl, ap₂, ◌∙◌, rules, length}
use Rattle.std.specs.Fn.{FnOnceReturnsAtMut}
use Rattle.trees.specs.State.{State, opening}
use Rattle.lending.proofs.with_shelf.Goals as goal

-- what holds of a result holds of what an accepted one gives
given : {T E : Type 0} (r : Result T E) (P : Result T E → Type 0) → P r → IfOk r (λ x. P (Ok x))
given (Ok x) P p = p
given (Err e) P p = tt

pub returns : goal.returns
returns g c =
    let n = c.args.cells in
    let lent : length c.as_mut_slice.result.now ≡ n = search rules in
    let saved : length c.as_mut_slice-2.result.now ≡ n = search rules in
    given c.step.result (λ r. (last : State) × FnOnceReturnsAtMut g.F.FnOnce c.args.step (opening n n) r last)
    (_, record { shown = _; shows = c.open-shelf.ensures ∙ ap₂ opening lent saved; left = _; met = c.step.ensures; leaves = refl })
