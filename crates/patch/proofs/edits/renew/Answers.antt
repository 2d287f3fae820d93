use Rattle.std.proofs.Common.{◌≡◌, ◌+◌, ◌-◌, ◌<◌, ◌≤◌, length, refl, ◌∙◌, ap₂, arith}
use Rattle.std.proofs.lemmas.Result.{err_from_is_err_and}
use Rattle.patch.specs.declared.errors.ApplyError.TheVariants.{Room}
use Rattle.patch.proofs.Copies.{site_length, site_target, renewed}
use Rattle.patch.proofs.edits.renew.Goals as goal
use Rattle.patch.proofs.edits.renew.Goals.{Start}

size_is : (c : Start) → let s = c.requires in (c.args.run.end - c.args.run.start ≡ length s.copied) × (length c.args.cells.now ≡ c.args.used + length s.free) × (c.args.old.end ≡ c.args.old.start + length s.there) × (c.args.used ≡ c.args.old.end + length s.behind) × (c.args.run.end ≤ c.args.target) × (c.args.target < c.args.old.start) × (c.args.target < length c.args.cells.now)
size_is c = let s = c.requires.parts in (omega (arith, s.run_end), site_length s, s.end_is, s.used_is, s.front, omega (arith, s.at_is), site_target s)

pub returns-in_err-fit : goal.returns-in_err-fit
returns-in_err-fit c =
    let w = err_from_is_err_and c.from_residual.result c.from_residual.ensures.1 in
    let n = c.in_err-fit.ensures in
    rw (w.1, w.2) (λ s.
    let sz : c.args.run.end - c.args.run.start ≡ length s.copied = omega (arith, s.parts.run_end) in
    let fr : length c.args.cells.now - c.args.used ≡ length s.free = omega (arith, site_length s.parts) in
    record { is = n.1 ∙ ap₂ Room sz fr; wants = omega (arith, n.0); same = refl })

pub copy_run-requires : goal.copy_run-requires
copy_run-requires c = let z = size_is (goal.at.copy_run-requires c).Start in let h = c.in_ok-fit.ensures in (omega (arith, z.2, z.3, z.4, z.5), omega (arith, z.1))

pub exchange-requires : goal.exchange-requires
exchange-requires c = let z = size_is (goal.at.exchange-requires c).Start in let h = c.in_ok-fit.ensures in (omega (arith, z.2, z.3), omega arith, omega (arith, z.1, c.copy_run.auto.cells))

pub exchange-requires-2 : goal.exchange-requires-2
exchange-requires-2 c = let z = size_is (goal.at.exchange-requires-2 c).Start in let h = c.in_ok-fit.ensures in (omega (arith, z.2), omega (arith, z.3), omega (arith, z.1, c.copy_run.auto.cells, c.exchange.auto.cells))

pub returns : goal.returns
returns c s =
    renewed s.parts (c.args.run.end - c.args.run.start) (omega (arith, s.parts.run_end)) (omega (arith, c.in_ok-fit.ensures, site_length s.parts)) _ _ _ c.copy_run.ensures c.exchange.ensures c.exchange-2.ensures c.args.cell
