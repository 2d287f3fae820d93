use Rattle.std.proofs.Common.{take, refl, ap, ◌∙◌, arith, length-take-le, take_at}
use Rattle.cells.proofs.Layouts.{lies}
use Rattle.cells.proofs.Readings.{lies_stand_at}
use Rattle.shelf.proofs.Runs.{shows_free}
use Rattle.shelf.proofs.rack.Rack.free.Goals as goal

pub release-requires : goal.release-requires
release-requires c =
    let p = c.requires in
    lies_stand_at 16 (lies p.0 p.2.rest p.2.is) p.3

pub returns : goal.returns
returns c s h =
    let p = c.requires in
    let xs = c.args.self.now.cells.now in
    let n = c.args.self.now.used in
    shows_free h (ap (take n) c.release.ensures.blank ∙ take_at (take n xs) _ n (length-take-le n xs (omega arith)))
    c.release.auto.cells refl refl refl refl refl
