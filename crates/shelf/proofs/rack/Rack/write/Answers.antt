use Rattle.std.proofs.Common.{◌+◌, drop, refl, arith, length-set}
use Rattle.std.proofs.lemmas.List.{drop-set, take-set}
use Rattle.shelf.proofs.Runs.{shows_free}
use Rattle.shelf.proofs.rack.Rack.write.Goals as goal

pub returns : goal.returns
returns c =
    let xs = c.args.self.now.cells.now in
    let n = c.args.self.now.used in
    let x = c.args.cell in
    record {
      shows = λ s h. shows_free h (take-set xs n x) (length-set xs n x) refl refl refl refl refl;
      loose = record { rest = drop (n + 1) xs; is = drop-set xs n x (omega arith); fits = omega arith };
      still = record { used = refl; room = refl; sizes = refl };
    }
