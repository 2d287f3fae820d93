use Rattle.std.proofs.Common.{refl, arith, length-set}
use Rattle.std.proofs.lemmas.List.{take-set}
use Rattle.cells.proofs.Layouts.{length-encode}
use Rattle.shelf.proofs.Runs.{shows_free, renamed}
use Rattle.shelf.proofs.rack.Rack.rename.Goals as goal

pub returns : goal.returns
returns c =
    let xs = c.args.self.now.cells.now in
    let n = c.args.self.now.used in
    record {
      shows = λ s h. shows_free h (take-set xs n _) (length-set xs n _) refl refl refl refl refl;
      loose = λ l t o. record {
        rest = o.rest;
        is = renamed c.args.label xs n l t o.rest _ c.requires.room o.is;
        fits = omega (arith, o.fits, length-encode l t, length-encode c.args.label t);
      };
      still = record { used = refl; room = refl; sizes = refl };
    }
