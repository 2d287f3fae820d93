use Rattle.std.proofs.Common.{◌≡◌, ◌+◌, length, take, drop, refl, ap, ◌∙◌, append_assoc, arith, length-drop, length-take-le, take_at, drop_at}
use Rattle.shelf.proofs.Runs.{shows_free}
use Rattle.shelf.proofs.rack.Rack.append.Goals as goal

pub returns : goal.returns
returns c =
    let xs = c.args.self.now.cells.now in
    let n = c.args.self.now.used in
    let ys = take c.args.size (drop c.args.at xs) in
    let k : length (take n xs) ≡ n = length-take-le n xs (omega arith) in
    let w = c.copy_run.ensures ∙ append_assoc (take n xs) ys (drop (n + c.args.size) xs) in
    let l : length ys ≡ c.args.size = length-take-le c.args.size (drop c.args.at xs) (omega (arith, length-drop c.args.at xs)) in
    record {
      shows = λ s h. shows_free h (ap (take n) w ∙ take_at (take n xs) _ n k) c.copy_run.auto.cells refl refl refl refl refl;
      loose = record { rest = drop (n + c.args.size) xs; is = ap (drop n) w ∙ drop_at (take n xs) _ n k; fits = omega arith };
      still = record { used = refl; room = refl; sizes = refl };
    }
