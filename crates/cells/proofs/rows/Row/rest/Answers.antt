use Rattle.std.proofs.Common.{sym, ap, ◌∙◌, ◌+◌, subst, arith}
use Rattle.trees.specs.Tree.{size}
use Rattle.cells.specs.Layout.{LieAll}
use Rattle.cells.proofs.Layouts.{next, lie_first, lie_rest}
use Rattle.cells.proofs.Readings.{lies_read, lies_stand_at}
use Rattle.cells.proofs.rows.Row.rest.Goals as goal

pub end_of-requires : goal.end_of-requires
end_of-requires c =
    let m = next c.requires.kept.1.lies (omega (arith, c.requires.kept.1.counted)) in
    lies_stand_at _ m.here (omega (arith, c.requires.kept.1.high))

pub returns : goal.returns
returns c =
    record {
      counts = omega arith;
      keeps = λ n t f a.
          let e = c.end_of.ensures ∙ ap (λ v. c.args.self.at + size v) (lies_read (lie_first a.lies)).tree in
          record {
            lies = subst (λ k. LieAll c.args.cells.now k f) (sym e) (lie_rest a.lies);
            counted = omega (arith, a.counted);
            high = omega (arith, a.high);
          };
    }
