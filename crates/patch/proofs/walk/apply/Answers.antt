use Rattle.std.proofs.Common.{length, reverse, sym, ap, arith, rules}
use Rattle.trees.specs.Apply.{apply}
use Rattle.patch.specs.Walk.{Task}
use Rattle.patch.proofs.Outcomes.{begun, over_leaves, ended_leaves, leaves_in}
use Rattle.patch.proofs.walk.apply.Goals as goal
use Rattle.patch.proofs.walk.apply.Goals.{in-Ok, in-Err}

pub run-requires : goal.run-requires
run-requires c =
    let p = c.requires.trees in
    (record { base = p.0; name = p.1; outcome = _ }, begun _ _ c.args.target c.args.patch c.args.used p.0 p.1 p.2 p.3 p.4 (ap reverse c.new.ensures) p.5)

pub write_path-requires : goal.write_path-requires
write_path-requires c =
    let p = c.requires.trees in
    omega (arith, (c.in-Err.ensures.comes (record { base = p.0; name = p.1; outcome = _ }) (begun _ _ c.args.target c.args.patch c.args.used p.0 p.1 p.2 p.3 p.4 (ap reverse c.new.ensures) p.5)).deep, c.requires.lent)

pub returns : goal.returns
returns c base l t p rest b =
    let k : Task = record { base = base; name = l; outcome = apply t p (length rest) } in
    let m = begun _ _ c.args.target c.args.patch c.args.used base l t p rest (ap reverse c.new.ensures) b in
    let same = sym c.run.ensures.lent in
    leaves_in {others = c.run.new.self.cells.now} (search rules)
    (elim c.match-run.branch [
      | in-Ok w ↦ rw (w.outcome-is, w.row-is) (let o = w.in-Ok.ensures.comes k m in over_leaves base l _ _ _ _ c.args.row.now o.empty o.ends o.goes)
      | in-Err w ↦ rw (w.outcome-is, w.row-is) (ended_leaves base l _ _ _ w.in-Err.error _ c.args.row.now w.write_path.new.row w.write_path.result (w.in-Err.ensures.comes k m) w.write_path.ensures.counts w.write_path.ensures.writes)
    ])
