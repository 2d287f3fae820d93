use Rattle.std.proofs.Common.{◌+◌, ◌-◌, ◌<◌, length, get_or, refl, arith, rules}
use Rattle.patch.proofs.Ends.{first, trees_opened, trees_few, trees_within}
use Rattle.patch.proofs.steps.Walk.behind_cells.Goals as goal

pub loop-init : goal.loop-init
loop-init c = record { ends = λ end e. e; place = omega arith }

pub returns-then-rest-eq0-clause-ends : goal.returns-then-rest-eq0-clause-ends
returns-then-rest-eq0-clause-ends c end e = c.loop.invariant.ends end e

pub returns-then-rest-eq0-clause-most : goal.returns-then-rest-eq0-clause-most
returns-then-rest-eq0-clause-most c = omega (arith, c.loop.invariant.place)

pub overflow_add-rest : goal.overflow_add-rest
overflow_add-rest c = let h = (first _ _ _ _ (c.loop.invariant.ends c.requires.0 c.requires.1) (omega arith)).here.begins in search rules

pub offset_bounds-self-rest : goal.offset_bounds-self-rest
offset_bounds-self-rest c = let h = (first _ _ _ _ (c.loop.invariant.ends c.requires.0 c.requires.1) (omega arith)).here.begins in search rules

pub bounds-self-rest : goal.bounds-self-rest
bounds-self-rest c = (first _ _ _ _ (c.loop.invariant.ends c.requires.0 c.requires.1) (omega arith)).here.begins

pub overflow_add-rest-in-loop : goal.overflow_add-rest-in-loop
overflow_add-rest-in-loop c =
    let x = c.loop.rest in
    let cells = c.args.self.now.cells.now in
    let e = c.loop.invariant.ends c.requires.0 c.requires.1 in
    let t = trees_opened cells x.at x.count c.requires.0 _ c.index-self-rest.result e (omega arith) refl in
    let h = trees_few cells (x.at + 1) c.requires.0 _ t in
    let w = trees_within cells x.at c.requires.0 x.count e (omega arith) in
    let m : x.count - 1 + (get_or cells x.at c.index-self-rest.result).children < length cells = omega arith in
    search rules

pub loop-preserved : goal.loop-preserved
loop-preserved c = record {
  ends = λ end e. trees_opened c.args.self.now.cells.now c.loop.rest.at c.loop.rest.count end _ c.index-self-rest.result (c.loop.invariant.ends end e) (omega arith) refl;
  place = omega (arith, c.loop.invariant.place);
}

pub returns-clause-ends : goal.returns-clause-ends
returns-clause-ends c end e = c.loop.invariant.ends end e

pub returns-clause-most : goal.returns-clause-most
returns-clause-most c = omega (arith, c.loop.invariant.place)

pub returns-clause-all : goal.returns-clause-all
returns-clause-all c h = omega (arith, c.loop.invariant.place)
