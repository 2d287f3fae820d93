use Rattle.std.proofs.Common.{arith}
use Rattle.patch.proofs.Ends.{first, trees_behind, none_to}
use Rattle.patch.proofs.steps.Walk.end_of_row.Goals as goal

pub loop-rest-init : goal.loop-rest-init
loop-rest-init c end e = e

pub without_first-rest-requires-clause-first : goal.without_first-rest-requires-clause-first
without_first-rest-requires-clause-first c =
    let f = first _ _ _ _ (c.loop-rest.invariant c.requires.0 c.requires.1) (omega arith) in
    (f.tree, f.here, f.high)

pub loop-rest-preserved : goal.loop-rest-preserved
loop-rest-preserved c end e = trees_behind _ c.loop-rest.rest _ end (c.loop-rest.invariant end e) (omega arith) c.without_first-rest.ensures.place c.without_first-rest.ensures.fewer

pub returns : goal.returns
returns c end e = none_to _ _ _ _ (c.loop-rest.invariant end e) (omega arith)
