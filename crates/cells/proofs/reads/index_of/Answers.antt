use Rattle.std.proofs.Common.{sym, ap, ◌∙◌, arith}
use Rattle.trees.specs.Tree.{height}
use Rattle.cells.specs.Layout.{kids}
use Rattle.cells.proofs.Layouts.{lies_unique}
use Rattle.cells.proofs.reads.index_of.Goals as goal

pub under-requires : goal.under-requires
under-requires c = (kids c.requires.0, c.of.ensures c.requires.0 c.requires.1 c.requires.2)

pub returns-in_err-kid : goal.returns-in_err-kid
returns-in_err-kid c t a =
    let k = c.of.ensures t a (omega (arith, ap height (lies_unique a c.requires.1))) in
    c.from_residual.ensures ∙ sym (c.in_err-kid.ensures (kids t) k).placed

pub returns : goal.returns
returns c t a =
    let k = c.of.ensures t a (omega (arith, ap height (lies_unique a c.requires.1))) in
    sym (c.in_ok-kid.ensures (kids t) k).placed
