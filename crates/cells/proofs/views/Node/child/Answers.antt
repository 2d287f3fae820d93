use Rattle.std.proofs.Common.{ap, ◌∙◌}
use Rattle.trees.specs.Tree.{at}
use Rattle.cells.proofs.Viewed.{child_if_some}
use Rattle.cells.proofs.views.Node.child.Goals as goal

pub returns : goal.returns
returns c =
    let k = c.children.ensures in
    record { child = c.at.ensures.child ∙ ap (at c.args.i) k.forest; place = child_if_some c.args.self c.children.result c.args.i _ k.forest k.place c.at.ensures.place }
