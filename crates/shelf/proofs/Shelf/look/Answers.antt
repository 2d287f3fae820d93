use Rattle.std.proofs.Common.{None, sym, ap, ◌∙◌}
use Rattle.trees.specs.Calls.{look, Outcome}
use Rattle.trees.specs.Tests.{node_at}
use Rattle.trees.proofs.Slots.{looked_same}
use Rattle.shelf.proofs.Shown.{looks_at}
use Rattle.shelf.proofs.States.{held}
use Rattle.shelf.proofs.Outcomes.{tells}
use Rattle.shelf.proofs.Shelf.look.Goals as goal

pub returns : goal.returns
returns c m =
    let s = c.args.self.now in
    let h = held c.self.invariant c.self.view_is in
    let i = c.args.slot in
    let p = c.args.path.now in
    let r = c.args.row.now in
    let w = c.in_ok-node.ensures.stands s h in
    tells m (look i p r) (c.in_ok-name_row.ensures.0.0, w.0) (sym (looked_same s (node_at s i p) r))
    ((λ k. record { refusal = None; from = 0; to = 0; steps = 0; value = c.look_of.ensures k; row = c.show_variant-name_len.ensures.front k })
    ∙ ap (λ (o : Outcome). o.answer) (sym (looks_at h w.1 r)))
