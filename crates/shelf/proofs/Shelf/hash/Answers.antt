use Rattle.std.proofs.Common.{[], Ok, sym, refl, ap, ◌∙◌}
use Rattle.trees.specs.Calls.{ask_hash, number}
use Rattle.trees.specs.Hash.{hash as tree_hash}
use Rattle.trees.specs.Deeds.{hash_slot}
use Rattle.trees.specs.State.{slot}
use Rattle.cells.proofs.Readings.{lies_read, lies_sound}
use Rattle.shelf.specs.Answers.{told}
use Rattle.shelf.proofs.Asks.{asked}
use Rattle.shelf.proofs.States.{held}
use Rattle.shelf.proofs.Outcomes.{tells}
use Rattle.shelf.proofs.Shelf.hash.Goals as goal

pub at-node-requires : goal.at-node-requires
at-node-requires g c =
    let z = c.in_ok-slot.ensures.full in
    let a = asked c.self.invariant c.in_ok-slot.slot.number _ c.in_ok-slot.slot.low z (c.start.ensures.is _ c.self.invariant.shows) in
    record { whole = (lies_read a.lies).whole; sane = lies_sound a.lies a.sound }

pub returns : goal.returns
returns g c =
    let m = g.R.LeafRule.means c.args.rule.now in
    let s = c.args.self.now in
    let h = held c.self.invariant c.self.view_is in
    let z = c.in_ok-slot.ensures.full in
    let a = asked h c.in_ok-slot.slot.number _ c.in_ok-slot.slot.low z (c.start.ensures.is s h.shows) in
    let w = c.in_ok-slot.ensures.tries s h in
    tells m (ask_hash c.args.slot) w.0 refl
    (ap (λ x. told number [] (Ok x)) (c.hash.ensures ∙ ap (tree_hash m) (c.at-node.ensures.tree ∙ (lies_read a.lies).tree) ∙ sym (ap (hash_slot m) (sym (ap (slot s.slots) w.1) ∙ a.is))))
