use Rattle.std.proofs.Common.{◌≡◌, ℕ, [], Ok, sym, refl, ap, ◌∙◌, ap₂}
use Rattle.trees.specs.Calls.{ask_compare, order}
use Rattle.trees.specs.Compare.{compare as compare_trees}
use Rattle.trees.specs.Deeds.{compare_slots}
use Rattle.trees.specs.State.{slot}
use Rattle.cells.proofs.Readings.{lies_read, lies_sound}
use Rattle.shelf.specs.Answers.{told}
use Rattle.shelf.proofs.Asks.{asked}
use Rattle.shelf.proofs.States.{held}
use Rattle.shelf.proofs.Outcomes.{tells}
use Rattle.shelf.proofs.Shelf.compare.Goals as goal

pub at-a-requires : goal.at-a-requires
at-a-requires g c =
    let z = c.in_ok-first.ensures.full in
    let a = asked c.self.invariant c.in_ok-first.first.number _ c.in_ok-first.first.low z.0 (c.start.ensures.is _ c.self.invariant.shows) in
    record { whole = (lies_read a.lies).whole; sane = lies_sound a.lies a.sound }

pub at-b-requires : goal.at-b-requires
at-b-requires g c =
    let z = c.in_ok-first.ensures.full in
    let a = asked c.self.invariant c.in_ok-first.second.number _ c.in_ok-first.second.low z.1 (c.start-2.ensures.is _ c.self.invariant.shows) in
    record { whole = (lies_read a.lies).whole; sane = lies_sound a.lies a.sound }

pub returns : goal.returns
returns g c =
    let m = g.R.LeafRule.means c.args.rule.now in
    let s = c.args.self.now in
    let h = held c.self.invariant c.self.view_is in
    let z = c.in_ok-first.ensures.full in
    let a = asked h c.in_ok-first.first.number _ c.in_ok-first.first.low z.0 (c.start.ensures.is s h.shows) in
    let b = asked h c.in_ok-first.second.number _ c.in_ok-first.second.low z.1 (c.start-2.ensures.is s h.shows) in
    let w = c.in_ok-first.ensures.tries s h in
    let at : (n k : ℕ) → n ≡ k → slot s.slots k ≡ slot s.slots n = λ n k e. sym (ap (slot s.slots) e) in
    tells m (ask_compare c.args.first c.args.second) w.0 refl
    (ap (λ x. told order [] (Ok x)) (c.compare.ensures ∙ ap₂ (compare_trees m) (c.at-a.ensures.tree ∙ (lies_read a.lies).tree) (c.at-b.ensures.tree ∙ (lies_read b.lies).tree) ∙ sym (ap₂ (compare_slots m) (at _ _ w.1.first ∙ a.is) (at _ _ w.1.second ∙ b.is))))
