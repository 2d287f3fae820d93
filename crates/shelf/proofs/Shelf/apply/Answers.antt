use Rattle.std.proofs.Common.{Err, sym, refl, ap, ◌∙◌, subst}
use Rattle.std.proofs.lemmas.Result.{err_from_is_err_and}
use Rattle.rules.specs.Meaning.{Meaning}
use Rattle.trees.specs.Calls.{lay}
use Rattle.shelf.specs.Stops.{stopping, IsShort}
use Rattle.shelf.proofs.States.{any_rule, holds, held}
use Rattle.shelf.proofs.Outcomes.{Accepted, leaves, accepts}
use Rattle.shelf.proofs.Stopped.{stop_result, Laid, laid_by, lays_shows, lays_answer, lays_short}
use Rattle.shelf.proofs.Shelf.apply.Goals as goal
use Rattle.shelf.proofs.Shelf.apply.Goals.{After-lay}

-- the walk on the trees of the two slots
walked : (c : After-lay) → Laid c.args.self.now c.args.self.now c.args.target c.args.second c.args.row.now c.lay.new.row c.lay.result c.lay.new.self
walked c =
    let s = c.args.self.now in
    let h = held c.self.invariant c.self.view_is in
    let w = c.in_ok-target.ensures.tries s h in
    laid_by h refl refl w.1 c.in_ok-target.ensures.ready (c.lay.ensures s h)

done : (c : After-lay) (m : Meaning) → Accepted m c.args.self.now (lay c.args.target c.args.second c.args.row.now) c.lay.new.self
done c m =
    let s = c.args.self.now in
    let h = held c.self.invariant c.self.view_is in
    record { passed = (c.in_ok-target.ensures.tries s h).0; sound = h.sound; shows = lays_shows m h (walked c) }

pub invariant_of-self-inside : goal.invariant_of-self-inside
invariant_of-self-inside c = (∣ (_, leaves (done c any_rule)) ∣₁, tt)

pub invariant_of-self : goal.invariant_of-self
invariant_of-self c = holds _

pub invariant_of-self-2 : goal.invariant_of-self-2
invariant_of-self-2 c = holds _

pub returns-in_err-lay : goal.returns-in_err-lay
returns-in_err-lay c =
    let a = (goal.at.returns-in_err-lay c).After-lay in
    let h = held c.self.invariant c.self.view_is in
    let q = err_from_is_err_and c.from_residual-in_err-lay.result c.from_residual-in_err-lay.ensures.1 in
    let e = q.1 ∙ ap Err q.2 ∙ sym (ap stop_result c.in_err-lay.was) in
    record {
      does = λ m. accepts (done a m) (ap (λ x. stopping x c.lay.new.row) e ∙ lays_answer h (walked a) m) _;
      short = subst IsShort (sym e) (lays_short h (walked a));
    }

pub returns : goal.returns
returns c =
    let a = (goal.at.returns c).After-lay in
    let h = held c.self.invariant c.self.view_is in
    record {
      does = λ m. accepts (done a m) (ap (λ x. stopping (stop_result x) c.lay.new.row) (sym c.in_ok-lay.was) ∙ lays_answer h (walked a) m) _;
      short = tt;
    }
