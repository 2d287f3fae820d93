use Rattle.std.proofs.Common.{[], ◌∷◌, refl, ap, ◌∙◌, subst, inl}
use Rattle.std.proofs.lemmas.Result.{err_from_is_err_and}
use Rattle.rules.specs.Meaning.{Meaning}
use Rattle.trees.specs.declared.codes.Refusal.TheVariants.{MarkOpen}
use Rattle.trees.specs.Calls.{lay_whole}
use Rattle.trees.specs.Tests.{◌by◌, is_none, is_some, Passed}
use Rattle.trees.specs.State.{State}
use Rattle.trees.specs.Deeds.{mark_set, mark_kept, rolled_back}
use Rattle.shelf.specs.Holds.{Holds}
use Rattle.shelf.specs.Patching.{laying}
use Rattle.shelf.specs.Stops.{IsShort}
use Rattle.trees.specs.Tests.{tests}
use Rattle.shelf.proofs.States.{any_rule, holds, held, seen}
use Rattle.shelf.proofs.Outcomes.{refuses, later, both}
use Rattle.shelf.proofs.Stopped.{stop_result, Laid, laid_by, holds_laid, lays_short, lays_kept, lays_undone}
use Rattle.shelf.proofs.Wholes.{marked, unmarked, ended, ready_still}
use Rattle.shelf.proofs.Shelf.apply_whole.Goals as goal
use Rattle.shelf.proofs.Shelf.apply_whole.Goals.{After-lay}

pub returns-in_err-mark : goal.returns-in_err-mark
returns-in_err-mark c =
    let s = c.args.self.now in
    let h = held c.self.invariant c.self.view_is in
    let q = err_from_is_err_and c.from_residual-in_err-mark.result c.from_residual-in_err-mark.ensures.1 in
    let u = unmarked any_rule s _ (c.in_err-mark.ensures any_rule) in
    rw (q.1, q.2, u.1, u.2)
    (record {
      short = tt;
      does = λ m. refuses m (lay_whole c.args.target c.args.second c.args.row.now) MarkOpen
          (later (laying s c.args.target c.args.second c.args.row.now) (is_some s.saved by MarkOpen ∷ []) MarkOpen (c.in_ok-target.ensures.tries s h).0 (inl (u.0, refl))) refl;
    })

pub lay-requires-clause-ready : goal.lay-requires-clause-ready
lay-requires-clause-ready c =
    let k = held c.self-2.invariant (c.self-2.view_is ∙ (marked any_rule _ (c.in_ok-mark.ensures any_rule) refl).1) in
    ready_still (c.in_ok-target.target, c.in_ok-target.second) (held c.self.invariant c.self.view_is).shows k.shows c.in_ok-target.ensures.ready

-- the mark is open during the walk
opened : (c : After-lay) → Holds c.self-2.inside.rack (mark_set c.args.self.now)
opened c = held c.self-2.invariant (c.self-2.view_is ∙ (marked any_rule _ (c.in_ok-mark.ensures any_rule) refl).1)

walked : (c : After-lay) → Laid c.args.self.now (mark_set c.args.self.now) c.args.target c.args.second c.args.row.now c.lay.new.row c.lay.result c.lay.new.self
walked c =
    let s = c.args.self.now in
    let h = held c.self.invariant c.self.view_is in
    laid_by h refl refl (c.in_ok-target.ensures.tries s h).1 c.in_ok-target.ensures.ready (c.lay.ensures _ (opened c))

passed : (c : After-lay) (m : Meaning) → Passed (tests m c.args.self.now (lay_whole c.args.target c.args.second c.args.row.now))
passed c m =
    let s = c.args.self.now in
    let h = held c.self.invariant c.self.view_is in
    let n = (marked any_rule s (c.in_ok-mark.ensures any_rule) refl).0 in
    both (laying s c.args.target c.args.second c.args.row.now) (is_some s.saved by MarkOpen ∷ []) (c.in_ok-target.ensures.tries s h).0 (ap is_some n, tt)

pub invariant_of-self-inside : goal.invariant_of-self-inside
invariant_of-self-inside c = (∣ (_, holds_laid (held c.self.invariant c.self.view_is) (walked c) (opened c) refl) ∣₁, tt)

pub invariant_of-self : goal.invariant_of-self
invariant_of-self c = holds _

pub invariant_of-self-in-Err : goal.invariant_of-self-in-Err
invariant_of-self-in-Err c = holds _

-- it is still open after it: keeping it and rolling back to it are not refused
pub unwrap-requires : goal.unwrap-requires
unwrap-requires c =
    let a = (goal.at.unwrap-requires c).After-lay in
    let o = seen _ (holds_laid (held c.self.invariant c.self.view_is) (walked a) (opened a) refl) in
    (ended any_rule _ (c.keep.ensures any_rule) refl refl (ap (λ (s : State). is_none s.saved) o)).0

pub unwrap-requires-in-Err : goal.unwrap-requires-in-Err
unwrap-requires-in-Err c =
    let a = (goal.at.unwrap-requires-in-Err c).After-lay in
    let o = seen _ (holds_laid (held c.self.invariant c.self.view_is) (walked a) (opened a) refl) in
    (ended any_rule _ (c.roll_back.ensures any_rule) refl refl (ap (λ (s : State). is_none s.saved) o)).0

pub returns-in-Ok : goal.returns-in-Ok
returns-in-Ok c =
    let a = (goal.at.returns-in-Ok c).After-lay in
    let h = held c.self.invariant c.self.view_is in
    let d = walked a in
    let n = (marked any_rule _ (c.in_ok-mark.ensures any_rule) refl).0 in
    let o = seen _ (holds_laid h d (opened a) refl) in
    let e = ended any_rule _ (c.keep.ensures any_rule) refl refl (ap (λ (s : State). is_none s.saved) o) in
    record { does = λ m. lays_kept h d m (passed a m) n c.in-Ok.is (e.1 ∙ ap mark_kept o); short = tt }

pub returns-in-Err : goal.returns-in-Err
returns-in-Err c =
    let a = (goal.at.returns-in-Err c).After-lay in
    let h = held c.self.invariant c.self.view_is in
    let d = walked a in
    let n = (marked any_rule _ (c.in_ok-mark.ensures any_rule) refl).0 in
    let o = seen _ (holds_laid h d (opened a) refl) in
    let e = ended any_rule _ (c.roll_back.ensures any_rule) refl refl (ap (λ (s : State). is_none s.saved) o) in
    record { does = λ m. lays_undone h d m (passed a m) n c.in-Err.is (e.1 ∙ ap rolled_back o); short = subst IsShort (ap stop_result c.in-Err.is) (lays_short h d) }
