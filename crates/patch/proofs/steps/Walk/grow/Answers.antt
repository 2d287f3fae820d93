use Rattle.std.proofs.Common.{◌+◌, refl, ap, ◌∙◌, arith}
use Rattle.std.proofs.lemmas.List.{length-reverse}
use Rattle.std.proofs.lemmas.Result.{err_from_is_err_and}
use Rattle.trees.specs.Tree.{Tree, size}
use Rattle.cells.proofs.Layouts.{lies_unique}
use Rattle.patch.proofs.Spots.{spot_target}
use Rattle.patch.proofs.Nexts.{child_placed, stack_room, child_spot, child_comes, goes_copied, copy_stops, node_end}
use Rattle.patch.proofs.Meetings.{laid_ends}
use Rattle.patch.proofs.Ways.{pushed}
use Rattle.patch.proofs.Ranks.{child_falls}
use Rattle.patch.proofs.steps.Walk.grow.Goals as goal

pub push-requires : goal.push-requires
push-requires c = (omega arith, omega (arith, stack_room _ _ c.args.frame _ _ _ _ c.requires.1.goes, length-reverse c.args.self.now.stack.items))

pub extend-requires-clause-placed : goal.extend-requires-clause-placed
extend-requires-clause-placed c = let g = c.requires.1 in (_, _, _, child_placed c.requires.0 c.args.self.now c.args.frame g.goes g.some)

pub extend-requires-clause-end : goal.extend-requires-clause-end
extend-requires-clause-end c t l =
    let k = c.requires.0 in
    let g = c.requires.1 in
    let n = g.alone _ _ (child_comes _ _ c.args.frame _ _ _ _ g.goes g.some) in
    node_end k.base k.name c.args.frame _ _ _ k.outcome g.goes g.some n g.extends
    ∙ ap (λ (x : Tree). c.args.frame.target + size x) (lies_unique (spot_target (child_spot k.base k.name c.args.frame _ _ _ k.outcome g.goes g.some)) l)

pub returns-in_err-self-clause-comes : goal.returns-in_err-self-clause-comes
returns-in_err-self-clause-comes c =
    let x = err_from_is_err_and c.from_residual.result c.from_residual.ensures.1 in
    rw (x.1, x.2, pushed _ _ _ c.push.ensures.items) (λ k g.
    let n = g.alone _ _ (child_comes _ _ c.args.frame _ _ _ _ g.goes g.some) in
    copy_stops k.base k.name c.args.frame _ _ _ k.outcome g.goes g.some n g.extends _ _ _ (c.in_err-self.ensures _ _ _ (child_placed k c.args.self.now c.args.frame g.goes g.some)))

pub returns-clause-comes : goal.returns-clause-comes
returns-clause-comes c k g =
    let n = g.alone _ _ (child_comes _ _ c.args.frame _ _ _ _ g.goes g.some) in
    rw c.ends.ensures
    (laid_ends k.base k.name _ _ _ _ k.outcome
    (rw (pushed _ _ _ c.push.ensures.items) (goes_copied k.base k.name c.args.frame _ _ _ k.outcome g.goes g.some n g.extends _ refl refl _ _ (c.in_ok-self.ensures _ _ _ (child_placed k c.args.self.now c.args.frame g.goes g.some)))))

pub returns-clause-falls : goal.returns-clause-falls
returns-clause-falls c = child_falls 65535 c.ends.result c.args.frame _ _ _ (pushed _ _ _ c.push.ensures.items) refl
