use Rattle.walks.proofs.Scans.{Sought}
use Rattle.walks.proofs.seeking.seek.Given as goal

-- no child before the rest has the name
abbrev pub invariant-loop-rest : goal.invariant-loop-rest
invariant-loop-rest l = Sought l.cells l.initial.rest l.rest l.name

abbrev pub decreases-loop-rest : goal.decreases-loop-rest
decreases-loop-rest l = l.rest.count
