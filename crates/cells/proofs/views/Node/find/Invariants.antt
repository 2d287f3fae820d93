use Rattle.cells.proofs.Viewed.{Leads}
use Rattle.cells.proofs.views.Node.find.Given as goal

-- the rest of the path leads on from the node
abbrev pub invariant-loop-step : goal.invariant-loop-step
invariant-loop-step l = Leads l.self l.path l.step-index l.node
