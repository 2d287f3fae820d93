use Rattle.cells.proofs.Viewed.{Reaches}
use Rattle.cells.proofs.views.Kids.at.Given as goal

-- the row is what is left behind as many
abbrev pub invariant-loop : goal.invariant-loop
invariant-loop l = Reaches l.self l.counter l.row
