use mathlib.Core.Logic.{inl, inr}
use Rattle.patch.proofs.steps.Walk.row_by_name.Goals as goal

pub returns-in-Some : goal.returns-in-Some
returns-in-Some c t p = inr (c.in-Some.ensures t p.target)

pub returns : goal.returns
returns c t p = inl (c.row_behind.ensures t (record { j = p.j; row = p.row; here = p.here; target = p.target; high = p.high; ends = c.behind_cells-rest.ensures.ends _ p.ends }))
