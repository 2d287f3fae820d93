use Rattle.std.proofs.Common.{MatchOption, subst, sym, ◌∙◌, arith, rules}
use Rattle.trees.specs.Name.{Name}
use Rattle.patch.specs.Rows.{Under, Lacks}
use Rattle.cells.specs.Layout.{kids}
use Rattle.cells.proofs.Layouts.{lies_label}
use Rattle.patch.proofs.Places.{named_partner, row_read, row_named}
use Rattle.patch.proofs.steps.Walk.partner.Goals as goal

pub offset_bounds-self-row : goal.offset_bounds-self-row
offset_bounds-self-row c = let h = (row_read c.requires.2.target c.requires.2.row (omega arith)).begins in search rules

pub bounds-self-row : goal.bounds-self-row
bounds-self-row c = (row_read c.requires.2.target c.requires.2.row (omega arith)).begins

pub returns-then-eq : goal.returns-then-eq
returns-then-eq c t u k = row_named k (omega arith) c.in-ByName.is _ _ (lies_label _ k.patch) ((row_read k.target k.row (omega arith)).label _) (sym c.eq.ensures ∙ c.if-eq.true)

pub returns-after-row-gt0 : goal.returns-after-row-gt0
returns-after-row-gt0 c t u k = named_partner c.args.frame k.patch.label (kids t) c.in-ByName.is c.under.result (subst (λ (n : Name). MatchOption c.under.result (Lacks n (kids t) 0) (Under c.args.frame.target n (kids t))) (lies_label _ k.patch) (c.under.ensures t k.target))
