use Rattle.std.proofs.Common.{suc, ◌≤◌, Some, sym, ap, ◌∙◌, subst, add-zero, arith, rules}
use Rattle.names.specs.Names.{same_name}
use Rattle.trees.specs.Tree.{Tree}
use Rattle.cells.specs.Layout.{kids}
use Rattle.cells.proofs.Layouts.{lies_count, lies_unique, before_first}
use Rattle.patch.specs.Rows.{Under, Lacks}
use Rattle.patch.proofs.Places.{row_read, row_lies, row_behind, not_more, position_first, position_not, from_below}
use Rattle.patch.proofs.steps.Walk.under.Goals as goal

pub loop-row-init : goal.loop-row-init
loop-row-init c =
    let t = c.requires.0 in
    let a = c.requires.1 in
    (t, 0, a, c.requires.2, record { at_is = omega (arith, before_first (kids t)); count_is = add-zero _ ∙ lies_count _ a }, λ i h. absurd (omega arith))

pub offset_bounds-self-row : goal.offset_bounds-self-row
offset_bounds-self-row c = let h = (row_read c.loop-row.invariant.2 c.loop-row.invariant.4 (omega arith)).begins in search rules

pub bounds-self-row : goal.bounds-self-row
bounds-self-row c = (row_read c.loop-row.invariant.2 c.loop-row.invariant.4 (omega arith)).begins

pub without_first-row-requires-clause-first : goal.without_first-row-requires-clause-first
without_first-row-requires-clause-first c = let l = row_lies c.loop-row.invariant.2 c.loop-row.invariant.4 (omega arith) c.loop-row.invariant.3 in (l.0, l.1, l.2)

pub returns-then-eq : goal.returns-then-eq
returns-then-eq c t a =
    let i = c.loop-row.invariant in
    let r = row_read i.2 i.4 (omega arith) in
    subst (λ (x : Tree). Under c.args.target c.args.name.now (kids x) c.loop-row.row) (lies_unique i.2 a)
    (record {
      j = i.1;
      is = position_first 0 c.args.name.now (kids i.0) i.1 i.5 (from_below i.4 (omega arith)) (ap (same_name c.args.name.now) (sym (r.label _)) ∙ sym c.eq.ensures ∙ c.if-eq.true) ∙ ap Some (omega arith);
      begins = i.4;
    })

pub loop-row-preserved : goal.loop-row-preserved
loop-row-preserved c =
    let i = c.loop-row.invariant in
    let r = row_read i.2 i.4 (omega arith) in (
      i.0,
      suc i.1,
      i.2,
      i.3,
      row_behind i.2 i.4 (omega arith) c.without_first-row.result c.without_first-row.ensures.place c.without_first-row.ensures.fewer,
      not_more c.args.name.now (kids i.0) i.1 i.5 (ap (same_name c.args.name.now) (sym (r.label _)) ∙ sym c.eq.ensures ∙ c.if-eq.false),
    )

pub returns : goal.returns
returns c t a =
    let i = c.loop-row.invariant in
    let n = c.args.name.now in
    subst (λ (x : Tree). Lacks n (kids x) c.args.last) (lies_unique i.2 a)
    (λ j e.
    let few : i.1 ≤ j = position_not n (kids i.0) i.1 j i.5 e in
    omega (arith, few, i.4.count_is))
