use Rattle.std.proofs.Common.{sym, subst}
use Rattle.cells.specs.declared.rows.Row.{Row}
use Rattle.walks.specs.Seeking.{There}
use Rattle.walks.proofs.Scans.{both_ways, hint_here, sought_all, sought_here, sought_on, sought_none}
use Rattle.walks.proofs.seeking.seek.Goals as goal
use Rattle.walks.proofs.seeking.seek.Goals.{then-search+then-eq, else-search+then-loop-rest-test+then-eq-2, else-search+else-loop-rest-test}

pub loop-rest-init : goal.loop-rest-init
loop-rest-init c = sought_all _ c.requires.2

pub loop-rest-preserved : goal.loop-rest-preserved
loop-rest-preserved c =
    sought_on c.args.cells.now c.args.row c.loop-rest.rest c.args.name.now c.loop-rest.invariant c.loop-rest-test.true c.label-in-loop-rest.result c.label-in-loop-rest.ensures
    (sym c.if-eq-2.ensures) c.rest-rest.result c.rest-rest.ensures.keeps

pub returns-then-found : goal.returns-then-found
returns-then-found c f h kf kh b d =
    elim c.if-search.branch [
      | then-search+then-eq w ↦ subst (λ (row : Row). There c.args.cells.now c.args.name.now f row) (sym w.rest-is) (hint_here w.label.ensures w.if-search.true c.args.name.now (sym w.if-eq.ensures) f h kh b d)
      | else-search+then-loop-rest-test+then-eq-2 w ↦
          subst (λ (row : Row). There c.args.cells.now c.args.name.now f row) (sym w.rest-is)
          (sought_here c.args.cells.now c.args.row w.loop-rest.rest c.args.name.now w.loop-rest.invariant w.loop-rest-test.true w.label-in-loop-rest.result w.label-in-loop-rest.ensures
          (sym w.if-eq-2.ensures) f kf)
      | else-search+else-loop-rest-test w ↦ both_ways c.if-search.found c.if-found.true w.found-is
    ]

pub returns-else-found : goal.returns-else-found
returns-else-found c f h kf kh b d =
    elim c.if-search.branch [
      | then-search+then-eq w ↦ both_ways c.if-search.found w.found-is c.if-found.false
      | else-search+then-loop-rest-test+then-eq-2 w ↦ both_ways c.if-search.found w.found-is c.if-found.false
      | else-search+else-loop-rest-test w ↦ sought_none c.args.cells.now c.args.row w.loop-rest.rest c.args.name.now w.loop-rest.invariant w.loop-rest-test.false f kf
    ]
