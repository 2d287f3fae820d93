use Rattle.std.proofs.Common.{◌-◌, drop, length, reverse, sym, ap, arith, length-drop}
use Rattle.std.proofs.lemmas.List.{take_all}
use Rattle.trees.specs.Hash.{hash}
use Rattle.walks.proofs.Stacks.{pushed}
use Rattle.walks.proofs.HashWalks.{answered_root, begun, no_hash, fed, opened}
use Rattle.walks.proofs.hashing.hash.Goals as goal

pub returns-in-Answered : goal.returns-in-Answered
unfolding hash
returns-in-Answered g c = let n = c.args.node in sym (answered_root (g.R.LeafRule.means c.args.rule.now) n.cells.now c.index-node-0.result c.in-Answered.answer n.whole n.sane c.in-Answered.ensures)

pub loop-frame-init : goal.loop-frame-init
unfolding hash
loop-frame-init g c =
    let n = c.args.node in
    let cs = n.cells.now in
    begun (g.R.LeafRule.means c.args.rule.now) cs _ c.index-node-0.result c.in-Opened.frame _ n.whole n.sane c.in-Opened.ensures (take_all (length cs - 1) (drop 1 cs) (omega (arith, length-drop 1 cs))) (ap reverse c.new-open.ensures)

pub returns-in-Answered-None : goal.returns-in-Answered-None
returns-in-Answered-None g c =
    let l = c.loop-frame in
    let r = c.in-Answered-None in
    sym (no_hash (g.R.LeafRule.means c.args.rule.now) _ l.frame (reverse l.open.items) (l.frame.left - 1) c.in_ok-cell.cell.now c.in_ok-cell.rest.now l.cells.now l.invariant c.in_ok-cell.ensures.cases.0 (omega arith) r.field-0 r.ensures r.field-0-is)

pub loop-frame-preserved-in-Answered-Some : goal.loop-frame-preserved-in-Answered-Some
loop-frame-preserved-in-Answered-Some g c =
    let l = c.loop-frame in
    let r = c.in-Answered-Some in
    fed (g.R.LeafRule.means c.args.rule.now) _ l.frame (reverse l.open.items) (l.frame.left - 1) c.in_ok-cell.cell.now c.in_ok-cell.rest.now l.cells.now l.invariant c.in_ok-cell.ensures.cases.0 (omega arith) r.field-0 r.h _ r.ensures r.field-0-is c.fed_number-in-Answered-Some.ensures

pub loop-frame-preserved : goal.loop-frame-preserved
loop-frame-preserved g c =
    let l = c.loop-frame in
    opened (g.R.LeafRule.means c.args.rule.now) _ l.frame (reverse l.open.items) (l.frame.left - 1) c.in_ok-cell.cell.now c.in_ok-cell.rest.now l.cells.now l.invariant c.in_ok-cell.ensures.cases.0 (omega arith) c.in-Opened-meet.inner _ c.in-Opened-meet.ensures (pushed _ _ _ c.push.ensures.items)
