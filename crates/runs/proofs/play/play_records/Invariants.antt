use Rattle.std.proofs.Common.{◌≡◌, ◌*◌, ◌++◌, drop, length}
use Rattle.trees.specs.Play.{play, answers}
use Rattle.script.specs.Scripts.{said}
use Rattle.runs.proofs.Playing.{first}
use Rattle.runs.proofs.play.play_records.Given as goal

abbrev pub invariant-loop-i : goal.invariant-loop-i
invariant-loop-i g l =
    let m = g.R.LeafRule.means l.rule in
    let s = l.initial.shelf in
    let n = length l.yielded in
    record {
      next : (goal.iterator-loop-i g).can_next l.i-iterator;
      finite : (goal.iterator-loop-i g).is_finite l.i-iterator;
      trees : l.shelf ≡ play m s (first l.script n);
      bytes : l.answers ≡ said (answers m s (first l.script n)) ++ drop (16 * n) l.initial.answers;
    }
