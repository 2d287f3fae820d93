use Rattle.std.proofs.Common.{◌≡◌, ℕ, ◌+◌, ◌-◌, ◌*◌, List, ◌++◌, length, drop, sym, ap, ◌∙◌, ap₂, arith, rules}
use borrow.Rule.Slice.PartMut.{put_mid}
use Rattle.std.proofs.lemmas.List.{length_push}
use Rattle.trees.specs.Play.{step, play, answers}
use Rattle.script.specs.Records.{record_of, call_of}
use Rattle.script.specs.Answers.{reply_of, reply_bytes}
use Rattle.script.specs.Scripts.{said, record_at}
use Rattle.script.proofs.Pieces.{turn, over, length_piece}
use Rattle.runs.proofs.Playing.{first, trees_more, bytes_more, bytes_length, first_all, put_next, length_reply}
use Rattle.runs.proofs.play.play_records.Goals as goal

pub play_record-reply-requires : goal.play_record-reply-requires
play_record-reply-requires g c =
    let t = turn c.args.script.now c.into_iter-i-iterator.ensures.into_iter_gives c.enumerate-i-items.ensures.source c.enumerate-i-items.ensures.count c.chunks_exact.ensures.rest c.chunks_exact.ensures.size _ _ c.loop-i.yielded c.loop-i.yielded_by _ _ _ c.in-Some.is c.next.ensures.steps in
    ap (λ (b : List ℕ). length b) t.2 ∙ length_piece c.args.script.now (length c.loop-i.yielded) t.0

pub loop-i-preserved : goal.loop-i-preserved
loop-i-preserved g c =
    let m = g.R.LeafRule.means c.args.rule.now in
    let s = c.args.shelf.now in
    let script = c.args.script.now in
    let n = length c.loop-i.yielded in
    let t = turn script c.into_iter-i-iterator.ensures.into_iter_gives c.enumerate-i-items.ensures.source c.enumerate-i-items.ensures.count c.chunks_exact.ensures.rest c.chunks_exact.ensures.size _ _ c.loop-i.yielded c.loop-i.yielded_by _ _ _ c.in-Some.is c.next.ensures.steps in
    let called = ap (λ (b : List ℕ). call_of (record_of b)) t.2 in
    let more = length_push c.loop-i.yielded (c.in-Some.i, c.in-Some.bytes) in
    let before = play m s (first script n) in
    let call = call_of (record_at script n) in
    let state = c.play_record-reply.ensures.state ∙ ap₂ (λ u k. (step m u k).state) c.loop-i.invariant.trees called in
    let reply = c.play_record-reply.ensures.replied ∙ ap₂ (λ u k. reply_of (step m u k).answer) c.loop-i.invariant.trees called in
    let bytes : c.copy_from_slice.new.self ≡ reply_bytes (reply_of (step m before call).answer) =
    c.copy_from_slice.ensures.after ∙ c.bytes.ensures ∙ ap reply_bytes reply in
    let lt = t.0 in
    record {
      next = search rules;
      finite = search rules;
      trees = state ∙ sym (trees_more m s script n lt) ∙ ap (λ (j : ℕ). play m s (first script j)) (sym more);
      bytes =
          ap (λ (i : ℕ). put_mid (16 * i) (16 * i + 16 - 16 * i) c.loop-i.answers c.copy_from_slice.new.self) t.1
          ∙ ap₂ (λ (a b : List ℕ). put_mid (16 * n) (16 * n + 16 - 16 * n) a b) c.loop-i.invariant.bytes bytes
          ∙ put_next (said (answers m s (first script n))) _ c.args.answers.now n (bytes_length m s script n (omega (arith, lt))) (length_reply (reply_of (step m before call).answer))
          ∙ ap (λ l. l ++ drop (16 * (n + 1)) c.args.answers.now) (sym (bytes_more m s script n lt))
          ∙ ap (λ (j : ℕ). said (answers m s (first script j)) ++ drop (16 * j) c.args.answers.now) (sym more);
    }

pub returns : goal.returns
returns g c =
    let m = g.R.LeafRule.means c.args.rule.now in
    let s = c.args.shelf.now in
    let script = c.args.script.now in
    let n = length c.loop-i.yielded in
    let e = over script c.into_iter-i-iterator.ensures.into_iter_gives c.enumerate-i-items.ensures.source c.enumerate-i-items.ensures.count c.chunks_exact.ensures.rest c.chunks_exact.ensures.size _ _ c.loop-i.yielded c.loop-i.yielded_by _ c.in-None.is c.next.ensures.steps in
    let all = first_all m s script n (omega (arith, e)) in
    record {
      trees = c.loop-i.invariant.trees ∙ ap (play m s) all;
      bytes = c.loop-i.invariant.bytes ∙ ap₂ (λ cs k. said (answers m s cs) ++ drop (16 * k) c.args.answers.now) all e;
    }
