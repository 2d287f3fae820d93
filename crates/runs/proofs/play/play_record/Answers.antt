use Rattle.std.proofs.Common.{ap, ◌∙◌, subst}
use Rattle.script.specs.Records.{call_of}
use Rattle.script.specs.Answers.{fields_of}
use Rattle.runs.specs.Replies.{Replies}
use Rattle.runs.proofs.play.play_record.Goals as goal

pub returns : goal.returns
returns g c =
    let m = g.R.LeafRule.means c.args.rule.now in
    subst (λ k. Replies m k c.args.shelf.now c.act.new.shelf (fields_of c.act.result)) c.read.ensures c.act.ensures
