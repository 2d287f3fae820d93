use Rattle.std.proofs.Common.{ℕ, List, sym, ap, ◌∙◌}
use Rattle.trees.specs.Calls as calls
use Rattle.script.specs.Calls.{asked}
use Rattle.runs.proofs.Acted.{acted, told_reply, stopped_reply}
use Rattle.runs.proofs.acts.act.Goals as goal

pub returns-in-Node : goal.returns-in-Node
returns-in-Node g c =
    acted (ap asked c.in-Node.is) (c.node.ensures (g.R.LeafRule.means c.args.rule.now)) (told_reply (λ x. calls.nothing) c.node.result c.reply-in-Node.result c.reply-in-Node.ensures)

pub returns-in-Insert : goal.returns-in-Insert
returns-in-Insert g c =
    acted (ap asked c.in-Insert.is ∙ ap (λ (p : List ℕ). calls.insert c.in-Insert.place.slot p c.in-Insert.second c.in-Insert.name.now) (sym c.as_slice.ensures.value)) (c.insert.ensures (g.R.LeafRule.means c.args.rule.now)) (told_reply (λ x. calls.nothing) c.insert.result c.reply-in-Insert.result c.reply-in-Insert.ensures)

pub returns-in-Push : goal.returns-in-Push
returns-in-Push g c =
    acted (ap asked c.in-Push.is ∙ ap (λ (p : List ℕ). calls.push c.in-Push.place.slot p c.in-Push.second) (sym c.as_slice-in-Push.ensures.value)) (c.push.ensures (g.R.LeafRule.means c.args.rule.now)) (told_reply (λ x. calls.nothing) c.push.result c.reply-in-Push.result c.reply-in-Push.ensures)

pub returns-in-PutAt : goal.returns-in-PutAt
returns-in-PutAt g c =
    acted (ap asked c.in-PutAt.is ∙ ap (λ (p : List ℕ). calls.put_at c.in-PutAt.place.slot p c.in-PutAt.second c.in-PutAt.index) (sym c.as_slice-in-PutAt.ensures.value)) (c.put_at.ensures (g.R.LeafRule.means c.args.rule.now)) (told_reply (λ x. calls.nothing) c.put_at.result c.reply-in-PutAt.result c.reply-in-PutAt.ensures)

pub returns-in-RemoveAt : goal.returns-in-RemoveAt
returns-in-RemoveAt g c =
    acted (ap asked c.in-RemoveAt.is ∙ ap (λ (p : List ℕ). calls.remove_at c.in-RemoveAt.place.slot p c.in-RemoveAt.second c.in-RemoveAt.index) (sym c.as_slice-in-RemoveAt.ensures.value)) (c.remove_at.ensures (g.R.LeafRule.means c.args.rule.now)) (told_reply (λ x. calls.nothing) c.remove_at.result c.reply-in-RemoveAt.result c.reply-in-RemoveAt.ensures)

pub returns-in-SetVariant : goal.returns-in-SetVariant
returns-in-SetVariant g c =
    acted (ap asked c.in-SetVariant.is ∙ ap (λ (p : List ℕ). calls.set_variant c.in-SetVariant.place.slot p c.in-SetVariant.code c.in-SetVariant.name.now c.in-SetVariant.index) (sym c.as_slice-in-SetVariant.ensures.value)) (c.set_variant.ensures (g.R.LeafRule.means c.args.rule.now)) (told_reply (λ x. calls.nothing) c.set_variant.result c.reply-in-SetVariant.result c.reply-in-SetVariant.ensures)

pub returns-in-Copy : goal.returns-in-Copy
returns-in-Copy g c =
    acted (ap asked c.in-Copy.is) (c.copy.ensures (g.R.LeafRule.means c.args.rule.now)) (told_reply (λ x. calls.nothing) c.copy.result c.reply-in-Copy.result c.reply-in-Copy.ensures)

pub returns-in-DropTree : goal.returns-in-DropTree
returns-in-DropTree g c =
    acted (ap asked c.in-DropTree.is) (c.drop_tree.ensures (g.R.LeafRule.means c.args.rule.now)) (told_reply (λ x. calls.nothing) c.drop_tree.result c.reply-in-DropTree.result c.reply-in-DropTree.ensures)

pub returns-in-Apply : goal.returns-in-Apply
returns-in-Apply g c =
    acted (ap asked c.in-Apply.is) (c.apply.ensures.does (g.R.LeafRule.means c.args.rule.now)) (stopped_reply c.apply.result c.map_err.result c.reply-in-Apply.result _ c.apply.ensures.short c.map_err.ensures.cases c.reply-in-Apply.ensures)

pub returns-in-ApplyWhole : goal.returns-in-ApplyWhole
returns-in-ApplyWhole g c =
    acted (ap asked c.in-ApplyWhole.is) (c.apply_whole.ensures.does (g.R.LeafRule.means c.args.rule.now)) (stopped_reply c.apply_whole.result c.map_err-in-ApplyWhole.result c.reply-in-ApplyWhole.result _ c.apply_whole.ensures.short c.map_err-in-ApplyWhole.ensures.cases c.reply-in-ApplyWhole.ensures)

pub returns-in-IndexOf : goal.returns-in-IndexOf
returns-in-IndexOf g c =
    acted (ap asked c.in-IndexOf.is ∙ ap (λ (p : List ℕ). calls.index_of c.in-IndexOf.place.slot p c.in-IndexOf.name.now) (sym c.as_slice-in-IndexOf.ensures.value)) (c.index_of.ensures (g.R.LeafRule.means c.args.rule.now)) (told_reply calls.number c.index_of.result c.reply-in-IndexOf.result c.reply-in-IndexOf.ensures)
