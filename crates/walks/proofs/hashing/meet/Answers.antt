use Rattle.walks.proofs.HashWalks.{met_leaf, met_list, met_enum}
use Rattle.walks.proofs.hashing.meet.Goals as goal

pub returns-in-Leaf : goal.returns-in-Leaf
returns-in-Leaf g c = met_leaf (g.R.LeafRule.means c.args.rule.now) c.args.cell.now c.in-Leaf.p _ c.in-Leaf.is c.hash.ensures

pub returns-in-List : goal.returns-in-List
returns-in-List g c = met_list (g.R.LeafRule.means c.args.rule.now) c.args.cell.now _ c.in-List.is c.list_begun.ensures

pub returns-in-Enum : goal.returns-in-Enum
returns-in-Enum g c = met_enum (g.R.LeafRule.means c.args.rule.now) c.args.cell.now _ _ _ _ c.in-Enum.is c.enum_begun.ensures
