-- The release compare: the laws hold under the release rule.
use Rattle.std.proofs.Common.{ℕ}
use Rattle.rules.specs.Meaning.{IsLawful}
use Rattle.rules.specs.Kinds.{addresses}
use Rattle.rules.specs.RuleLaws.{addresses_lawful}
use Rattle.rules.specs.StampLaws.{stamped_lawful}
use Rattle.trees.specs.Tree.{Tree, IsSound}
use Rattle.trees.proofs.Order.{order_agrees}
use Rattle.trees.proofs.Hashes.{equal_hashes}
use Rattle.trees.proofs.Applies.{apply_settles}
use Rattle.columns.specs.Releases.{release_rule, ReleaseLaws}

-- the laws under the release rule
pub release_laws : (stamp : ℕ) (a b : Tree) → IsSound a → IsSound b → ReleaseLaws stamp a b
release_laws stamp a b x y =
    let l : IsLawful (release_rule stamp) = stamped_lawful stamp addresses addresses_lawful in
    record {
      ordered = order_agrees (release_rule stamp) l a b x y;
      same_hash = equal_hashes (release_rule stamp) l a b x y;
      settles = apply_settles a b x y;
    }
