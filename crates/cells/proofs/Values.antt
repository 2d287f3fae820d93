-- Names that are tested for being the same.
use Rattle.std.proofs.Common.{◌≡◌, ℕ, List, Decides, rules}
use Rattle.std.proofs.lemmas.Slice.Eq.{compares_Decides}
use Rattle.names.specs.Names.{same_name}

-- names are the same exactly where they are equal
pub same_decides : (a b : List ℕ) → Decides (same_name a b) (a ≡ b)
same_decides a b = compares_Decides same_name (search rules) a b
