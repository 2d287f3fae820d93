-- The words that answers of rules are printed as.
use Rattle.std.specs.Prelude.{ℕ, Bool, true, false, List, Some, None, Option, codes}
use Rattle.std.specs.declared.cmp.Ordering.TheVariants.{Less, Equal, Greater}
use Rattle.std.specs.declared.cmp.Ordering.{Ordering}

-- true, false or none
abbrev pub truth_word : Option Bool → List ℕ
truth_word None = codes "none"
truth_word (Some true) = codes "true"
truth_word (Some false) = codes "false"

-- less, equal, greater or none
abbrev pub order_word : Option Ordering → List ℕ
order_word None = codes "none"
order_word (Some Less) = codes "less"
order_word (Some Equal) = codes "equal"
order_word (Some Greater) = codes "greater"
