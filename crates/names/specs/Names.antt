-- Names by their bytes, and how they lie in 32 places.
use Rattle.std.specs.Prelude.{◌≡◌, ℕ, ◌-◌, Bool, true, if◌then◌else◌, ◌&&◌, List, [], ◌∷◌, ◌++◌, length, replicate, Some, None, Option, ◌==◌, nat_eq, nat_le}
use Rattle.std.specs.List.{list_all}
use Rattle.std.specs.Cmp.Lexicographic.{pointwise}

-- two names have the same bytes
abbrev pub same_name : List ℕ → List ℕ → Bool
same_name = pointwise nat_eq

-- every byte is from 33 to 126
abbrev pub printable : List ℕ → Bool
printable = list_all (λ b. nat_le 33 b && nat_le b 126)

-- a good name has 1 to 32 bytes, each from 33 to 126
abbrev pub good_name : List ℕ → Bool
good_name name = nat_le 1 (length name) && nat_le (length name) 32 && printable name

-- a name's bytes, filled up with zeros to 32 places
abbrev pub padded : List ℕ → List ℕ
padded name = name ++ replicate (32 - length name) 0

-- good bytes, and none for others
abbrev pub named : List ℕ → Option (List ℕ)
named name = if good_name name then Some name else None

-- what stands before the first zero
abbrev pub before_zero : List ℕ → List ℕ
before_zero [] = []
before_zero (x ∷ xs) = if x == 0 then [] else x ∷ before_zero xs

-- a good name, or the empty one
abbrev pub tidy_name : List ℕ → Bool
tidy_name [] = true
tidy_name (x ∷ xs) = good_name (x ∷ xs)

-- the 32 places hold a text and zeros behind it: a good name, or the empty one
abbrev pub HoldsText : List ℕ → Type 0
HoldsText bytes =
    (bytes ≡ padded (before_zero bytes)) × (length bytes ≡ 32)
    × (tidy_name (before_zero bytes) ≡ true)
