-- A code for each state, by which the prover tells states apart, as the value of a model must have:
-- a forest in prefix form, each empty one with a mark.
use Rattle.std.specs.Prelude.{◌≡◌, ℕ, if◌then◌else◌, List, [], ◌∷◌, ◌++◌, Some, None, Option, ◌==◌, refl}
use Rattle.std.specs.Coded.{Coded, code_by, coded×, coded⊎, coded_ℕ, coded_list, coded_option}
use Rattle.std.proofs.Common.{ap, ◌∙◌, sym, append_assoc}
use Rattle.std.proofs.lemmas.List.{append-nil}
use mathlib.Core.Logic.{◌⊎◌, inl, inr}
use Rattle.trees.specs.declared.codes.VariantType.{VariantType}
use Rattle.trees.specs.declared.codes.VariantType.TheVariants.{Unit as unit, Tuple as tuple_like, Struct as struct_like}
use Rattle.trees.specs.Codes.{variant_number}
use Rattle.trees.specs.Name.{Name}
use Rattle.trees.specs.declared.head.Head.{Head}
use Rattle.trees.specs.declared.head.Head.TheVariants.{Leaf as leaf, Struct as struct, Tuple as tuple, List as list, Enum as enum}
use Rattle.trees.specs.Tree.{Tree, node, Forest, empty, more}
use Rattle.trees.specs.State.{Slots, State}

-- a leaf as tag and value, a node that is no enum as a number, an enum as variant type, name and index
abbrev PlainHead : Type 0
PlainHead = (ℕ × ℕ) ⊎ (ℕ ⊎ (ℕ × (Name × ℕ)))

abbrev head_to : Head → PlainHead
head_to (leaf p) = inl (p.tag, p.value)
head_to struct = inr (inl 1)
head_to tuple = inr (inl 2)
head_to list = inr (inl 3)
head_to (enum v name index) = inr (inr (variant_number v, (name, index)))

abbrev variant_from : ℕ → VariantType
variant_from n = if n == 0 then unit else if n == 1 then tuple_like else struct_like

abbrev head_from : PlainHead → Head
head_from (inl p) = leaf (record { tag = p.0; value = p.1 })
head_from (inr (inl n)) = if n == 1 then struct else if n == 2 then tuple else list
head_from (inr (inr e)) = enum (variant_from e.0) e.1.0 e.1.1

pub head_from-head_to : (h : Head) → head_from (head_to h) ≡ h
head_from-head_to (leaf p) = refl
head_from-head_to struct = refl
head_from-head_to tuple = refl
head_from-head_to list = refl
head_from-head_to (enum unit name index) = refl
head_from-head_to (enum tuple_like name index) = refl
head_from-head_to (enum struct_like name index) = refl

abbrev name_code : Coded Name
name_code = coded_list coded_ℕ

abbrev pub head_code : Coded Head
head_code =
    code_by PlainHead (coded⊎ (coded× coded_ℕ coded_ℕ) (coded⊎ coded_ℕ (coded× coded_ℕ (coded× name_code coded_ℕ)))) head_to head_from head_from-head_to

-- a child with its name, or the end of a forest
abbrev Token : Type 0
Token = Option (Name × Head)

abbrev tokens : Forest → List Token
tokens empty = None ∷ []
tokens (more l (node h f) g) = Some (l, h) ∷ (tokens f ++ tokens g)

abbrev joined : Name × Head → List Forest → List Forest
joined (l, h) (f ∷ g ∷ fs) = more l (node h f) g ∷ fs
joined (l, h) (f ∷ []) = []
joined (l, h) [] = []

-- the forests that tokens spell, one after the other
abbrev read_all : List Token → List Forest
read_all [] = []
read_all (None ∷ ts) = empty ∷ read_all ts
read_all (Some x ∷ ts) = joined x (read_all ts)

read_all-tokens : (f : Forest) (ts : List Token) → read_all (tokens f ++ ts) ≡ f ∷ read_all ts
read_all-tokens empty ts = refl
read_all-tokens (more l (node h f) g) ts =
    ap (λ us. joined (l, h) (read_all us)) (append_assoc (tokens f) (tokens g) ts)
    ∙ ap (joined (l, h)) (read_all-tokens f (tokens g ++ ts) ∙ ap (λ fs. f ∷ fs) (read_all-tokens g ts))

abbrev first_of : List Forest → Forest
first_of [] = empty
first_of (f ∷ fs) = f

abbrev from_tokens : List Token → Forest
from_tokens ts = first_of (read_all ts)

pub from_tokens-tokens : (f : Forest) → from_tokens (tokens f) ≡ f
from_tokens-tokens f = ap (λ ts. first_of (read_all ts)) (sym (append-nil (tokens f))) ∙ ap first_of (read_all-tokens f [])

abbrev pub forest_code : Coded Forest
forest_code = code_by (List Token) (coded_list (coded_option (coded× name_code head_code))) tokens from_tokens from_tokens-tokens

abbrev tree_to : Tree → Head × Forest
tree_to (node h f) = (h, f)

abbrev tree_from : Head × Forest → Tree
tree_from (h, f) = node h f

pub tree_from-tree_to : (t : Tree) → tree_from (tree_to t) ≡ t
tree_from-tree_to (node h f) = refl

abbrev pub tree_code : Coded Tree
tree_code = code_by (Head × Forest) (coded× head_code forest_code) tree_to tree_from tree_from-tree_to

abbrev slots_code : Coded Slots
slots_code = coded_list (coded_option tree_code)

abbrev pub state_code : Coded State
state_code =
    code_by (ℕ × (Slots × Option Slots)) (coded× coded_ℕ (coded× slots_code (coded_option slots_code))) (λ s. (s.capacity, (s.slots, s.saved)))
    (λ p. record { capacity = p.0; slots = p.1.0; saved = p.1.1 }) (λ _. refl)
