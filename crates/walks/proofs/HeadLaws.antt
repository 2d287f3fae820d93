-- Heads of nodes: which are leaves, and which have names that stand once.
use Rattle.std.proofs.Common.{◌≡◌, ℕ, Bool, true, false, ◌&&◌, ◌||◌, eqb, List, sym, refl, ap, ◌∙◌, arith}
use Rattle.std.proofs.lemmas.Bool.{and_parts, eqb-true}
use Rattle.names.specs.Names.{same_name, good_name}
use Rattle.rules.specs.declared.leaf.Leaf.{Leaf}
use Rattle.trees.specs.declared.codes.VariantType.TheVariants.{Unit as unit, Tuple as tuple_like, Struct as struct_like}
use Rattle.trees.specs.Name.{Name, distinct, all_good}
use Rattle.trees.specs.declared.head.Head.{Head}
use Rattle.trees.specs.declared.head.Head.TheVariants.{Leaf as leaf, Struct as struct, Tuple as tuple, List as list, Enum as enum}
use Rattle.trees.specs.Tree.{Tree, node, Forest, code, variant_name, named, labels, each, fits, sound}
use Rattle.trees.specs.Equal.{alike}
use Rattle.cells.specs.Layout.{root, kids}
use Rattle.trees.specs.declared.head.Head.{Head as HeadValue}
use Rattle.trees.specs.declared.head.Head.TheVariants as value

abbrev pub is_leaf : Head → Bool
is_leaf (leaf p) = true
is_leaf struct = false
is_leaf tuple = false
is_leaf list = false
is_leaf (enum v name index) = false

pub not_leaf : (v : HeadValue) (h : Head) → ((p : Leaf) → v ≡ value.Leaf p → ⊥) → v ≡ h → is_leaf h ≡ false
not_leaf (value.Leaf p) h n e = absurd (n p refl)
not_leaf value.Struct h n e = ap is_leaf (sym e)
not_leaf value.Tuple h n e = ap is_leaf (sym e)
not_leaf value.List h n e = ap is_leaf (sym e)
not_leaf (value.Enum v m i) h n e = ap is_leaf (sym e)

pub no_leaf : {A : Type 0} → true ≡ false → A
no_leaf e = absurd (let z : ◌≡◌ {A = ℕ} 0 1 = cc in omega arith)

-- the labels of a sound tree fit its head
pub sound_fits : (t : Tree) → sound 16 t ≡ true → fits (root t) (labels (kids t)) ≡ true
sound_fits (node h f) s = (and_parts (fits h (labels f)) (each (sound 15) f) s).0

-- no name stands twice among named fields
pub named_apart : (h : Head) (ls : List Name) → fits h ls ≡ true → named h ≡ true → distinct ls ≡ true
named_apart (leaf p) ls e n = no_leaf (sym n)
named_apart struct ls e n = (and_parts (all_good ls) (distinct ls) e).1
named_apart tuple ls e n = no_leaf (sym n)
named_apart list ls e n = no_leaf (sym n)
named_apart (enum unit name index) ls e n = no_leaf (sym n)
named_apart (enum tuple_like name index) ls e n = no_leaf (sym n)
named_apart (enum struct_like name index) ls e n = (and_parts (all_good ls) (distinct ls) (and_parts (good_name name) (all_good ls && distinct ls) e).1).1

-- which heads have named fields is told by the code, so alike ones agree
named_code : (h : Head) → named h ≡ (eqb (code h) 1 || eqb (code h) 6)
named_code (leaf p) = refl
named_code struct = refl
named_code tuple = refl
named_code list = refl
named_code (enum unit name index) = refl
named_code (enum tuple_like name index) = refl
named_code (enum struct_like name index) = refl

pub alike_named : (h k : Head) → alike h k ≡ true → named h ≡ named k
alike_named h k e =
    let c = eqb-true (code h) (code k) (and_parts (eqb (code h) (code k)) (same_name (variant_name h) (variant_name k)) e).0 in
    named_code h ∙ ap (λ (n : ℕ). eqb n 1 || eqb n 6) c ∙ sym (named_code k)

-- the labels of the children, where a view of them is at hand
pub children_apart : (h : Head) (t : Tree) (f : Forest) → sound 16 t ≡ true → h ≡ root t → f ≡ kids t → named h ≡ true → distinct (labels f) ≡ true
children_apart h t f s e k n =
    ap (λ x. distinct (labels x)) k ∙ named_apart (root t) (labels (kids t)) (sound_fits t s) (ap named (sym e) ∙ n)
