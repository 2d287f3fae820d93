-- The pairs that are left of two rows of children.
use Rattle.std.specs.Prelude.{◌≡◌, ℕ, ◌+◌, ◌*◌, ◌≤◌, max, Bool, true, false, List, [], ◌∷◌, drop, Some, None, Option, option_map, is_none, if◌then◌else◌, IfSome, MatchOption}
use Rattle.trees.specs.Name.{Name, distinct}
use Rattle.trees.specs.declared.head.Head.{Head}
use Rattle.trees.specs.Tree.{Tree, Forest, empty, more, labels, named, under, size, sizes, height, heights}
use Rattle.cells.specs.Reading.{behind}
use Rattle.cells.specs.Views.{tree, forest}
use Rattle.cells.specs.declared.views.Kids.{Kids}
use Rattle.cells.specs.declared.views.Node.{Node}
use Rattle.walks.specs.declared.pairs.Fields.{Fields}
use Rattle.walks.specs.declared.pairs.Partners.{Partners}
use Rattle.walks.specs.declared.pairs.Partners.TheVariants.{ByPlace, ByName}
use Rattle.walks.specs.declared.pairs.Pairs.{Pairs}
use Rattle.walks.specs.declared.pairs.Pair.{Pair}

-- the child is the one under the name, and the children stay
abbrev pub FoundIn : Fields → Name → Node × Fields → Type 0
FoundIn old name p = (under name (forest old.row) ≡ Some (tree p.0)) × (p.1.row ≡ old.row)

abbrev pub Finds : Fields → Name → Option (Node × Fields) → Type 0
Finds old name None = under name (forest old.row) ≡ None
Finds old name (Some p) = FoundIn old name p

-- named children have unlike names
abbrev pub HasFields : Head → Kids → Type 0
HasFields h row = named h ≡ true → distinct (labels (forest row)) ≡ true

-- each child with that of the same position, as long as there are two
abbrev pub by_place : Forest → Forest → List (Tree × Option Tree)
by_place empty g = []
by_place (more l t f) empty = []
by_place (more l t f) (more k u g) = (t, Some u) ∷ by_place f g

-- each child with that of the same name, if there is one
abbrev pub by_name : Forest → Forest → List (Tree × Option Tree)
by_name empty g = []
by_name (more l t f) g = (t, under l g) ∷ by_name f g

-- the rows that are left
abbrev pub partners : Partners → Forest
partners (ByPlace row) = forest row
partners (ByName fields) = forest fields.row

abbrev pub pairs_with : Forest → Partners → List (Tree × Option Tree)
pairs_with f (ByPlace row) = by_place f (forest row)
pairs_with f (ByName fields) = by_name f (forest fields.row)

-- the pairs that are left
abbrev pub pairs : Pairs → List (Tree × Option Tree)
pairs p = pairs_with (forest p.ours) p.theirs

-- by name, and not by place
abbrev pub is_by_name : Partners → Bool
is_by_name (ByPlace row) = false
is_by_name (ByName fields) = true

-- how high the children are, and how much is to be gone through in them
abbrev pub levels : Pairs → ℕ
levels p = max (heights (forest p.ours)) (heights (partners p.theirs))

abbrev pub weight : Pairs → ℕ
weight p = sizes (forest p.ours) * sizes (partners p.theirs)

-- two nodes that meet are no higher than the rows that they come from, and there is less to do
pub record Meets (old new : Pairs) (x y : Tree) : Type 0 where
  pub first : height x ≤ levels old
  pub second : height y ≤ levels old
  pub less : weight new + size x * size y ≤ weight old

-- the pairs are that pair and the rest of them
pub record PairAndRest (old : Pairs) (p : Pair × Pairs) : Type 0 where
  pub split : pairs old ≡ (tree p.0.ours, option_map tree p.0.theirs) ∷ pairs p.1
  pub alike : is_by_name p.1.theirs ≡ is_by_name old.theirs
  pub low : levels p.1 ≤ levels old
  pub met : IfSome p.0.theirs (λ y. Meets old p.1 (tree p.0.ours) (tree y))

-- the first pair is taken away, if there is one
abbrev pub TakesFirst : Pairs → Pairs → Option Pair → Type 0
TakesFirst old new None = pairs old ≡ []
TakesFirst old new (Some pair) = PairAndRest old (pair, new)

-- the first child has no partner, and all are left as they were
pub record IsAlone (old new : Pairs) (child : Node) : Type 0 where
  pub split : pairs old ≡ (tree child, None) ∷ drop 1 (pairs old)
  pub kept : new ≡ old

-- the first pair is shown, if there is one: it is taken away if it has a partner, and left if not
abbrev pub ShowsFirst : Pairs → Pairs → Option Pair → Type 0
ShowsFirst old new None = pairs old ≡ []
ShowsFirst old new (Some pair) =
    MatchOption pair.theirs (IsAlone old new pair.ours) (λ partner. PairAndRest old (pair, new))

-- a child that has no partner
abbrev pub is_lone : Option Pair → Bool
is_lone None = false
is_lone (Some pair) = is_none pair.theirs

-- the first pair is taken away once a child that has no partner is passed over as well
pub record LeavesRest (old new : Pairs) (a : Option Pair) : Type 0 where
  pub rest : Pairs
  pub taken : TakesFirst old rest a
  pub ours : forest rest.ours
      ≡ (if is_lone a then behind 1 (forest new.ours) else forest new.ours)
  pub theirs : rest.theirs ≡ new.theirs
