-- How trees lie in cells: each node before its children, those one after the other.
use Rattle.std.specs.Prelude.{◌≡◌, ℕ, zero, suc, ◌+◌, ◌<◌, ◌≤◌, List, [], ◌∷◌, ◌++◌, length, take, drop, replicate, Some, None, Option}
use Rattle.trees.specs.Name.{Name}
use Rattle.trees.specs.declared.head.Head.{Head}
use Rattle.trees.specs.Tree.{Tree, node, Forest, empty, more, count, size, sizes, at}
use Rattle.trees.specs.Place.{label_at}
use Rattle.cells.specs.declared.types.Cell.{Cell}
use Rattle.trees.specs.declared.head.Head.TheVariants as value

-- the children of a node
abbrev pub kids : Tree → Forest
kids (node h f) = f

-- what a node is, but for its children
abbrev pub root : Tree → Head
root (node h f) = h

-- the cell of a node that is held under a label, empty where it has none
abbrev pub cell_of : Name → Tree → Cell
cell_of l (node h f) = record { label = l; head = h; children = count f }

-- the cells of a tree: its root's, then those of its children
abbrev mutual
  pub encode : Name → Tree → List Cell
  encode l (node h f) = cell_of l (node h f) ∷ encodes f

  pub encodes : Forest → List Cell
  encodes empty = []
  encodes (more l t f) = encode l t ++ encodes f

-- what a cell is that holds no node
abbrev pub vacant : Cell
vacant = record { label = []; head = value.Tuple; children = 0 }

-- the cells with n of them, from the position a on, vacant
abbrev pub blanked : List Cell → ℕ → ℕ → List Cell
blanked cells a n = take a cells ++ (replicate n vacant ++ drop (a + n) cells)

-- the tree t lies in the cells from the position at on
pub record Lies (cells : List Cell) (at : ℕ) (t : Tree) : Type 0 where
  pub label : Name
  pub rest : List Cell
  pub is : drop at cells ≡ encode label t ++ rest
  pub begins : at < length cells
  pub within : at + size t ≤ length cells

-- the children f lie there, one after the other
pub record LieAll (cells : List Cell) (at : ℕ) (f : Forest) : Type 0 where
  pub rest : List Cell
  pub is : drop at cells ≡ encodes f ++ rest
  pub within : at + sizes f ≤ length cells

-- how many cells the children before a position take
abbrev pub before : ℕ → Forest → ℕ
before i empty = 0
before zero (more l t f) = 0
before (suc i) (more l t f) = size t + before i f

-- how far behind the root's cell that node's cell lies to which the path leads
abbrev pub far : Option Tree → List ℕ → ℕ
far o [] = 0
far None (i ∷ path) = 0
far (Some (node h f)) (i ∷ path) = suc (before i f) + far (at i f) path

-- the label of the node to which the path leads, where the root's label is l
abbrev pub label_in : Name → Option Tree → List ℕ → Name
label_in l o [] = l
label_in l None (i ∷ path) = l
label_in l (Some (node h f)) (i ∷ path) = label_in (label_at i f) (at i f) path

-- a cell with another number of children
abbrev pub with_count : Cell → ℕ → Cell
with_count x n = record { label = x.label; head = x.head; children = n }

-- a cell with another label
abbrev pub with_label : Cell → Name → Cell
with_label x l = record { label = l; head = x.head; children = x.children }

-- two neighbouring runs of cells in changed places
abbrev pub Exchanges : List Cell → List Cell → ℕ → ℕ → ℕ → Type 0
Exchanges old new from mid to =
    (p q r s : List Cell) → old ≡ p ++ (q ++ (r ++ s))
    → length p ≡ from → from + length q ≡ mid → mid + length r ≡ to → new ≡ p ++ (r ++ (q ++ s))
