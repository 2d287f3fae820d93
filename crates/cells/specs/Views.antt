-- What views of cells show.
use Rattle.std.specs.Prelude.{◌≡◌, ℕ, ◌+◌, ◌-◌, ◌≤◌, drop, List, [], ◌∷◌, Some}
use Rattle.trees.specs.Name.{Name}
use Rattle.trees.specs.Tree.{Tree, Forest, empty, more, size, sizes}
use Rattle.trees.specs.Place.{label_at}
use Rattle.cells.specs.Layout.{kids, before, far, label_in}
use Rattle.cells.specs.Reading.{roots, first_tree, first_label, front, behind}
use Rattle.cells.specs.declared.views.Node.{Node}
use Rattle.cells.specs.declared.views.Kids.{Kids}

-- the tree that a node is the root of, and the name under which its parent holds it
abbrev pub tree : Node → Tree
tree n = first_tree (roots n.cells.now)

abbrev pub label : Node → Name
label n = first_label (roots n.cells.now)

-- the trees that are left
abbrev pub forest : Kids → Forest
forest k = front k.count (roots k.cells.now)

-- trees with their names, one by one
abbrev pub entries : Forest → List (Name × Tree)
entries empty = []
entries (more l t f) = (l, t) ∷ entries f

-- a tree with its name, as they are in the list
abbrev pub labelled : Node → Name × Tree
labelled n = (label n, tree n)

-- the child is the row's first, and begins where the row does
pub record IsFirst (row : Kids) (child : Node) : Type 0 where
  pub cells : child.cells.now ≡ row.cells.now
  pub split : forest row ≡ more (label child) (tree child) (behind 1 (forest row))

-- the row is the child and the rest of it
abbrev pub FirstAndRest : Kids → Node × Kids → Type 0
FirstAndRest row p = forest row ≡ more (label p.0) (tree p.0) (forest p.1)

-- they lie so: the first begins where the row does, and the rest behind it
pub record Cuts (row : Kids) (p : Node × Kids) : Type 0 where
  pub first : p.0.cells.now ≡ row.cells.now
  pub rest : p.1.cells.now ≡ drop (size (tree p.0)) row.cells.now

-- the name of the child at a position in a row, and where its cells begin
pub record IsAmong (row : Kids) (i : ℕ) (child : Node) : Type 0 where
  pub name : label child ≡ label_at i (forest row)
  pub place : child.cells.now ≡ drop (before i (forest row)) row.cells.now

-- the same of a node's child
pub record IsChildOf (parent : Node) (i : ℕ) (child : Node) : Type 0 where
  pub name : label child ≡ label_at i (kids (tree parent))
  pub place : child.cells.now ≡ drop (1 + before i (kids (tree parent))) parent.cells.now

-- the same of the node to which a path leads
pub record IsFoundBy (top : Node) (path : List ℕ) (found : Node) : Type 0 where
  pub name : label found ≡ label_in (label top) (Some (tree top)) path
  pub place : found.cells.now ≡ drop (far (Some (tree top)) path) top.cells.now

-- the trees of the rest are the last of the row's, in the same cells
pub record TrailsIn (row rest : Kids) : Type 0 where
  pub fewer : rest.count ≤ row.count
  pub cells : rest.cells.now
      ≡ drop (sizes (front (row.count - rest.count) (roots row.cells.now))) row.cells.now
