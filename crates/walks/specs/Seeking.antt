-- Looking for a name among children.
use Rattle.std.specs.Prelude.{◌≡◌, ◌⊎◌, List, Some}
use Rattle.trees.specs.Name.{Name}
use Rattle.trees.specs.Tree.{Tree, Forest, empty, more, under}
use Rattle.cells.specs.Children.{IsKept}
use Rattle.cells.specs.declared.types.Cell.{Cell}
use Rattle.cells.specs.declared.rows.Row.{Row}

-- the children h are the last of f
abbrev pub Behind : Forest → Forest → Type 0
Behind empty h = h ≡ empty
Behind (more l t f) h = (h ≡ more l t f) ⊎ Behind f h

-- the row begins with the child that f has under the name
pub record There (cells : List Cell) (n : Name) (f : Forest) (row : Row) : Type 0 where
  pub label : Name
  pub child : Tree
  pub others : Forest
  pub kept : IsKept cells row (more label child others)
  pub behind : Behind f (more label child others)
  pub is : under n f ≡ Some child
