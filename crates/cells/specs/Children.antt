-- Children that lie one after the other, and what a search among them finds.
use Rattle.std.specs.Prelude.{◌≡◌, ◌≤◌, List, Some, None, Option}
use Rattle.trees.specs.Name.{Name}
use Rattle.trees.specs.Tree.{Tree, Forest, count, heights, under}
use Rattle.trees.specs.Place.{position_from}
use Rattle.cells.specs.Layout.{Lies, LieAll}
use Rattle.cells.specs.declared.types.Cell.{Cell}
use Rattle.cells.specs.declared.rows.Kid.{Kid}
use Rattle.cells.specs.declared.rows.Row.{Row}

-- these are the children f
pub record IsKept (cells : List Cell) (row : Row) (f : Forest) : Type 0 where
  pub lies : LieAll cells row.at f
  pub counted : row.count ≡ count f
  pub high : heights f ≤ 16

-- the child under the name, which lies at its position
pub record Found (cells : List Cell) (n : Name) (f : Forest) (k : Kid) : Type 0 where
  pub child : Tree
  pub is : under n f ≡ Some child
  pub placed : position_from 0 n f ≡ Some k.index
  pub lies : Lies cells k.at child

-- no child has the name
pub record Missing (n : Name) (f : Forest) : Type 0 where
  pub is : under n f ≡ None
  pub placed : position_from 0 n f ≡ None

-- what the search answers
abbrev pub Finds : List Cell → Name → Forest → Option Kid → Type 0
Finds cells n f (Some k) = Found cells n f k
Finds cells n f None = Missing n f
