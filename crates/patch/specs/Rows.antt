-- Which of the target's children a row begins with.
use Rattle.std.specs.Prelude.{◌≡◌, ℕ, zero, suc, ◌+◌, ◌-◌, ◌<◌, ◌≤◌, true, ◌⊎◌, List, Some, None}
use Rattle.trees.specs.Name.{Name, distinct}
use Rattle.trees.specs.Tree.{Tree, Forest, count, size, height, labels}
use Rattle.trees.specs.Place.{position_from}
use Rattle.cells.specs.declared.types.Cell.{Cell}
use Rattle.patch.specs.declared.frames.Row.{Row}
use Rattle.cells.specs.Layout.{Lies, before, kids}
use Rattle.patch.specs.declared.manners.Pairing.TheVariants.{ByName, ByPlace}
use Rattle.patch.specs.declared.frames.Frame.{Frame}
use Rattle.patch.specs.declared.frames.Meeting.{Meeting}
use Rattle.patch.specs.declared.frames.Ends.{Ends}
use Rattle.patch.specs.Manners.{partner}

-- the row is the children f of the node at target from the j-th on
pub record From (target : ℕ) (f : Forest) (j : ℕ) (row : Row) : Type 0 where
  pub at_is : row.at ≡ target + 1 + before j f
  pub count_is : row.count + j ≡ count f

-- so many trees lie from there on, one behind the other, and end there
abbrev pub TreesTo : List Cell → ℕ → ℕ → ℕ → Type 0
TreesTo cells at zero end = at ≡ end
TreesTo cells at (suc n) end =
    (t : Tree) × Lies cells at t × (height t ≤ 16) × TreesTo cells (at + size t) n end

-- the row ends there
abbrev pub EndsAt : List Cell → Row → ℕ → Type 0
EndsAt cells row end = TreesTo cells row.at row.count end

-- the patch's child u is the next of the target t
pub record Comes (cells : List Cell) (fr : Frame) (t u : Tree) : Type 0 where
  pub j : ℕ
  pub row : From fr.target (kids t) j fr.row
  pub target : Lies cells fr.target t
  pub high : height t ≤ 16
  pub patch : Lies cells fr.next.at u
  pub apart : fr.pairing ≡ ByName → distinct (labels (kids t)) ≡ true
  pub even : (fr.pairing ≡ ByName → ⊥) → fr.row.count ≡ count (kids t) - fr.index

-- the row begins with the partner, among the children f, of the patch's next child, whose name is n
pub record Beside (fr : Frame) (n : Name) (f : Forest) (row : Row) : Type 0 where
  pub j : ℕ
  pub is : partner fr.pairing n f fr.index ≡ Some j
  pub begins : From fr.target f j row

-- it has none
abbrev pub Alone : Frame → Name → Forest → Type 0
Alone fr n f = partner fr.pairing n f fr.index ≡ None

-- the row begins with the first child under the name n
pub record Under (target : ℕ) (n : Name) (f : Forest) (row : Row) : Type 0 where
  pub j : ℕ
  pub is : position_from 0 n f ≡ Some j
  pub begins : From target f j row

-- none but the last children have the name n
abbrev pub Lacks : Name → Forest → ℕ → Type 0
Lacks n f last = (j : ℕ) → position_from 0 n f ≡ Some j → count f ≤ j + last

-- the child of the target t, with which the frame's row begins, is done; the row still to be passed
-- ends where the next child begins
pub record LaidChild (cells : List Cell) (fr : Frame) (t : Tree) (rest : Row) : Type 0 where
  pub j : ℕ
  pub row : From fr.target (kids t) j fr.row
  pub here : 0 < fr.row.count
  pub target : Lies cells fr.target t
  pub high : height t ≤ 16
  pub ends : EndsAt cells rest (fr.target + 1 + before (suc j) (kids t))

-- no child behind the one that was laid is to be laid: the patch has none, or by place the target
abbrev pub IsLast : Frame → Type 0
IsLast fr = (fr.next.count ≤ 1) ⊎ ((fr.pairing ≡ ByPlace) × (fr.row.count ≤ 1))

-- the rows of two nodes alone, of which nothing is passed
abbrev pub ends_of : Meeting → Ends
ends_of at = record {
  target = record { at = at.target; count = 1 };
  patch = record { at = at.patch; count = 1 };
}

-- a row with so many trees more behind it
abbrev pub longer : Row → ℕ → Row
longer row more = record { at = row.at; count = row.count + more }

-- a node's frame behind the child that it begins with: its row, and the patch's next child
abbrev pub onward : Frame → Row → ℕ → Frame
onward fr row next = record {
  pairing = fr.pairing;
  target = fr.target;
  row = row;
  next = record { at = next; count = fr.next.count - 1 };
  index = fr.index + 1;
}
