-- What becomes of the cells where a copy of a run takes the place of another.
use Rattle.std.specs.Prelude.{◌≡◌, ℕ, ◌+◌, ◌-◌, ◌<◌, ◌≤◌, List, ◌∷◌, ◌++◌, length, drop}
use Rattle.trees.specs.Name.{Name}
use Rattle.trees.specs.Tree.{Tree, height}
use Rattle.std.specs.declared.ops.Range.{Range}
use Rattle.cells.specs.declared.types.Cell.{Cell}
use Rattle.cells.specs.Layout.{encode, Lies}
use Rattle.patch.specs.declared.frames.Meeting.{Meeting}
use Rattle.patch.specs.declared.errors.ApplyError.{ApplyError}
use Rattle.patch.specs.declared.errors.ApplyError.TheVariants.{Room}
use Rattle.patch.specs.declared.steps.Walk.{Walk}

-- the node's cell x, with f, the old run o and q behind it, then the free cells; the run to be
-- copied lies before the node
pub record Parts (cells : List Cell) (target : ℕ) (run old : Range ℕ) (used : ℕ) (p : List Cell)
    (x : Cell) (f o q rest copied after : List Cell) : Type 0 where
  pub is : cells ≡ p ++ (x ∷ (f ++ (o ++ (q ++ rest))))
  pub target_is : length p ≡ target
  pub at_is : old.start ≡ target + 1 + length f
  pub end_is : old.end ≡ old.start + length o
  pub used_is : used ≡ old.end + length q
  pub run_is : drop run.start cells ≡ copied ++ after
  pub run_end : run.end ≡ run.start + length copied
  pub front : run.end ≤ target

-- the copy stands where the old run stood, and so many cells are used
pub record IsRenewed (cells : List Cell) (cell : Cell) (p f o q rest copied : List Cell)
    (used : ℕ) : Type 0 where
  pub left : List Cell
  pub is : cells ≡ p ++ (cell ∷ (f ++ (copied ++ (q ++ left))))
  pub fits : length copied ≤ length rest
  pub frees : length left ≡ (length rest - length copied) + length o
  pub used_is : used + length left ≡ length cells

-- the copy finds no room, and nothing is changed
pub record Refused (before cells rest : List Cell) (wanted : ℕ) (e : ApplyError) : Type 0 where
  pub is : e ≡ Room wanted (length rest)
  pub wants : length rest < wanted
  pub same : cells ≡ before

-- the target node t under the label l, behind the cells p, with q and the free cells behind it; the
-- patch's node u lies in p
pub record Spot (cells : List Cell) (at : Meeting) (used : ℕ) (p : List Cell) (l : Name)
    (t u : Tree) (q rest : List Cell) : Type 0 where
  pub is : cells ≡ p ++ (encode l t ++ (q ++ rest))
  pub place : at.target ≡ length p
  pub patch : Lies p at.patch u
  pub high : height t ≤ 16
  pub patch_high : height u ≤ 16
  pub used_is : used + length rest ≡ length cells

-- the node has become t: so many cells are new, so many old ones are free
pub record Became (cells p : List Cell) (l : Name) (t : Tree) (q rest : List Cell)
    (new old used : ℕ) : Type 0 where
  pub left : List Cell
  pub is : cells ≡ p ++ (encode l t ++ (q ++ left))
  pub fits : new ≤ length rest
  pub frees : length left ≡ (length rest - new) + old
  pub used_is : used + length left ≡ length cells

-- the two nodes of a meeting lie where it says
pub record Placed (cells : List Cell) (used : ℕ) (at : Meeting) (t u : Tree) : Type 0 where
  pub front : List Cell
  pub label : Name
  pub behind : List Cell
  pub free : List Cell
  pub spot : Spot cells at used front label t u behind free

-- a run that is to be copied, and one whose place the copy is to take
pub record Site (cells : List Cell) (used target : ℕ) (run old : Range ℕ) : Type 0 where
  pub front : List Cell
  pub cell : Cell
  pub before : List Cell
  pub there : List Cell
  pub behind : List Cell
  pub free : List Cell
  pub copied : List Cell
  pub after : List Cell
  pub parts : Parts cells target run old used front cell before there behind free copied after

module _ {cells : List Cell} {used : ℕ} where
  -- so many new cells took the place of so many old ones, and the target's node is t then
  abbrev pub Becomes : {at : Meeting} {o u : Tree} → Placed cells used at o u → Tree → ℕ → ℕ
      → List Cell → ℕ → Type 0
  Becomes s t new old now n = Became now s.front s.label t s.behind s.free new old n

  -- there is no room for so many, and nothing is changed
  abbrev pub NoRoom : {at : Meeting} {o u : Tree} → Placed cells used at o u → ℕ → List Cell
      → ApplyError → Type 0
  NoRoom s wanted now e = Refused cells now s.free wanted e

  -- the copy stands in the place
  abbrev pub Renews : {target : ℕ} {run old : Range ℕ} → Site cells used target run old → Cell
      → List Cell → ℕ → Type 0
  Renews s cell now n = IsRenewed now cell s.front s.before s.there s.behind s.free s.copied n

  -- it finds no room, and nothing is changed
  abbrev pub Refuses : {target : ℕ} {run old : Range ℕ} → Site cells used target run old
      → List Cell → ApplyError → Type 0
  Refuses s now e = Refused cells now s.free (length s.copied) e

-- the open nodes stay, and the cells are those that were lent
pub record Keeps (w v : Walk) : Type 0 where
  pub stack : v.stack ≡ w.stack
  pub lent : v.cells.ghost_name ≡ w.cells.ghost_name
