-- Where the walk of `equal` stands, and to which answer it comes from there.
use Rattle.std.specs.Prelude.{◌≡◌, ℕ, suc, ◌+◌, ◌-◌, ◌*◌, ◌<◌, max, Bool, true, false, if◌then◌else◌, List, [], ◌∷◌, length, Some, Option}
use Rattle.rules.specs.Meaning.{Meaning}
use Rattle.trees.specs.declared.head.Head.{Head}
use Rattle.trees.specs.Tree.{Tree, named, size, height}
use Rattle.trees.specs.Tests.{is_enum}
use Rattle.trees.specs.Equal.{while_true, equal_found, or_false, equal_within}
use Rattle.cells.specs.Views.{forest}
use Rattle.cells.specs.declared.views.Kids.{Kids}
use Rattle.walks.specs.Pairs.{partners, is_by_name, pairs, levels, weight}
use Rattle.walks.specs.declared.equality.Frame.{Frame}
use Rattle.walks.specs.declared.met.Met.{Met}
use Rattle.walks.specs.declared.met.Met.TheVariants.{Answered, Opened}

-- the frame of two alike nodes: an enum asks the second's fields against the first's
pub record IsFrameOf (h : Head) (ours theirs : Kids) (fr : Frame) : Type 0 where
  pub next : forest fr.pairs.ours ≡ (if is_enum h then forest ours else forest theirs)
  pub row : partners fr.pairs.theirs ≡ (if is_enum h then forest theirs else forest ours)
  pub way : is_by_name fr.pairs.theirs ≡ named h
  pub sure : fr.sure ≡ is_enum h

-- what the pairs answer, one after the other
abbrev pub answers : (Tree → Tree → Option Bool) → List (Tree × Option Tree) → Option Bool
answers ask [] = Some true
answers ask (p ∷ ps) = while_true (equal_found ask p.1 p.0) (answers ask ps)

-- in an enum none counts as false
abbrev pub sure : Bool → Option Bool → Option Bool
sure true r = or_false r
sure false r = r

-- what a frame answers, where its pairs have so many levels
abbrev pub frame_answer : Meaning → ℕ → Frame → Option Bool
frame_answer m n fr = sure fr.sure (answers (equal_within m n) (pairs fr.pairs))

-- what two nodes that met come to
abbrev pub answer_of : Meaning → ℕ → Met (Option Bool) Frame → Option Bool
answer_of m n (Answered a) = a
answer_of m n (Opened fr) = frame_answer m n fr

-- a frame is lower than its nodes, and there is less to do in it
abbrev pub IsLess : Met (Option Bool) Frame → Tree → Tree → Type 0
IsLess (Answered a) t u = Unit {0}
IsLess (Opened fr) t u =
    (levels fr.pairs < max (height t) (height u)) × (weight fr.pairs < size t * size u)

-- what two nodes that met come to, and how little of them is left
pub record IsMet (m : Meaning) (t u : Tree) (met : Met (Option Bool) Frame) : Type 0 where
  pub answer : (n : ℕ) → equal_within m (suc n) t u ≡ answer_of m n met
  pub less : IsLess met t u

-- what all frames answer, from the innermost outward
abbrev pub outcome : Meaning → List Frame → Option Bool
outcome m [] = Some true
outcome m (fr ∷ frs) = while_true (frame_answer m (15 - length frs) fr) (outcome m frs)

-- no frame has more levels than are left to it
abbrev pub AreLow : List Frame → Type 0
AreLow [] = Unit {0}
AreLow (fr ∷ frs) = (levels fr.pairs + length frs < 16) × AreLow frs

-- how much there is to do in all
abbrev pub load : List Frame → ℕ
load [] = 0
load (fr ∷ frs) = 2 * weight fr.pairs + 1 + load frs
