-- Where the walk of `compare` stands, and to which answer it comes from there.
use Rattle.std.specs.Prelude.{◌≡◌, ℕ, suc, ◌+◌, ◌-◌, ◌*◌, ◌<◌, ◌≤◌, max, false, not, ◌&&◌, if◌then◌else◌, List, [], ◌∷◌, length, Some, None, Option}
use Rattle.std.specs.declared.cmp.Ordering.TheVariants.{Equal}
use Rattle.std.specs.declared.cmp.Ordering.{Ordering}
use Rattle.std.specs.Ordering.{nat_cmp}
use Rattle.rules.specs.Meaning.{Meaning}
use Rattle.trees.specs.declared.head.Head.{Head}
use Rattle.trees.specs.Tree.{Tree, Forest, named, count, size, height}
use Rattle.trees.specs.Tests.{is_list}
use Rattle.trees.specs.Compare.{while_equal, together, same_order, compare_found, compare_lists, compare_fields, compare_tuples, compare_within}
use Rattle.cells.specs.Views.{forest}
use Rattle.cells.specs.declared.views.Kids.{Kids}
use Rattle.walks.specs.Pairs.{partners, is_by_name, pairs, levels, weight}
use Rattle.walks.specs.declared.ordering.Frame.{Frame}
use Rattle.walks.specs.declared.met.Met.{Met}
use Rattle.walks.specs.declared.met.Met.TheVariants.{Answered, Opened}

-- what the pairs answer by place: the first that is not equal, and else that
abbrev pub first_answer : (Tree → Tree → Option Ordering) → List (Tree × Option Tree) → Ordering
    → Option Ordering
first_answer ask [] last = Some last
first_answer ask (p ∷ ps) last = while_equal (compare_found ask p.0 p.1) (first_answer ask ps last)

-- what they answer by name: all together, with what was answered so far
abbrev pub all_answers : (Tree → Tree → Option Ordering) → List (Tree × Option Tree)
    → Option Ordering
all_answers ask [] = Some Equal
all_answers ask (p ∷ ps) = together (compare_found ask p.0 p.1) (all_answers ask ps)

-- what a frame answers, once a pair has answered so
abbrev pub given : Meaning → ℕ → Frame → Option Ordering → Option Ordering
given m n fr r =
    if is_by_name fr.pairs.theirs
    then together (Some fr.so_far) (together r (all_answers (compare_within m n) (pairs fr.pairs)))
    else while_equal r (first_answer (compare_within m n) (pairs fr.pairs) fr.so_far)

-- what it answers where it stands
abbrev pub frame_answer : Meaning → ℕ → Frame → Option Ordering
frame_answer m n fr = given m n fr (Some Equal)

-- what the children of alike nodes answer: a List's, named fields, others
abbrev pub by_head : (Tree → Tree → Option Ordering) → Head → Forest → Forest → Option Ordering
by_head ask h f g =
    if is_list h then compare_lists ask f g else if named h then compare_fields ask f g
    else compare_tuples ask f g

-- the frame of two alike nodes, if there is one
pub record IsFrame (h : Head) (ours theirs : Kids) (fr : Frame) : Type 0 where
  pub first : forest fr.pairs.ours ≡ forest ours
  pub row : partners fr.pairs.theirs ≡ forest theirs
  pub even : is_list h ≡ false → count (forest ours) ≡ count (forest theirs)
  pub way : is_by_name fr.pairs.theirs ≡ (named h && not (same_order (forest ours) (forest theirs)))
  pub last : fr.so_far ≡ nat_cmp (count (forest ours)) (count (forest theirs))

-- unlike counts have none, where the head is no List's
pub record IsUneven (h : Head) (ours theirs : Kids) : Type 0 where
  pub other : is_list h ≡ false
  pub unlike : count (forest ours) ≡ count (forest theirs) → ⊥

abbrev pub IsFrameOf : Head → Kids → Kids → Option Frame → Type 0
IsFrameOf h ours theirs None = IsUneven h ours theirs
IsFrameOf h ours theirs (Some fr) = IsFrame h ours theirs fr

-- what two nodes that met come to
abbrev pub answer_of : Meaning → ℕ → Met (Option Ordering) Frame → Option Ordering
answer_of m n (Answered a) = a
answer_of m n (Opened fr) = frame_answer m n fr

-- a frame is lower than its nodes, and there is less to do in it
abbrev pub IsLess : Met (Option Ordering) Frame → Tree → Tree → Type 0
IsLess (Answered a) t u = Unit {0}
IsLess (Opened fr) t u =
    (levels fr.pairs < max (height t) (height u)) × (weight fr.pairs < size t * size u)

-- what two nodes that met come to, and how little of them is left
pub record IsMet (m : Meaning) (t u : Tree) (met : Met (Option Ordering) Frame) : Type 0 where
  pub answer : (n : ℕ) → compare_within m (suc n) t u ≡ answer_of m n met
  pub less : IsLess met t u

-- a frame that was given an answer goes on with it, and there is no more to do
pub record Takes (old : Frame) (answer : Ordering) (new : Frame) : Type 0 where
  pub goes : (m : Meaning) (n : ℕ) → given m n old (Some answer) ≡ frame_answer m n new
  pub low : levels new.pairs ≤ levels old.pairs
  pub less : weight new.pairs ≤ weight old.pairs

abbrev pub IsGiven : Frame → Ordering → Frame → Option (Unit {0}) → Type 0
IsGiven old answer new None = (m : Meaning) (n : ℕ) → given m n old (Some answer) ≡ None
IsGiven old answer new (Some done) = Takes old answer new

-- what all frames make of an answer, from the innermost outward
abbrev pub outcome : Meaning → List Frame → Option Ordering → Option Ordering
outcome m [] r = r
outcome m (fr ∷ frs) r = outcome m frs (given m (15 - length frs) fr r)

-- no frame has more levels than are left to it
abbrev pub AreLow : List Frame → Type 0
AreLow [] = Unit {0}
AreLow (fr ∷ frs) = (levels fr.pairs + length frs < 16) × AreLow frs

-- how much there is to do in all
abbrev pub load : List Frame → ℕ
load [] = 0
load (fr ∷ frs) = 2 * weight fr.pairs + 1 + load frs
