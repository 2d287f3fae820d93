-- Where a walk stands, and what it comes to from there.
use Rattle.std.specs.Prelude.{◌≡◌, ℕ, suc, ◌+◌, ◌-◌, ◌*◌, ◌^◌, ◌<◌, ◌≤◌, true, List, [], ◌∷◌, ◌++◌, reverse, length, Some, None, Option}
use Rattle.trees.specs.Name.{Name, distinct, all_empty}
use Rattle.trees.specs.declared.head.Head.{Head}
use Rattle.trees.specs.declared.head.Head.TheVariants.{List as list}
use Rattle.trees.specs.Tree.{Tree, node, Forest, count, size, sizes, labels, each, sound}
use Rattle.trees.specs.Place.{change_at, label_at}
use Rattle.trees.specs.Apply.{Walked, Fault, ended, done, stopped, field_then, within_node, apply_nodes, apply_within}
use Rattle.trees.specs.Codes.{kind_number}
use Rattle.trees.specs.declared.codes.Refusal.TheVariants as refuse
use Rattle.cells.specs.declared.types.Cell.{Cell}
use Rattle.cells.specs.Layout.{encode, encodes, cell_of, before, kids, Lies, LieAll}
use Rattle.patch.specs.declared.errors.ApplyError.{ApplyError}
use Rattle.patch.specs.declared.errors.ApplyError.TheVariants.{MismatchedKinds, MismatchedTypes, Room}
use Rattle.patch.specs.declared.manners.Pairing.{Pairing}
use Rattle.patch.specs.declared.manners.Pairing.TheVariants.{ByName, Extending}
use Rattle.patch.specs.declared.frames.Meeting.{Meeting}
use Rattle.patch.specs.declared.frames.Frame.{Frame}
use Rattle.patch.specs.declared.frames.Ends.{Ends}
use Rattle.patch.specs.declared.frames.Step.{Step}
use Rattle.patch.specs.declared.frames.Step.TheVariants.{On, Done}
use Rattle.patch.specs.declared.steps.Walk.{Walk}
use Rattle.patch.specs.Manners.{onto}
use Rattle.patch.specs.Rows.{From, EndsAt, Comes, Alone, onward}

-- a target node that is open at its child j, on which the patch's child i is laid; the patch's
-- other children come after that
pub record Open : Type 0 where
  pub head : Head
  pub children : Forest
  pub j : ℕ
  -- the cells of the children before j, and of those behind it
  pub front : List Cell
  pub back : List Cell
  pub pairing : Pairing
  pub i : ℕ
  -- where the patch's child i ends
  pub end : ℕ
  pub others : Forest
  -- the levels that the children may have
  pub levels : ℕ

-- what a node comes to, from what its child came to
abbrev pub after : Open → Walked Tree → Walked Tree
after o r =
    within_node o.head
    (field_then o.i (change_at o.j (λ _. r.left) o.children) r.free r.ending
    (λ f free. onto (apply_within o.levels) o.pairing (suc o.i) f o.others free))

-- what the root comes to, from what the innermost child came to
abbrev pub resume : List Open → Walked Tree → Walked Tree
resume [] r = r
resume (o ∷ os) r = resume os (after o r)

-- the label of the node in the focus, where the root's is l
abbrev pub label : Name → List Open → Name
label l [] = l
label l (o ∷ os) = label_at o.j o.children

-- the target's cells before the focus, and those behind it
abbrev pub pre : Name → List Open → List Cell
pre l [] = []
pre l (o ∷ os) = pre l os ++ (cell_of (label l os) (node o.head o.children) ∷ o.front)

abbrev pub post : List Open → List Cell
post [] = []
post (o ∷ os) = o.back ++ post os

-- the target with the tree t in its focus, behind the cells base, and the free cells
abbrev pub Holds : List Cell → Name → List Open → Tree → List Cell → List Cell → Type 0
Holds base l os t rest cells = cells ≡ base ++
    (pre l os ++ (encode (label l os) t ++ (post os ++ rest)))

-- the patch node that is laid on the focus ends there
abbrev pub Past : List Open → ℕ → Type 0
Past [] n = Unit {0}
Past (o ∷ os) n = n ≡ o.end

-- a node is open in the focus, and the patch's children g are to come
pub record OpenNode (base : List Cell) (l : Name) (os : List Open) (fr : Frame) (h : Head)
    (f g : Forest) (levels : ℕ) : Type 0 where
  pub place : fr.target ≡ length base + length (pre l os)
  pub depth : levels + suc (length os) ≡ 16
  pub patch : LieAll base fr.next.at g
  pub counted : fr.next.count ≡ count g
  pub small : fr.index + fr.next.count ≤ length base
  pub few : length base ≤ 65535
  pub sane : sound (suc levels) (node h f) ≡ true
  pub sounds : each (sound levels) g ≡ true
  pub apart : fr.pairing ≡ ByName → distinct (labels f) ≡ true
  pub listed : fr.pairing ≡ Extending → (h ≡ list) × (all_empty (labels g) ≡ true)
  pub past : Past os (fr.next.at + sizes g)

-- the frame of a node that is open around the focus, with which its rows begin
pub record Fits (base : List Cell) (l : Name) (os : List Open) (fr : Frame)
    (o : Open) : Type 0 where
  pub as_node : OpenNode base l os
      (onward fr fr.row o.end) o.head o.children o.others o.levels
  pub index_is : fr.index ≡ o.i
  pub pairing_is : fr.pairing ≡ o.pairing
  pub splits : (t : Tree) → encodes (change_at o.j (λ _. t) o.children) ≡ o.front ++
      (encode (label_at o.j o.children) t ++ o.back)
  pub far : length o.front ≡ before o.j o.children
  pub row : From fr.target o.children o.j fr.row
  pub here : 0 < fr.row.count
  pub some : 0 < fr.next.count
  pub even : (fr.pairing ≡ ByName → ⊥) → fr.row.count - 1 ≡ count o.children - (fr.index + 1)

-- the frames of all of them
abbrev pub IsHeld : List Cell → Name → List Frame → List Open → Type 0
IsHeld base l [] [] = Unit {0}
IsHeld base l [] (o ∷ os) = ⊥
IsHeld base l (fr ∷ frs) [] = ⊥
IsHeld base l (fr ∷ frs) (o ∷ os) = Fits base l os fr o × IsHeld base l frs os

-- the patch's node, of head k and children g, is to be laid on the focus, of head h and children f
pub record Meeting_of (base : List Cell) (l : Name) (frames : List Frame) (at : Meeting) (used : ℕ)
    (cells : List Cell) (a : Walked Tree) : Type 0 where
  pub os : List Open
  pub levels : ℕ
  pub h : Head
  pub f : Forest
  pub k : Head
  pub g : Forest
  pub rest : List Cell
  pub held : IsHeld base l frames os
  pub depth : levels + suc (length os) ≡ 16
  pub holds : Holds base l os (node h f) rest cells
  pub place : at.target ≡ length base + length (pre l os)
  pub patch : Lies base at.patch (node k g)
  pub sane : sound (suc levels) (node h f) ≡ true
  pub sounds : sound (suc levels) (node k g) ≡ true
  pub few : length base ≤ 65535
  pub past : Past os (at.patch + size (node k g))
  pub used_is : used + length rest ≡ length cells
  pub comes : a ≡ resume os (apply_nodes (apply_within levels) h f k g (length rest))

-- the focus is done: it is the tree t, on which the patch's node u was laid
pub record Laid_at (base : List Cell) (l : Name) (frames : List Frame) (at : Meeting) (used : ℕ)
    (cells : List Cell) (a : Walked Tree) : Type 0 where
  pub os : List Open
  pub levels : ℕ
  pub t : Tree
  pub u : Tree
  pub rest : List Cell
  pub held : IsHeld base l frames os
  pub depth : levels + suc (length os) ≡ 16
  pub holds : Holds base l os t rest cells
  pub sane : sound (suc levels) t ≡ true
  pub sounds : sound (suc levels) u ≡ true
  pub place : at.target ≡ length base + length (pre l os)
  pub patch : Lies base at.patch u
  pub past : Past os (at.patch + size u)
  pub used_is : used + length rest ≡ length cells
  pub comes : a ≡ resume os (ended t (length rest) done)

-- the same, where the two rows end with the two nodes
pub record Finished (base : List Cell) (l : Name) (frames : List Frame) (ends : Ends) (used : ℕ)
    (cells : List Cell) (a : Walked Tree) : Type 0 where
  pub os : List Open
  pub levels : ℕ
  pub t : Tree
  pub rest : List Cell
  pub held : IsHeld base l frames os
  pub depth : levels + suc (length os) ≡ 16
  pub holds : Holds base l os t rest cells
  pub sane : sound (suc levels) t ≡ true
  pub target : EndsAt cells ends.target (length base + length (pre l os) + size t)
  pub end : ℕ
  pub patch : EndsAt cells ends.patch end
  pub past : Past os end
  pub used_is : used + length rest ≡ length cells
  pub comes : a ≡ resume os (ended t (length rest) done)

-- the node in the focus goes on
pub record Within (base : List Cell) (l : Name) (fr : Frame) (frs : List Frame) (used : ℕ)
    (cells : List Cell) (a : Walked Tree) : Type 0 where
  pub os : List Open
  pub levels : ℕ
  pub h : Head
  pub f : Forest
  pub g : Forest
  pub j : ℕ
  pub rest : List Cell
  pub held : IsHeld base l frs os
  pub opened : OpenNode base l os fr h f g levels
  pub row : From fr.target f j fr.row
  pub even : (fr.pairing ≡ ByName → ⊥) → fr.row.count ≡ count f - fr.index
  pub holds : Holds base l os (node h f) rest cells
  pub used_is : used + length rest ≡ length cells
  pub comes : a ≡ resume os
      (within_node h (onto (apply_within levels) fr.pairing fr.index f g (length rest)))

abbrev pub Going : List Cell → Name → Step → List Frame → ℕ → List Cell → Walked Tree → Type 0
Going base l (Done ends) frames used cells a = Finished base l frames ends used cells a
Going base l (On fr) frames used cells a = Within base l fr frames used cells a

-- the positions at which the open nodes are, from the root
abbrev pub way : List Frame → List ℕ
way [] = []
way (fr ∷ frs) = way frs ++ (fr.index ∷ [])

-- the fault of an error, met at a path
abbrev pub fault_of : ApplyError → List ℕ → Fault
fault_of (MismatchedKinds e) path = record {
  reason = refuse.MismatchedKinds;
  from = kind_number e.from;
  to = kind_number e.to;
  path = path;
}
fault_of (MismatchedTypes from to) path = record
    { reason = refuse.MismatchedTypes; from = from; to = to; path = path }
fault_of (Room from to) path = record { reason = refuse.Room; from = from; to = to; path = path }

-- the walk ends with this error, and these are the cells then
pub record Stopped (base : List Cell) (l : Name) (frames : List Frame) (used : ℕ)
    (cells : List Cell) (e : ApplyError) (a : Walked Tree) : Type 0 where
  pub rest : List Cell
  pub holds : cells ≡ base ++ (encode l a.left ++ rest)
  pub free_is : a.free ≡ length rest
  pub used_is : used + length rest ≡ length cells
  pub deep : length frames ≤ 15
  pub ending_is : a.ending ≡ stopped (fault_of e (way frames))

-- what a walk is to do: with the target, under its label behind the cells base, it comes to the
-- outcome
pub record Task : Type 0 where
  pub base : List Cell
  pub name : Name
  pub outcome : Walked Tree

-- the open nodes, the innermost first
abbrev pub frames_of : Walk → List Frame
frames_of w = reverse w.stack.items

-- two nodes meet, as the task wants it
abbrev pub Meets : Task → Walk → Meeting → Type 0
Meets k w at = Meeting_of k.base k.name (frames_of w) at w.used w.cells.now k.outcome

-- two nodes are laid, one on the other, as the task wants it
abbrev pub IsLaid : Task → Walk → Meeting → Type 0
IsLaid k w at = Laid_at k.base k.name (frames_of w) at w.used w.cells.now k.outcome

-- they are, or the target's node goes on
abbrev pub IsLaidOrOpen : Task → Walk → Meeting → Option Frame → Type 0
IsLaidOrOpen k w at None = IsLaid k w at
IsLaidOrOpen k w at (Some fr) = Within k.base k.name fr (frames_of w) w.used w.cells.now k.outcome

-- a node goes on, or is done, as the task wants it
abbrev pub IsAtStep : Task → Walk → Step → Type 0
IsAtStep k w o = Going k.base k.name o (frames_of w) w.used w.cells.now k.outcome

-- the node of the frame, which was taken off the stack, has a child that is done, as the task wants it
abbrev pub HasLaid : Task → Walk → Frame → Ends → Type 0
HasLaid k w fr ends =
    Finished k.base k.name (fr ∷ frames_of w) ends w.used w.cells.now k.outcome

-- a list goes on with a patch child that has no partner
pub record Grows (k : Task) (w : Walk) (fr : Frame) : Type 0 where
  pub goes : IsAtStep k w (On fr)
  pub some : 0 < fr.next.count
  pub extends : fr.pairing ≡ Extending
  pub alone : (t u : Tree) → (c : Comes w.cells.now fr t u) → Alone fr c.patch.label (kids t)

-- the root is done, as the task wants it
pub record IsRootDone (k : Task) (w : Walk) : Type 0 where
  pub empty : frames_of w ≡ []
  pub ends : Ends
  pub goes : IsAtStep k w (Done ends)

-- the walk ends with an error, as the task wants it
abbrev pub IsEnded : Task → Walk → ApplyError → Type 0
IsEnded k w e = Stopped k.base k.name (frames_of w) w.used w.cells.now e k.outcome

-- How much of a walk is left, where no node has more than n children.
abbrev pub rank : ℕ → List Frame → ℕ
rank n [] = 0
rank n (fr ∷ frs) = (2 * fr.next.count) * (2 * n + 2) ^ (16 - length frs) + rank n frs

-- with the node that goes on
abbrev pub ahead : ℕ → Step → List Frame → ℕ
ahead n (Done ends) frames = rank n frames
ahead n (On fr) frames = (2 * fr.next.count + 1) * (2 * n + 2) ^
    (16 - length frames) + rank n frames

abbrev pub weight : Step → Walk → ℕ
weight o w = ahead 65535 o (frames_of w)
