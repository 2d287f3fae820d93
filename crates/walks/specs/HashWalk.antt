-- Where the hash walk stands, and to which answer it comes from there.
use Rattle.std.specs.Prelude.{◌≡◌, ℕ, suc, ◌+◌, ◌-◌, ◌<◌, true, List, [], ◌∷◌, length, Some, None, Option}
use Rattle.rules.specs.Fnv.{from, le_bytes}
use Rattle.rules.specs.Meaning.{Meaning}
use Rattle.trees.specs.Tree.{Tree, Forest, empty, more, labels, count, fits, each, sound}
use Rattle.trees.specs.Hash.{hash_node, hash_within}
use Rattle.cells.specs.Reading.{front, behind, roots, complete}
use Rattle.cells.specs.declared.types.Cell.{Cell}
use Rattle.walks.specs.declared.hashing.Frame.{Frame}
use Rattle.walks.specs.declared.met.Met.{Met}
use Rattle.walks.specs.declared.met.Met.TheVariants.{Answered, Opened}

-- none stays none, a number goes on
abbrev pub onward : Option ℕ → (ℕ → Option ℕ) → Option ℕ
onward None k = None
onward (Some x) k = k x

-- the hash of a node of which h is hashed and the children f are to come
abbrev pub rest_of : (Tree → Option ℕ) → Forest → ℕ → Option ℕ
rest_of ask empty h = Some h
rest_of ask (more l t f) h = onward (ask t) (λ x. rest_of ask f (from h (le_bytes 8 x)))

-- what a node comes to that was met, with the children f
abbrev pub answer_of : (Tree → Option ℕ) → Forest → Met (Option ℕ) Frame → Option ℕ
answer_of ask f (Answered a) = a
answer_of ask f (Opened fr) = rest_of ask f fr.acc

-- only a node that has no children is answered with a number; of others all are to come
abbrev pub HasLeft : Cell → Met (Option ℕ) Frame → Type 0
HasLeft cell (Answered None) = Unit {0}
HasLeft cell (Answered (Some h)) = (f : Forest) → fits cell.head (labels f) ≡ true → f ≡ empty
HasLeft cell (Opened fr) = fr.left ≡ cell.children

-- a node's cell was met
pub record IsMet (m : Meaning) (cell : Cell) (met : Met (Option ℕ) Frame) : Type 0 where
  pub answer : (ask : Tree → Option ℕ) (f : Forest) → count f ≡ cell.children
      → fits cell.head (labels f) ≡ true → hash_node m ask cell.head f ≡ answer_of ask f met
  pub left : HasLeft cell met

-- what the frames make of the hash of a child of the innermost, where these trees are to come
abbrev pub outcome : Meaning → List Frame → Forest → Option ℕ → Option ℕ
outcome m [] trees r = r
outcome m (fr ∷ frs) trees r =
    outcome m frs (behind fr.left trees)
    (onward r
    (λ x. rest_of (hash_within m (16 - suc (length frs))) (front fr.left trees) (from fr.acc (le_bytes 8 x))))

-- what the frame in hand and those around it come to, from the cells that are left
abbrev pub comes_to : Meaning → Frame → List Frame → List Cell → Option ℕ
comes_to m fr frs cells =
    outcome m frs (behind fr.left (roots cells))
    (rest_of (hash_within m (16 - suc (length frs))) (front fr.left (roots cells)) fr.acc)

-- the trees that are to come are sound, each on its level
abbrev pub AreMade : List Frame → Forest → Type 0
AreMade [] trees = Unit {0}
AreMade (fr ∷ frs) trees =
    (length frs < 16) × (each (sound (16 - suc (length frs))) (front fr.left trees) ≡ true)
    × AreMade frs (behind fr.left trees)

-- how many they are
abbrev pub owed : List Frame → ℕ
owed [] = 0
owed (fr ∷ frs) = fr.left + owed frs

-- the walk comes to the answer a
pub record Walks (m : Meaning) (fr : Frame) (frs : List Frame) (cells : List Cell) (a : Option ℕ) :
    Type 0 where
  pub comes : comes_to m fr frs cells ≡ a
  pub made : AreMade (fr ∷ frs) (roots cells)
  pub whole : complete (owed (fr ∷ frs)) cells ≡ true
