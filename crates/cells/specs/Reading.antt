-- The trees that cells spell, read from the right: a cell takes its children from those behind it.
use Rattle.std.specs.Prelude.{◌≡◌, ℕ, zero, suc, ◌+◌, ◌≤◌, Bool, true, false, List, [], ◌∷◌, drop}
use Rattle.trees.specs.Name.{Name}
use Rattle.trees.specs.declared.head.Head.TheVariants.{Tuple as tuple}
use Rattle.trees.specs.Tree.{Tree, node, Forest, empty, more, height}
use Rattle.cells.specs.declared.types.Cell.{Cell}

-- the first so many trees, and those behind them
abbrev pub front : ℕ → Forest → Forest
front zero f = empty
front (suc n) empty = empty
front (suc n) (more l t f) = more l t (front n f)

abbrev pub behind : ℕ → Forest → Forest
behind zero f = f
behind (suc n) empty = empty
behind (suc n) (more l t f) = behind n f

-- the trees that stand one after the other
abbrev pub roots : List Cell → Forest
roots [] = empty
roots (c ∷ cs) =
    more c.label (node c.head (front c.children (roots cs))) (behind c.children (roots cs))

-- the first tree, and its name
abbrev pub first_tree : Forest → Tree
first_tree empty = node tuple empty
first_tree (more l t f) = t

abbrev pub first_label : Forest → Name
first_label empty = []
first_label (more l t f) = l

-- the tree at a position
abbrev pub tree_at : List Cell → ℕ → Tree
tree_at cells at = first_tree (roots (drop at cells))

-- so many trees end before the cells do
abbrev pub complete : ℕ → List Cell → Bool
complete zero cs = true
complete (suc n) [] = false
complete (suc n) (c ∷ cs) = complete (c.children + n) cs

-- a tree of no more levels stands at the position
pub record StandsAt (cells : List Cell) (at levels : ℕ) : Type 0 where
  pub whole : complete 1 (drop at cells) ≡ true
  pub low : height (tree_at cells at) ≤ levels
