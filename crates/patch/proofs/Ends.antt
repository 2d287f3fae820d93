-- Trees that lie one behind the other, of one node or of several: where a row of them ends.
use Rattle.std.proofs.Common.{◌≡◌, ℕ, zero, suc, ◌+◌, ◌-◌, ◌<◌, ◌≤◌, true, List, ◌++◌, length, get_or, sym, ap, subst, arith}
use Rattle.std.proofs.lemmas.Bool.{and_parts}
use Rattle.trees.specs.Tree.{Tree, Forest, empty, more, count, size, sizes, height, each, sound}
use Rattle.cells.specs.declared.types.Cell.{Cell}
use Rattle.cells.specs.Layout.{before, kids, Lies, LieAll}
use Rattle.cells.proofs.Layouts.{size_pos, size_is, lies_unique, lies_count, lie_first, lie_rest, before_first}
use Rattle.cells.proofs.Sounds.{sound_height}
use Rattle.patch.specs.declared.frames.Row.{Row}
use Rattle.patch.specs.Rows.{From, TreesTo, EndsAt}
use Rattle.patch.proofs.Places.{row_lies, row_behind, before_all}
use Rattle.patch.proofs.Zippers.{lies_beyond}

-- a tree alone
pub tree_to : {cells : List Cell} {at : ℕ} {t : Tree} (n : ℕ) → n ≡ 1 → Lies cells at t → height t ≤ 16 → TreesTo cells at n (at + size t)
tree_to {cells} {at} {t} n e a h = subst (λ k. TreesTo cells at k (at + size t)) (sym e) (t, a, h, omega arith)

-- none
pub none_to : (cells : List Cell) (at end n : ℕ) → TreesTo cells at n end → n ≤ 0 → at ≡ end
none_to cells at end zero a h = a
none_to cells at end (suc n) a h = absurd (omega arith)

-- trees, and others behind them
pub trees_join : (cells : List Cell) (at mid end m n k : ℕ) → TreesTo cells at m mid → TreesTo cells mid n end → k ≡ m + n → TreesTo cells at k end
trees_join cells at mid end zero n k a b e =
    let same : n ≡ k = omega arith in
    subst (λ x. TreesTo cells x k end) (sym a) (subst (λ x. TreesTo cells mid x end) same b)
trees_join cells at mid end (suc m) n k a b e =
    let same : suc (m + n) ≡ k = omega arith in
    subst (λ x. TreesTo cells at x end) same (a.0, a.1, a.2, trees_join cells (at + size a.0) mid end m n (m + n) a.3 b (omega arith))

-- each tree has a cell
pub trees_few : (cells : List Cell) (at end n : ℕ) → TreesTo cells at n end → at + n ≤ end
trees_few cells at end zero a = omega arith
trees_few cells at end (suc n) a = omega (arith, size_pos a.0, trees_few cells (at + size a.0) end n a.3)

pub trees_within : (cells : List Cell) (at end n : ℕ) → TreesTo cells at n end → 0 < n → end ≤ length cells
trees_within cells at end zero a p = absurd (omega arith)
trees_within cells at end (suc zero) a p = omega (arith, a.1.within)
trees_within cells at end (suc (suc n)) a p = trees_within cells (at + size a.0) end (suc n) a.3 (omega arith)

-- the first of them
pub record First (cells : List Cell) (at n end : ℕ) : Type 0 where
  pub tree : Tree
  pub here : Lies cells at tree
  pub high : height tree ≤ 16
  pub behind : (m : ℕ) → m + 1 ≡ n → TreesTo cells (at + size tree) m end

pub first : (cells : List Cell) (at n end : ℕ) → TreesTo cells at n end → 0 < n → First cells at n end
first cells at zero end a p = absurd (omega arith)
first cells at (suc n) end a p =
    record {
      tree = a.0;
      here = a.1;
      high = a.2;
      behind = λ m e. let same : n ≡ m = omega arith in subst (λ x. TreesTo cells (at + size a.0) x end) same a.3;
    }

-- behind a first tree, the other trees of the row
pub trees_behind : (cells : List Cell) (row other : Row) (end : ℕ) → EndsAt cells row end → 0 < row.count → ((t : Tree) → Lies cells row.at t → other.at ≡ row.at + size t) → other.count + 1 ≡ row.count → EndsAt cells other end
trees_behind cells row other end a p place fewer =
    let f = first cells row.at row.count end a p in
    subst (λ x. TreesTo cells x other.count end) (sym (place f.tree f.here)) (f.behind other.count fewer)

-- the children of a node, from one on
pub children_to : {cells : List Cell} {target : ℕ} {t : Tree} (a : Lies cells target t) → height t ≤ 16 → (n j : ℕ) (row : Row) → From target (kids t) j row → row.count ≡ n → TreesTo cells row.at n (target + size t)
children_to {cells} {target} {t} a h zero j row k e =
    let all : j ≡ count (kids t) = omega (arith, k.count_is) in
    omega (arith, k.at_is, ap (λ i. before i (kids t)) all, before_all (kids t), size_is t)
children_to {cells} {target} {t} a h (suc n) j row k e =
    let l = row_lies a k (omega arith) h in
    let other : Row = record { at = row.at + size l.0; count = n } in (
      l.0,
      l.1,
      l.2,
      children_to a h n (suc j) other (row_behind a k (omega arith) other (λ v b. ap (λ x. row.at + size x) (lies_unique l.1 b)) (omega arith)) (omega arith),
    )

-- behind a first cell, the children of its node and the other trees
pub trees_opened : (cells : List Cell) (at n end m : ℕ) (d : Cell) → TreesTo cells at n end → 0 < n → m ≡ n - 1 + (get_or cells at d).children → TreesTo cells (at + 1) m end
trees_opened cells at n end m d a p e =
    let f = first cells at n end a p in
    let t = f.tree in
    let inner = children_to f.here f.high (count (kids t)) 0 (record { at = at + 1; count = count (kids t) }) (record { at_is = omega (arith, before_first (kids t)); count_is = omega arith }) (omega arith) in
    trees_join cells (at + 1) (at + size t) end (count (kids t)) (n - 1) m inner (f.behind (n - 1) (omega arith)) (omega (arith, lies_count d f.here))

-- trees in the front lie in the whole
pub trees_beyond : (base rest : List Cell) (at n end : ℕ) → TreesTo base at n end → TreesTo (base ++ rest) at n end
trees_beyond base rest at zero end a = a
trees_beyond base rest at (suc n) end a = (a.0, lies_beyond rest a.1, a.2, trees_beyond base rest (at + size a.0) n end a.3)

-- sound children
pub sound_to : (base : List Cell) (levels at : ℕ) (g : Forest) → LieAll base at g → each (sound levels) g ≡ true → levels ≤ 16 → TreesTo base at (count g) (at + sizes g)
sound_to base levels at empty a s h = omega arith
sound_to base levels at (more l t g) a s h =
    let p = and_parts (sound levels t) (each (sound levels) g) s in
    let end : at + size t + sizes g ≡ at + (size t + sizes g) = omega arith in (
      t,
      lie_first a,
      omega (arith, sound_height levels t p.0),
      subst (λ x. TreesTo base (at + size t) (count g) x) end (sound_to base levels (at + size t) g (lie_rest a) p.1 h),
    )
