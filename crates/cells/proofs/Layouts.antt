-- Trees that lie in cells: there is one at most at a position, and what stands in its first cell, in its children's and behind them.
use Rattle.std.proofs.Common.{◌≡◌, ℕ, zero, suc, ◌+◌, ◌<◌, ◌≤◌, max, List, ◌++◌, length, get_or, drop, Some, None, sym, refl, ap, ◌∙◌, subst, append_assoc, arith, length-append, length-drop, get_or-drop, drop-drop}
use lib.Seq.{drop-append_seam}
use Rattle.trees.specs.Name.{Name}
use Rattle.trees.specs.Tree.{Tree, node, Forest, empty, more, count, size, sizes, height, heights, at}
use Rattle.cells.specs.Layout.{encode, encodes, cell_of, kids, Lies, LieAll, before, root}
use Rattle.cells.specs.declared.types.Cell.{Cell}

-- a tree has as many cells as nodes
mutual
  pub length-encode : (l : Name) (t : Tree) → length (encode l t) ≡ size t
  length-encode l (node h f) = omega (arith, length-encodes f)

  pub length-encodes : (f : Forest) → length (encodes f) ≡ sizes f
  length-encodes empty = refl
  length-encodes (more l t f) = omega (arith, length-append (encode l t) (encodes f), length-encode l t, length-encodes f)

pub size_pos : (t : Tree) → 0 < size t
size_pos (node h f) = omega arith

pub height_pos : (t : Tree) → 0 < height t
height_pos (node h f) = omega arith

-- two trees that begin the same cells are one, under one label
abbrev Both : Name → Tree → List Cell → Name → Tree → List Cell → Type 0
Both l t r m u s = (l ≡ m) × (t ≡ u) × (r ≡ s)

abbrev BothAll : Forest → List Cell → Forest → List Cell → Type 0
BothAll f r g s = (f ≡ g) × (r ≡ s)

mutual
  pub unique : (l m : Name) (t u : Tree) (r s : List Cell) → encode l t ++ r ≡ encode m u ++ s → Both l t r m u s
  unique l m (node h f) (node k g) r s e =
      let c : ◌≡◌ {A = Cell} (record { label = l; head = h; children = count f }) (record { label = m; head = k; children = count g }) = cc in
      let w = unique_all f g r s (ap (λ (v : Cell). v.children) c) (cc) in
      let q : h ≡ k = ap (λ (v : Cell). v.head) c in
      let z = w.0 in
      (ap (λ (v : Cell). v.label) c, (cc), w.1)

  pub unique_all : (f g : Forest) (r s : List Cell) → count f ≡ count g → encodes f ++ r ≡ encodes g ++ s → BothAll f r g s
  unique_all empty empty r s n e = (refl, e)
  unique_all empty (more m u g) r s n e = absurd (omega arith)
  unique_all (more l t f) empty r s n e = absurd (omega arith)
  unique_all (more l t f) (more m u g) r s n e =
      let e' : encode l t ++ (encodes f ++ r) ≡ encode m u ++ (encodes g ++ s) = sym (append_assoc (encode l t) (encodes f) r) ∙ e ∙ append_assoc (encode m u) (encodes g) s in
      let a = unique l m t u (encodes f ++ r) (encodes g ++ s) e' in
      let b = unique_all f g r s (omega arith) a.2 in
      let v = a.0 in
      let w = a.1 in
      let z = b.0 in
      (cc, b.1)

-- the facts on bounds follow from the rest
pub lies : {cells : List Cell} {at : ℕ} {t : Tree} (label : Name) (rest : List Cell) → drop at cells ≡ encode label t ++ rest → Lies cells at t
lies {cells} {at} {t} label rest e =
    let n = ap length e in
    let k : at + size t ≤ length cells = omega (arith, size_pos t, length-append (encode label t) rest, length-encode label t, length-drop at cells) in
    record { label = label; rest = rest; is = e; begins = omega (arith, size_pos t); within = k }

pub lies_unique : {cells : List Cell} {at : ℕ} {t u : Tree} → Lies cells at t → Lies cells at u → t ≡ u
lies_unique {t} {u} a b = (unique a.label b.label t u a.rest b.rest (sym a.is ∙ b.is)).1

pub lie_all_unique : {cells : List Cell} {at : ℕ} {f g : Forest} → LieAll cells at f → LieAll cells at g → count f ≡ count g → f ≡ g
lie_all_unique {f} {g} a b n = (unique_all f g a.rest b.rest n (sym a.is ∙ b.is)).0

-- the children of a tree, the first of a row of trees, and the others
pub lies_kids : {cells : List Cell} {at : ℕ} (t : Tree) → Lies cells at t → LieAll cells (at + 1) (kids t)
lies_kids {cells} {at} (node h f) a = record { rest = a.rest; is = sym (drop-drop 1 at cells) ∙ ap (drop 1) a.is; within = omega arith }

pub lie_first : {cells : List Cell} {at : ℕ} {l : Name} {t : Tree} {f : Forest} → LieAll cells at (more l t f) → Lies cells at t
lie_first {l} {t} {f} a = lies l (encodes f ++ a.rest) (a.is ∙ append_assoc (encode l t) (encodes f) a.rest)

pub lie_rest : {cells : List Cell} {at : ℕ} {l : Name} {t : Tree} {f : Forest} → LieAll cells at (more l t f) → LieAll cells (at + size t) f
lie_rest {cells} {at} {l} {t} {f} a =
    let e : drop at cells ≡ encode l t ++ (encodes f ++ a.rest) = a.is ∙ append_assoc (encode l t) (encodes f) a.rest in
    record {
      rest = a.rest;
      is = ap (λ n. drop (at + n) cells) (sym (length-encode l t)) ∙ sym (drop-drop (length (encode l t)) at cells) ∙ ap (drop (length (encode l t))) e ∙ drop-append_seam (encode l t) (encodes f ++ a.rest);
      within = omega arith;
    }

-- a tree's first cell
pub first_cell : (cells : List Cell) (pos : ℕ) (l : Name) (t : Tree) (rest : List Cell) (d : Cell) → drop pos cells ≡ encode l t ++ rest → get_or cells pos d ≡ cell_of l t
first_cell cells pos l (node h f) rest d e = ap (λ n. get_or cells n d) (omega arith) ∙ sym (get_or-drop pos cells 0 d) ∙ ap (λ xs. get_or xs 0 d) e

pub lies_cell : {cells : List Cell} {at : ℕ} {t : Tree} (d : Cell) → (a : Lies cells at t) → get_or cells at d ≡ cell_of a.label t
lies_cell {cells} {at} {t} d a = first_cell cells at a.label t a.rest d a.is

pub cell_count : (l : Name) (t : Tree) → (cell_of l t).children ≡ count (kids t)
cell_count l (node h f) = refl

pub cell_label : (l : Name) (t : Tree) → (cell_of l t).label ≡ l
cell_label l (node h f) = refl

pub cell_head : (l : Name) (t : Tree) → (cell_of l t).head ≡ root t
cell_head l (node h f) = refl

pub lies_count : {cells : List Cell} {at : ℕ} {t : Tree} (d : Cell) → Lies cells at t → (get_or cells at d).children ≡ count (kids t)
lies_count {t} d a = ap (λ (x : Cell). x.children) (lies_cell d a) ∙ cell_count a.label t

pub lies_label : {cells : List Cell} {at : ℕ} {t : Tree} (d : Cell) → (a : Lies cells at t) → (get_or cells at d).label ≡ a.label
lies_label {t} d a = ap (λ (x : Cell). x.label) (lies_cell d a) ∙ cell_label a.label t

pub lies_head : {cells : List Cell} {at : ℕ} {t : Tree} (d : Cell) → Lies cells at t → (get_or cells at d).head ≡ root t
lies_head {t} d a = ap (λ (x : Cell). x.head) (lies_cell d a) ∙ cell_head a.label t

-- the child at a position
pub lie_at : {cells : List Cell} (pos : ℕ) (f : Forest) (i : ℕ) {u : Tree} → LieAll cells pos f → at i f ≡ Some u → Lies cells (pos + before i f) u
lie_at pos empty i {u} a e = absurd (let z : ◌≡◌ {A = ℕ} 0 1 = cc in omega arith)
lie_at {cells} pos (more l t f) zero {u} a e =
    let k : t ≡ u = cc in
    let n : pos ≡ pos + 0 = omega arith in
    subst (λ n. Lies cells n u) n (subst (λ v. Lies cells pos v) k (lie_first a))
lie_at {cells} pos (more l t f) (suc i) {u} a e =
    let h = lie_at (pos + size t) f i (lie_rest a) e in
    let n : pos + size t + before i f ≡ pos + (size t + before i f) = omega arith in
    subst (λ n. Lies cells n u) n h

pub height_at : (f : Forest) (i : ℕ) {u : Tree} → at i f ≡ Some u → height u ≤ heights f
height_at empty i e = absurd (let z : ◌≡◌ {A = ℕ} 0 1 = cc in omega arith)
height_at (more l t f) zero {u} e = let k : t ≡ u = cc in omega (arith, ap height k)
height_at (more l t f) (suc i) e = omega (arith, height_at f i e)

pub at_there : (f : Forest) (i : ℕ) → i < count f → (u : Tree) × (at i f ≡ Some u)
at_there empty i h = absurd (omega arith)
at_there (more l t f) zero h = (t, refl)
at_there (more l t f) (suc i) h = at_there f i (omega arith)

pub at_past : (f : Forest) (i : ℕ) → count f ≤ i → at i f ≡ None
at_past empty i h = refl
at_past (more l t f) zero h = absurd (omega arith)
at_past (more l t f) (suc i) h = at_past f i (omega arith)

-- a node's numbers by its children's
pub size_is : (t : Tree) → size t ≡ sizes (kids t) + 1
size_is (node h f) = omega arith

pub height_is : (t : Tree) → height t ≡ heights (kids t) + 1
height_is (node h f) = omega arith

pub none_left : (f : Forest) → count f ≤ 0 → f ≡ empty
none_left empty h = refl
none_left (more l t f) h = absurd (omega arith)

pub before_first : (f : Forest) → before 0 f ≡ 0
before_first empty = refl
before_first (more l t f) = refl

count_sizes : (f : Forest) → count f ≤ sizes f
count_sizes empty = omega arith
count_sizes (more l t f) = omega (arith, count_sizes f, size_pos t)

-- a node has fewer children than its tree has nodes
pub count_size : (t : Tree) → count (kids t) < size t
count_size (node h f) = omega (arith, count_sizes f)

-- the first of a row of trees that is not empty, and the others
pub record Next (cells : List Cell) (pos : ℕ) (f : Forest) : Type 0 where
  pub first : Tree
  pub others : Forest
  pub here : Lies cells pos first
  pub is : f ≡ more here.label first others
  pub there : LieAll cells (pos + size first) others
  pub fewer : count f ≡ count others + 1
  pub room : sizes f ≡ size first + sizes others
  pub low : height first ≤ heights f
  pub tallest : heights f ≡ max (height first) (heights others)
  pub others_low : heights others ≤ heights f
  pub skips : (k : ℕ) → before (suc k) f ≡ size first + before k others

pub next : {cells : List Cell} {pos : ℕ} {f : Forest} → LieAll cells pos f → 0 < count f → Next cells pos f
unfolding lie_first lies
next {cells} {pos} {f} a h = go f a h
  where
    go : (f : Forest) → LieAll cells pos f → 0 < count f → Next cells pos f
    go empty a h = absurd (omega arith)
    go (more l u g) a h =
        record {
          first = u;
          others = g;
          here = lie_first a;
          is = refl;
          there = lie_rest a;
          fewer = omega arith;
          room = refl;
          low = omega arith;
          tallest = refl;
          others_low = omega arith;
          skips = λ k. refl;
        }
