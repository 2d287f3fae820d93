-- The trees behind the first cell, and behind the first tree.
use Rattle.std.proofs.Common.{◌≡◌, ℕ, zero, suc, ◌+◌, ◌-◌, ◌<◌, ◌≤◌, true, List, [], ◌∷◌, length, get_or, drop, Some, None, Option, sym, refl, ap, ap₂, ◌∙◌, subst, arith, drop-drop}
use Rattle.std.proofs.lemmas.List.{drop_more, drop_all}
use Rattle.std.proofs.lemmas.Bool.{and_parts}
use Rattle.trees.specs.Name.{Name}
use Rattle.trees.specs.Tree.{Tree, node, Forest, empty, more, at, count, size, sizes, labels, each, fits, sound}
use Rattle.trees.specs.Place.{find, label_at}
use Rattle.std.specs.Prelude.{IfSome}
use Rattle.trees.proofs.Changes.{sound_grow, each_mono}
use Rattle.cells.specs.Layout.{kids, before, far, label_in}
use Rattle.cells.specs.Reading.{front, behind, roots, first_tree, first_label, complete, StandsAt}
use Rattle.cells.specs.Views.{tree, label, forest, IsFirst, FirstAndRest, Cuts, TrailsIn, IsAmong, IsChildOf, IsFoundBy}
use Rattle.cells.specs.declared.types.Cell.{Cell}
use Rattle.cells.specs.declared.views.Node.{Node}
use Rattle.cells.specs.declared.views.Kids.{Kids}
use Rattle.cells.proofs.Readings.{none_complete, complete-less, others, stands_lies, counted, sizes-add, front-behind}
use Rattle.cells.proofs.Paths.{find_step, far_step, label_step}
use Rattle.cells.proofs.Sounds.{sound_height}

-- a sound tree at the front
pub record Whole (cs : List Cell) : Type 0 where
  pub whole : complete 1 cs ≡ true
  pub sane : sound 16 (first_tree (roots cs)) ≡ true

-- sound trees one after the other
pub record Rows (n : ℕ) (cs : List Cell) : Type 0 where
  pub whole : complete n cs ≡ true
  pub sane : each (sound 16) (front n (roots cs)) ≡ true

-- it stands at the first position
pub stands : (cs : List Cell) → Whole cs → StandsAt cs 0 16
stands cs w = record { whole = w.whole; low = sound_height 16 _ w.sane }

pub begins : (cs : List Cell) → complete 1 cs ≡ true → 0 < length cs
begins [] h = none_complete 0 h
begins (c ∷ cs) h = omega arith

-- the children of a sound tree
sound_kids : (t : Tree) → sound 16 t ≡ true → each (sound 16) (kids t) ≡ true
sound_kids (node h f) s =
    let p = and_parts (fits h (labels f)) (each (sound 15) f) s in
    each_mono (sound 15) (sound 16) (λ t a. sound_grow 15 16 t a (omega arith)) f p.1

pub kids_rows : (cs rest : List Cell) (d : Cell) → Whole cs → rest ≡ drop 1 cs → Rows (get_or cs 0 d).children rest
kids_rows [] rest d w e = none_complete 0 w.whole
kids_rows (c ∷ cs) rest d w e = rw e (record { whole = complete-less c.children 0 cs w.whole; sane = sound_kids (first_tree (roots (c ∷ cs))) w.sane })

pub kids_read : (cs rest : List Cell) (d : Cell) → complete 1 cs ≡ true → rest ≡ drop 1 cs → front (get_or cs 0 d).children (roots rest) ≡ kids (first_tree (roots cs))
kids_read [] rest d h e = none_complete 0 h
kids_read (c ∷ cs) rest d h e = ap (λ r. front c.children (roots r)) e

-- the first of a row, and those behind it
pub record Splits (n : ℕ) (cs rest : List Cell) : Type 0 where
  pub first : Whole cs
  pub rows : Rows (n - 1) rest
  pub is : front n (roots cs) ≡ more (first_label (roots cs)) (first_tree (roots cs)) (front (n - 1) (roots rest))
  pub behind : rest ≡ drop (sizes (front (n - (n - 1)) (roots cs))) cs

pub first_whole : (n : ℕ) (cs : List Cell) → 0 < n → Rows n cs → Whole cs
first_whole zero cs p r = absurd (omega arith)
first_whole (suc n) [] p r = none_complete n r.whole
first_whole (suc n) (c ∷ cs) p r =
    let z : suc n ≡ 1 + n = omega arith in
    record {
      whole = complete-less 1 n (c ∷ cs) (subst (λ m. complete m (c ∷ cs) ≡ true) z r.whole);
      sane = (and_parts (sound 16 (first_tree (roots (c ∷ cs)))) (each (sound 16) (front n (behind c.children (roots cs)))) r.sane).0;
    }

pub rows : (k : Kids) → Rows k.count k.cells.now
rows k = record { whole = k.whole; sane = k.sane }

first_of : (n : ℕ) (cs : List Cell) → 0 < n → Rows n cs → front n (roots cs) ≡ more (first_label (roots cs)) (first_tree (roots cs)) (behind 1 (front n (roots cs)))
first_of zero cs p r = absurd (omega arith)
first_of (suc n) [] p r = none_complete n r.whole
first_of (suc n) (c ∷ cs) p r = refl

-- a row that is not empty, by the tree at the front of its cells
pub first_read : (row : Kids) → 0 < row.count → forest row ≡ more (first_label (roots row.cells.now)) (first_tree (roots row.cells.now)) (behind 1 (forest row))
first_read row p = first_of row.count row.cells.now p (rows row)

pub splits : (n k : ℕ) (cs rest : List Cell) → 0 < n → Rows n cs → k ≡ size (first_tree (roots cs)) → rest ≡ drop k cs → Splits n cs rest
splits zero k cs rest p r e q = absurd (omega arith)
splits (suc n) k [] rest p r e q = none_complete n r.whole
splits (suc n) k (c ∷ cs) rest p r e q =
    let t = first_tree (roots (c ∷ cs)) in
    let z : suc n ≡ 1 + n = omega arith in
    let y : suc n - 1 ≡ n = omega arith in
    let x : size t + 0 ≡ k = omega arith in
    let w : suc n - (suc n - 1) ≡ 1 = omega arith in
    let o = others 1 n (c ∷ cs) (subst (λ m. complete m (c ∷ cs) ≡ true) z r.whole) in
    let v : drop (size t + 0) (c ∷ cs) ≡ rest = ap (λ m. drop m (c ∷ cs)) x ∙ sym q in
    let b : behind c.children (roots cs) ≡ roots rest = o.1 ∙ ap roots v in
    let s = and_parts (sound 16 t) (each (sound 16) (front n (behind c.children (roots cs)))) r.sane in
    record {
      first = first_whole (suc n) (c ∷ cs) p r;
      rows = rw y (record { whole = subst (λ ds. complete n ds ≡ true) v o.0; sane = subst (λ f. each (sound 16) (front n f) ≡ true) b s.1 });
      is = rw y (ap (λ f. more c.label t (front n f)) b);
      behind = rw w (sym v);
    }

-- a row that has a first is not empty
pub first_some : (row : Kids) (child : Node) → IsFirst row child → 0 < row.count
first_some row child f = omega (arith, counted row.count row.cells.now row.whole, ap count f.split)

-- what is read at the front of its cells is the first
pub read_first : (row : Kids) (child : Node) {g : Forest} → IsFirst row child → forest row ≡ more (first_label (roots row.cells.now)) (first_tree (roots row.cells.now)) g → forest row ≡ more (label child) (tree child) g
read_first row child {g} f e = e ∙ ap (λ cs. more (first_label (roots cs)) (first_tree (roots cs)) g) (sym f.cells)

-- the row is its first, and those behind it
pub first_and_rest : (row rest : Kids) (child : Node) → IsFirst row child → forest rest ≡ behind 1 (forest row) → FirstAndRest row (child, rest)
first_and_rest row rest child f e = f.split ∙ ap (more (label child) (tree child)) (sym e)

-- the first tree lies within the cells
pub first_within : (cs : List Cell) → complete 1 cs ≡ true → size (first_tree (roots cs)) ≤ length cs
first_within cs w = omega (arith, (stands_lies cs 0 w).within)

-- the last of a row, read from the row, and those behind as many
pub trails_all : (row : Kids) → TrailsIn row row
trails_all row = let z : row.count - row.count ≡ 0 = omega arith in record { fewer = omega arith; cells = rw z refl }

pub trails_read : (row rest : Kids) → TrailsIn row rest → forest rest ≡ behind (row.count - rest.count) (forest row)
trails_read row rest t =
    let k = row.count - rest.count in
    let z : row.count ≡ k + rest.count = omega (arith, t.fewer) in
    let o = others k rest.count row.cells.now (subst (λ m. complete m row.cells.now ≡ true) z row.whole) in
    ap (λ cs. front rest.count (roots cs)) t.cells ∙ ap (front rest.count) (sym o.1) ∙ front-behind k rest.count (roots row.cells.now) ∙ ap (λ m. behind k (front m (roots row.cells.now))) (sym z)

pub trails_on : (row rest last : Kids) → TrailsIn row rest → TrailsIn rest last → TrailsIn row last
trails_on row rest last t u =
    let k = row.count - rest.count in
    let j = rest.count - last.count in
    let z : row.count ≡ k + rest.count = omega (arith, t.fewer) in
    let y : row.count - last.count ≡ k + j = omega (arith, t.fewer, u.fewer) in
    let o = others k rest.count row.cells.now (subst (λ m. complete m row.cells.now ≡ true) z row.whole) in
    let cs = row.cells.now in
    let e : roots rest.cells.now ≡ behind k (roots cs) = ap roots t.cells ∙ sym o.1 in
    let s : sizes (front k (roots cs)) + sizes (front j (roots rest.cells.now)) ≡ sizes (front (row.count - last.count) (roots cs)) =
    ap (λ f. sizes (front k (roots cs)) + sizes (front j f)) e ∙ sym (sizes-add k j (roots cs)) ∙ ap (λ m. sizes (front m (roots cs))) (sym y) in
    record {
      fewer = omega (arith, t.fewer, u.fewer);
      cells =
          u.cells ∙ ap (drop (sizes (front j (roots rest.cells.now)))) t.cells
          ∙ drop-drop (sizes (front j (roots rest.cells.now))) (sizes (front k (roots cs))) cs
          ∙ ap (λ m. drop m cs) s;
    }

-- the row is what is left behind so many of the first
pub record Reaches (top : Kids) (k : ℕ) (row : Kids) : Type 0 where
  pub rows : forest row ≡ behind k (forest top)
  pub place : row.cells.now ≡ drop (before k (forest top)) top.cells.now

count_behind : (k : ℕ) (f : Forest) → k < count f → 0 < count (behind k f)
count_behind zero f h = h
count_behind (suc k) empty h = absurd (omega arith)
count_behind (suc k) (more l t f) h = count_behind k f (omega arith)

-- within the row, some are left
pub some_left : (top row : Kids) (k : ℕ) → Reaches top k row → k < top.count → 0 < row.count
some_left top row k r h =
    let n = counted top.count top.cells.now top.whole in
    let m = counted row.count row.cells.now row.whole in
    omega (arith, count_behind k (forest top) (omega arith), ap count r.rows)

before_none : (f : Forest) → before 0 f ≡ 0
before_none empty = refl
before_none (more l t f) = refl

pub reaches_all : (top : Kids) → Reaches top 0 top
reaches_all top = record { rows = refl; place = ap (λ n. drop n top.cells.now) (sym (before_none (forest top))) }

module _ (l : Name) (t : Tree) (g : Forest) where
  next_behind : (k : ℕ) (f : Forest) → behind k f ≡ more l t g → behind (suc k) f ≡ g
  next_behind zero f e = ap (behind 1) e
  next_behind (suc k) empty e = ap (behind 1) e
  next_behind (suc k) (more m u f) e = next_behind k f e

  next_before : (k : ℕ) (f : Forest) → behind k f ≡ more l t g → before (suc k) f ≡ before k f + size t
  next_before zero f e = ap (before 1) e ∙ (let z = before_none g in omega arith) ∙ ap (λ n. n + size t) (sym (before_none f))
  next_before (suc k) empty e = absurd (omega (arith, ap count e))
  next_before (suc k) (more m u f) e = let z = next_before k f e in omega arith

  pub at_behind : (k : ℕ) (f : Forest) → behind k f ≡ more l t g → at k f ≡ Some t
  at_behind zero f e = ap (at 0) e
  at_behind (suc k) empty e = ap (at 0) e
  at_behind (suc k) (more m u f) e = at_behind k f e

  label_behind : (k : ℕ) (f : Forest) → behind k f ≡ more l t g → label_at k f ≡ l
  label_behind zero f e = ap (label_at 0) e
  label_behind (suc k) empty e = ap (label_at 0) e
  label_behind (suc k) (more m u f) e = label_behind k f e

pub past_behind : (k j : ℕ) (f : Forest) → behind k f ≡ empty → at (k + j) f ≡ None
past_behind zero j f e = let z : 0 + j ≡ j = omega arith in ap (λ n. at n f) z ∙ ap (at j) e
past_behind (suc k) j empty e = refl
past_behind (suc k) j (more m u f) e = let z : suc k + j ≡ suc (k + j) = omega arith in ap (λ n. at n (more m u f)) z ∙ past_behind k j f e

-- the first of the row, and those behind it
module _ (top row : Kids) (k : ℕ) (p : Node × Kids) (r : Reaches top k row) (e : forest row ≡ more (label p.0) (tree p.0) (forest p.1)) (c : Cuts row p) where
  pub reaches_on : Reaches top (k + 1) p.1
  reaches_on =
      let y : suc k ≡ k + 1 = omega arith in
      let z = next_before (label p.0) (tree p.0) (forest p.1) k (forest top) (sym r.rows ∙ e) in
      subst (λ n. Reaches top n p.1) y
      (record {
        rows = sym (next_behind (label p.0) (tree p.0) (forest p.1) k (forest top) (sym r.rows ∙ e));
        place =
            c.rest ∙ ap (drop (size (tree p.0))) r.place ∙ drop-drop (size (tree p.0)) (before k (forest top)) top.cells.now
            ∙ ap (λ n. drop n top.cells.now) (sym z);
      })

-- the first of the row alone
module _ (top row : Kids) (k : ℕ) (r : Reaches top k row) (h : k < top.count) where
  some_first : behind k (forest top) ≡ more (first_label (roots row.cells.now)) (first_tree (roots row.cells.now)) (behind 1 (forest row))
  some_first = sym r.rows ∙ first_read row (some_left top row k r h)

  pub reached_child : at k (forest top) ≡ Some (first_tree (roots row.cells.now))
  reached_child = at_behind (first_label (roots row.cells.now)) (first_tree (roots row.cells.now)) (behind 1 (forest row)) k (forest top) some_first

  pub reached_name : first_label (roots row.cells.now) ≡ label_at k (forest top)
  reached_name = sym (label_behind (first_label (roots row.cells.now)) (first_tree (roots row.cells.now)) (behind 1 (forest row)) k (forest top) some_first)

-- a node's child, from its row
pub child_of_row : (parent : Node) (row : Kids) (i : ℕ) (child : Node) → forest row ≡ kids (tree parent) → row.cells.now ≡ drop 1 parent.cells.now → IsAmong row i child → IsChildOf parent i child
child_of_row parent row i child e p a =
    record {
      name = a.name ∙ ap (label_at i) e;
      place =
          a.place ∙ ap₂ (λ f cs. drop (before i f) cs) e p
          ∙ drop-drop (before i (kids (tree parent))) 1 parent.cells.now;
    }

pub child_if_some : (parent : Node) (row : Kids) (i : ℕ) (o : Option Node) → forest row ≡ kids (tree parent) → row.cells.now ≡ drop 1 parent.cells.now → IfSome o (IsAmong row i) → IfSome o (IsChildOf parent i)
child_if_some parent row i None e p a = tt
child_if_some parent row i (Some child) e p a = child_of_row parent row i child e p a

-- the node to which the first steps of a path lead
pub record Leads (top : Node) (path : List ℕ) (k : ℕ) (at : Node) : Type 0 where
  pub on : find (Some (tree at)) (drop k path) ≡ find (Some (tree top)) path
  pub name : label_in (label at) (Some (tree at)) (drop k path) ≡ label_in (label top) (Some (tree top)) path
  pub place : drop (far (Some (tree at)) (drop k path)) at.cells.now ≡ drop (far (Some (tree top)) path) top.cells.now

pub leads_none : (top : Node) (path : List ℕ) → Leads top path 0 top
leads_none top path = record { on = refl; name = refl; place = refl }

-- it leads on to a child
pub leads_on : (top : Node) (path : List ℕ) (k : ℕ) (n child : Node) → k < length path → at (get_or path k 0) (kids (tree n)) ≡ Some (tree child) → IsChildOf n (get_or path k 0) child → Leads top path k n → Leads top path (k + 1) child
leads_on top path k n child h a c l =
    let i = get_or path k 0 in
    let rest = drop (k + 1) path in
    let e : drop k path ≡ i ∷ rest = drop_more path k 0 h in
    let u = tree n in
    let v = tree child in
    let w : 1 + before i (kids u) + far (Some v) rest ≡ far (Some u) (drop k path) = omega (arith, far_step i rest u v a, ap (far (Some u)) e) in
    record {
      on = sym (find_step i rest u (Some v) a) ∙ sym (ap (find (Some u)) e) ∙ l.on;
      name = ap (λ m. label_in m (Some v) rest) c.name ∙ sym (label_step i rest (label n) u v a) ∙ sym (ap (label_in (label n) (Some u)) e) ∙ l.name;
      place =
          ap (drop (far (Some v) rest)) c.place ∙ drop-drop (far (Some v) rest) (1 + before i (kids u)) n.cells.now
          ∙ ap (λ m. drop m n.cells.now) w ∙ l.place;
    }

pub leads_end : (top : Node) (path : List ℕ) (k : ℕ) (n : Node) → length path ≤ k → Leads top path k n → (Some (tree n) ≡ find (Some (tree top)) path) × IsFoundBy top path n
leads_end top path k n h l =
    let e : drop k path ≡ [] = drop_all k path h in (
      sym (ap (find (Some (tree n))) e) ∙ l.on,
      record {
        name = sym (ap (label_in (label n) (Some (tree n))) e) ∙ l.name;
        place = sym (ap (λ p. drop (far (Some (tree n)) p) n.cells.now) e) ∙ l.place;
      },
    )
