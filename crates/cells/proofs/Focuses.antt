-- The node to which a path leads, in the cells of its tree: those before it and those behind it, and what a change of the node makes of them.
use Rattle.std.proofs.Common.{◌≡◌, ℕ, zero, suc, ◌+◌, ◌<◌, ◌≤◌, List, [], ◌∷◌, ◌++◌, length, get_or, drop, set, Some, sym, refl, ap, ◌∙◌, subst, append_assoc, add-one, arith, length-append, drop-drop, drop_at}
use Rattle.std.proofs.lemmas.List.{append-nil, drop-set}
use Rattle.trees.specs.Name.{Name}
use Rattle.trees.specs.Tree.{Tree, node, Forest, empty, more, count, size, sizes, at}
use Rattle.trees.specs.Place.{find, change_at, change_in, change_children, label_at}
use Rattle.cells.specs.Layout.{encode, encodes, cell_of, kids, Lies, before, far, label_in, with_label}
use Rattle.cells.specs.declared.types.Cell.{Cell}
use Rattle.cells.proofs.Layouts.{length-encode, lies_kids, lie_at, before_first, first_cell}
use Rattle.cells.proofs.Paths.{stepped, far_step}
use Rattle.cells.proofs.Changes.{count_change, kids_changed}
use Rattle.cells.proofs.Swaps.{Swap, among}

-- the cells before the node u to which the path leads, and those behind it; a change of the node changes no other
pub record Focus (path : List ℕ) (l : Name) (t u : Tree) : Type 0 where
  pub pre : List Cell
  pub post : List Cell
  pub whole : encode l t ≡ pre ++ (encode (label_in l (Some t) path) u ++ post)
  pub changed : (g : Tree → Tree) → encode l (change_in path g t) ≡ pre ++ (encode (label_in l (Some t) path) (g u) ++ post)
  pub far : length pre ≡ far (Some t) path

pub focus : (path : List ℕ) (l : Name) (t : Tree) {u : Tree} → find (Some t) path ≡ Some u → Focus path l t u
focus [] l t {u} e =
    let k : t ≡ u = cc in
    record { pre = []; post = []; whole = sym (append-nil (encode l t)) ∙ ap (λ v. encode l v ++ []) k; changed = λ g. sym (append-nil (encode l (g t))) ∙ ap (λ v. encode l (g v) ++ []) k; far = refl }
focus (i ∷ path) l (node h f) {u} e =
    let s = stepped i path (node h f) u e in
    let m = label_at i f in
    let r = focus path m s.child s.on in
    let a = among f i s.is in
    let x : Cell = cell_of l (node h f) in
    let z : label_in m (Some s.child) path ≡ label_in m (at i f) path = ap (λ o. label_in m o path) (sym s.is) in
    let shape : (v : Tree) → a.pre ++ ((r.pre ++ (encode (label_in m (Some s.child) path) v ++ r.post)) ++ a.post) ≡ (a.pre ++ r.pre) ++ (encode (label_in m (at i f) path) v ++ (r.post ++ a.post)) =
    λ v. ap (λ n. a.pre ++ ((r.pre ++ (encode n v ++ r.post)) ++ a.post)) z ∙ simp append_assoc in
    record {
      pre = x ∷ (a.pre ++ r.pre);
      post = r.post ++ a.post;
      whole = ap (λ k. x ∷ k) (a.whole ∙ ap (λ k. a.pre ++ (k ++ a.post)) r.whole ∙ shape u);
      changed = λ g. ap (λ n. record { label = l; head = h; children = n } ∷ encodes (change_at i (change_in path g) f)) (count_change (change_in path g) f i)
          ∙ ap (λ k. x ∷ k) (a.changed (change_in path g) ∙ ap (λ k. a.pre ++ (k ++ a.post)) (r.changed g) ∙ shape (g u));
      far = omega (arith, length-append a.pre r.pre, a.far, r.far, far_step i path (node h f) s.child s.is);
    }

-- a tree at a position, and the node to which a path leads from there
pub lies_find : {cells : List Cell} {pos : ℕ} {t u : Tree} (path : List ℕ) → Lies cells pos t → find (Some t) path ≡ Some u → Lies cells (pos + far (Some t) path) u
lies_find {cells} {pos} {t} {u} path a e = go path pos t a e
  where
    go : (path : List ℕ) (pos : ℕ) (t : Tree) → Lies cells pos t → find (Some t) path ≡ Some u → Lies cells (pos + far (Some t) path) u
    go [] pos t a e =
        let k : t ≡ u = cc in
        let n : pos ≡ pos + 0 = omega arith in
        subst (λ n. Lies cells n u) n (subst (λ v. Lies cells pos v) k a)
    go (i ∷ path) pos t a e =
        let s = stepped i path t u e in
        let n : pos + 1 + before i (kids t) + far (Some s.child) path ≡ pos + far (Some t) (i ∷ path) = omega (arith, far_step i path t s.child s.is) in
        subst (λ n. Lies cells n u) n (go path (pos + 1 + before i (kids t)) s.child (lie_at (pos + 1) (kids t) i (lies_kids t a) s.is) s.on)

-- what stands from the node on
pub find_drop : (cells : List Cell) (pos : ℕ) (path : List ℕ) (l : Name) (t : Tree) (rest : List Cell) {u : Tree} → drop pos cells ≡ encode l t ++ rest → (e : find (Some t) path ≡ Some u) → drop (pos + far (Some t) path) cells ≡ encode (label_in l (Some t) path) u ++ ((focus path l t e).post ++ rest)
find_drop cells pos path l t rest {u} k e =
    let r = focus path l t e in
    let w : drop pos cells ≡ r.pre ++ (encode (label_in l (Some t) path) u ++ (r.post ++ rest)) = k ∙ ap (λ x. x ++ rest) r.whole ∙ simp append_assoc in
    sym (drop-drop (far (Some t) path) pos cells) ∙ ap (drop (far (Some t) path)) w ∙ drop_at r.pre _ (far (Some t) path) r.far

-- the node's cell
pub find_cell : (cells : List Cell) (pos : ℕ) (path : List ℕ) (l : Name) (t : Tree) (rest : List Cell) (d : Cell) {u : Tree} → drop pos cells ≡ encode l t ++ rest → find (Some t) path ≡ Some u → get_or cells (pos + far (Some t) path) d ≡ cell_of (label_in l (Some t) path) u
find_cell cells pos path l t rest d {u} k e = first_cell cells (pos + far (Some t) path) (label_in l (Some t) path) u _ d (find_drop cells pos path l t rest k e)

-- the node lies within its tree, and so does the place of a child in the node
pub size_find : (path : List ℕ) (t : Tree) {u : Tree} → find (Some t) path ≡ Some u → far (Some t) path + size u ≤ size t
size_find path t {u} e =
    let r = focus path [] t e in
    let m = label_in [] (Some t) path in
    omega (arith, length-encode [] t, ap length r.whole, length-append r.pre (encode m u ++ r.post), length-append (encode m u) r.post, length-encode m u, r.far)

pub before_within : (f : Forest) (i : ℕ) → before i f ≤ sizes f
before_within empty zero = omega arith
before_within empty (suc i) = omega arith
before_within (more l t f) zero = omega arith
before_within (more l t f) (suc i) = omega (arith, before_within f i)

pub place_within : (u : Tree) (i : ℕ) → 1 + before i (kids u) ≤ size u
place_within (node h f) i = omega (arith, before_within f i)

-- the place behind a child, and behind the last
pub before_next : (f : Forest) (i : ℕ) {v : Tree} → at i f ≡ Some v → before (i + 1) f ≡ before i f + size v
before_next f i {v} e = ap (λ n. before n f) (add-one i) ∙ go f i e
  where
    go : (f : Forest) (i : ℕ) → at i f ≡ Some v → before (suc i) f ≡ before i f + size v
    go empty i e = absurd (let z : ◌≡◌ {A = ℕ} 0 1 = cc in omega arith)
    go (more l t f) zero e = let k : t ≡ v = cc in omega (arith, ap size k, before_first f)
    go (more l t f) (suc i) e = omega (arith, go f i e)

pub before_all : (f : Forest) → before (count f) f ≡ sizes f
before_all empty = refl
before_all (more l t f) = ap (λ n. size t + n) (before_all f)

-- a node with other children, or another head: the cells up to the node, its own, those up to the place i among its children, and there new ones for old ones
pub record Replaced (path : List ℕ) (l : Name) (t t' u u' : Tree) (i : ℕ) (old new : List Cell) : Type 0 where
  pub p : List Cell
  pub a : List Cell
  pub b : List Cell
  pub whole : encode l t ≡ p ++ (cell_of (label_in l (Some t) path) u ∷ (a ++ (old ++ b)))
  pub changed : encode l t' ≡ p ++ (cell_of (label_in l (Some t) path) u' ∷ (a ++ (new ++ b)))
  pub node : length p ≡ far (Some t) path
  pub place : length a ≡ before i (kids u)

-- a tree's cells are its root's and its children's
encode_is : (l : Name) (u : Tree) → encode l u ≡ cell_of l u ∷ encodes (kids u)
encode_is l (node h f) = refl

pub replaced : (g : Tree → Tree) (path : List ℕ) (l : Name) (t : Tree) {u : Tree} (u' : Tree) {i : ℕ} {old new : List Cell} → find (Some t) path ≡ Some u → g u ≡ u' → Swap (kids u) (kids u') i old new → Replaced path l t (change_in path g t) u u' i old new
replaced g path l t {u} u' {i} {old} {new} e k s =
    let r = focus path l t e in
    let m = label_in l (Some t) path in
    record {
      p = r.pre;
      a = s.pre;
      b = s.post ++ r.post;
      whole = r.whole ∙ ap (λ x. r.pre ++ (x ++ r.post)) (encode_is m u ∙ ap (λ x. cell_of m u ∷ x) s.whole) ∙ ap (λ x. r.pre ++ (cell_of m u ∷ x)) (simp append_assoc);
      changed = r.changed g ∙ ap (λ x. r.pre ++ (encode m x ++ r.post)) k ∙ ap (λ x. r.pre ++ (x ++ r.post)) (encode_is m u' ∙ ap (λ x. cell_of m u' ∷ x) s.changed) ∙ ap (λ x. r.pre ++ (cell_of m u' ∷ x)) (simp append_assoc);
      node = r.far;
      place = s.far;
    }

-- the same of a change of the children alone
pub replaced_kids : (k : Forest → Forest) (path : List ℕ) (l : Name) (t : Tree) {u : Tree} {i : ℕ} {old new : List Cell} → find (Some t) path ≡ Some u → Swap (kids u) (k (kids u)) i old new → Replaced path l t (change_in path (change_children k) t) u (change_children k u) i old new
replaced_kids k path l t {u} {i} {old} {new} e s =
    replaced (change_children k) path l t (change_children k u) e refl (subst (λ f. Swap (kids u) f i old new) (sym (kids_changed k u)) s)

-- a tree's first cell is written with another label
pub relabelled : (m : Name) (xs : List Cell) (pos : ℕ) (l : Name) (t : Tree) (rest : List Cell) (d : Cell) → pos < length xs → drop pos xs ≡ encode l t ++ rest → drop pos (set xs pos (with_label (get_or xs pos d) m)) ≡ encode m t ++ rest
relabelled m xs pos l (node h f) rest d k e =
    drop-set xs pos _ k
    ∙ ap (λ (x : Cell). with_label x m ∷ drop (pos + 1) xs) (first_cell xs pos l (node h f) rest d e)
    ∙ ap (λ r. cell_of m (node h f) ∷ r) (sym (drop-drop 1 pos xs) ∙ ap (drop 1) e)
