-- Reading is undoing the layout: cells that spell trees hold them, and trees that lie in cells are read from there.
use Rattle.std.proofs.Common.{◌≡◌, ℕ, zero, suc, ◌+◌, ◌≤◌, true, List, [], ◌∷◌, ◌++◌, drop, sym, refl, ap, ◌∙◌, subst, append_assoc, arith}
use Rattle.std.proofs.lemmas.List.{append-nil}
use Rattle.trees.specs.Name.{Name}
use Rattle.trees.specs.Tree.{Tree, node, Forest, empty, more, count, size, sizes, height, IsSound}
use Rattle.cells.specs.Layout.{encode, encodes, cell_of, Lies}
use Rattle.cells.specs.Reading.{front, behind, roots, first_tree, first_label, tree_at, complete, StandsAt}
use Rattle.cells.specs.declared.types.Cell.{Cell}
use Rattle.cells.proofs.Layouts.{lies}

pub none_complete : {A : Type 0} (n : ℕ) → complete (suc n) [] ≡ true → A
none_complete n h = absurd (let z : ◌≡◌ {A = ℕ} 0 1 = cc in omega arith)

-- rows taken in two parts
front-none : (n : ℕ) → front n empty ≡ empty
front-none zero = refl
front-none (suc n) = refl

behind-none : (n : ℕ) → behind n empty ≡ empty
behind-none zero = refl
behind-none (suc n) = refl

behind-add : (k n : ℕ) (f : Forest) → behind (k + n) f ≡ behind n (behind k f)
behind-add zero n f = let z : 0 + n ≡ n = omega arith in rw z refl
behind-add (suc k) n empty = let z : suc k + n ≡ suc (k + n) = omega arith in rw z (sym (behind-none n))
behind-add (suc k) n (more l t f) = let z : suc k + n ≡ suc (k + n) = omega arith in rw z (behind-add k n f)

encodes-add : (k n : ℕ) (f : Forest) → encodes (front (k + n) f) ≡ encodes (front k f) ++ encodes (front n (behind k f))
encodes-add zero n f = let z : 0 + n ≡ n = omega arith in rw z refl
encodes-add (suc k) n empty = let z : suc k + n ≡ suc (k + n) = omega arith in rw z (ap encodes (sym (front-none n)))
encodes-add (suc k) n (more l t f) =
    let z : suc k + n ≡ suc (k + n) = omega arith in
    rw z (ap (λ cs. encode l t ++ cs) (encodes-add k n f) ∙ sym (append_assoc (encode l t) (encodes (front k f)) (encodes (front n (behind k f)))))

pub sizes-add : (k n : ℕ) (f : Forest) → sizes (front (k + n) f) ≡ sizes (front k f) + sizes (front n (behind k f))
sizes-add zero n f = let z : 0 + n ≡ n = omega arith in rw z (omega arith)
sizes-add (suc k) n empty = let z : suc k + n ≡ suc (k + n) = omega arith in rw z (let e = ap sizes (front-none n) in omega arith)
sizes-add (suc k) n (more l t f) = let z : suc k + n ≡ suc (k + n) = omega arith in rw z (let e = sizes-add k n f in omega arith)

count-add : (k n : ℕ) (f : Forest) → count (front (k + n) f) ≡ count (front k f) + count (front n (behind k f))
count-add zero n f = let z : 0 + n ≡ n = omega arith in rw z (omega arith)
count-add (suc k) n empty = let z : suc k + n ≡ suc (k + n) = omega arith in rw z (let e = ap count (front-none n) in omega arith)
count-add (suc k) n (more l t f) = let z : suc k + n ≡ suc (k + n) = omega arith in rw z (let e = count-add k n f in omega arith)

pub front-behind : (k n : ℕ) (f : Forest) → front n (behind k f) ≡ behind k (front (k + n) f)
front-behind zero n f = let z : 0 + n ≡ n = omega arith in rw z refl
front-behind (suc k) n empty = let z : suc k + n ≡ suc (k + n) = omega arith in rw z (front-none n)
front-behind (suc k) n (more l t f) = let z : suc k + n ≡ suc (k + n) = omega arith in rw z (front-behind k n f)

-- fewer trees end sooner
pub complete-less : (k n : ℕ) (cs : List Cell) → complete (k + n) cs ≡ true → complete k cs ≡ true
complete-less zero n cs h = refl
complete-less (suc k) n [] h = let z : suc k + n ≡ suc (k + n) = omega arith in none_complete (k + n) (rw z at h)
complete-less (suc k) n (c ∷ cs) h =
    let z : suc k + n ≡ suc (k + n) = omega arith in
    let y : c.children + (k + n) ≡ (c.children + k) + n = omega arith in
    complete-less (c.children + k) n cs (subst (λ m. complete m cs ≡ true) y (rw z at h))

-- behind the first trees the others stand
pub others : (k n : ℕ) (cs : List Cell) → complete (k + n) cs ≡ true → (complete n (drop (sizes (front k (roots cs))) cs) ≡ true) × (behind k (roots cs) ≡ roots (drop (sizes (front k (roots cs))) cs))
others zero n cs h = let z : 0 + n ≡ n = omega arith in ((rw z at h), refl)
others (suc k) n [] h = let z : suc k + n ≡ suc (k + n) = omega arith in none_complete (k + n) (rw z at h)
others (suc k) n (c ∷ cs) h =
    let z : suc k + n ≡ suc (k + n) = omega arith in
    let y : c.children + (k + n) ≡ (c.children + k) + n = omega arith in
    let p = others (c.children + k) n cs (subst (λ m. complete m cs ≡ true) y (rw z at h)) in
    let s : sizes (front (suc k) (roots (c ∷ cs))) ≡ suc (sizes (front (c.children + k) (roots cs))) = let e = sizes-add c.children k (roots cs) in omega arith in
    subst (λ m. (complete n (drop m (c ∷ cs)) ≡ true) × (behind (suc k) (roots (c ∷ cs)) ≡ roots (drop m (c ∷ cs)))) (sym s)
    (p.0, sym (behind-add c.children k (roots cs)) ∙ p.1)

-- as many trees as are asked for
pub counted : (n : ℕ) (cs : List Cell) → complete n cs ≡ true → count (front n (roots cs)) ≡ n
counted zero cs h = refl
counted (suc n) [] h = none_complete n h
counted (suc n) (c ∷ cs) h =
    let a = counted (c.children + n) cs h in
    let b = counted c.children cs (complete-less c.children n cs h) in
    let e = count-add c.children n (roots cs) in
    omega arith

-- what is read is what is written
cell_back : (c : Cell) (f : Forest) → count f ≡ c.children → cell_of c.label (node c.head f) ≡ c
cell_back c f e =
    ap (λ n. record { label = c.label; head = c.head; children = n }) e

pub written : (n : ℕ) (cs : List Cell) → complete n cs ≡ true → cs ≡ encodes (front n (roots cs)) ++ drop (sizes (front n (roots cs))) cs
written zero cs h = refl
written (suc n) [] h = none_complete n h
written (suc n) (c ∷ cs) h =
    let k = c.children in
    let f = front k (roots cs) in
    let g = front n (behind k (roots cs)) in
    let b = counted k cs (complete-less k n cs h) in
    let s = sizes-add k n (roots cs) in
    let z : suc (sizes f) + sizes g ≡ suc (sizes (front (k + n) (roots cs))) = omega arith in
    let r = drop (sizes (front (k + n) (roots cs))) cs in
    let a : cs ≡ (encodes f ++ encodes g) ++ r = written (k + n) cs h ∙ ap (λ x. x ++ r) (encodes-add k n (roots cs)) in
    ap (λ x. c ∷ x) a ∙ ap (λ x. x ∷ ((encodes f ++ encodes g) ++ r)) (sym (cell_back c f b))
    ∙ ap (λ m. ((cell_of c.label (node c.head f) ∷ encodes f) ++ encodes g) ++ drop m (c ∷ cs)) (sym z)

-- the first tree as it is written
pub first_written : (cs : List Cell) → complete 1 cs ≡ true → cs ≡ encode (first_label (roots cs)) (first_tree (roots cs)) ++ drop (size (first_tree (roots cs))) cs
first_written [] h = none_complete 0 h
first_written (c ∷ cs) h =
    let t = first_tree (roots (c ∷ cs)) in
    let z : size t + 0 ≡ size t = omega arith in
    written 1 (c ∷ cs) h ∙ ap (λ x. x ++ drop (size t + 0) (c ∷ cs)) (append-nil (encode c.label t)) ∙ ap (λ m. encode c.label t ++ drop m (c ∷ cs)) z

pub stands_lies : (cells : List Cell) (at : ℕ) → complete 1 (drop at cells) ≡ true → Lies cells at (tree_at cells at)
stands_lies cells at h = lies (first_label (roots (drop at cells))) _ (first_written (drop at cells) h)

-- what is written is read
abbrev onto : Forest → Forest → Forest
onto empty g = g
onto (more l t f) g = more l t (onto f g)

front-onto : (f g : Forest) → front (count f) (onto f g) ≡ f
front-onto empty g = refl
front-onto (more l t f) g = ap (more l t) (front-onto f g)

behind-onto : (f g : Forest) → behind (count f) (onto f g) ≡ g
behind-onto empty g = refl
behind-onto (more l t f) g = behind-onto f g

mutual
  pub roots-encode : (l : Name) (t : Tree) (r : List Cell) → roots (encode l t ++ r) ≡ more l t (roots r)
  roots-encode l (node h f) r =
      ap (λ g. more l (node h (front (count f) g)) (behind (count f) g)) (roots-encodes f r)
      ∙ ap (λ g. more l (node h g) (behind (count f) (onto f (roots r)))) (front-onto f (roots r))
      ∙ ap (λ g. more l (node h f) g) (behind-onto f (roots r))

  pub roots-encodes : (f : Forest) (r : List Cell) → roots (encodes f ++ r) ≡ onto f (roots r)
  roots-encodes empty r = refl
  roots-encodes (more l t f) r =
      ap roots (append_assoc (encode l t) (encodes f) r) ∙ roots-encode l t (encodes f ++ r) ∙ ap (λ g. more l t g) (roots-encodes f r)

mutual
  pub complete-encode : (n : ℕ) (l : Name) (t : Tree) (r : List Cell) → complete (suc n) (encode l t ++ r) ≡ complete n r
  complete-encode n l (node h f) r = complete-encodes n f r

  pub complete-encodes : (n : ℕ) (f : Forest) (r : List Cell) → complete (count f + n) (encodes f ++ r) ≡ complete n r
  complete-encodes n empty r = let z : 0 + n ≡ n = omega arith in rw z refl
  complete-encodes n (more l t f) r =
      let z : suc (count f) + n ≡ suc (count f + n) = omega arith in
      ap (λ m. complete m ((encode l t ++ encodes f) ++ r)) z ∙ ap (complete (suc (count f + n))) (append_assoc (encode l t) (encodes f) r)
      ∙ complete-encode (count f + n) l t (encodes f ++ r) ∙ complete-encodes n f r

-- a tree that lies at a position is read there
pub record Read (cells : List Cell) (at : ℕ) (l : Name) (t : Tree) : Type 0 where
  pub whole : complete 1 (drop at cells) ≡ true
  pub tree : tree_at cells at ≡ t
  pub label : first_label (roots (drop at cells)) ≡ l

pub lies_read : {cells : List Cell} {at : ℕ} {t : Tree} → (a : Lies cells at t) → Read cells at a.label t
lies_read {cells} {at} {t} a =
    let r : roots (drop at cells) ≡ more a.label t (roots a.rest) = ap roots a.is ∙ roots-encode a.label t a.rest in
    record { whole = ap (complete 1) a.is ∙ complete-encode 0 a.label t a.rest; tree = ap first_tree r; label = ap first_label r }

pub lies_stand_at : {cells : List Cell} {at : ℕ} {t : Tree} (levels : ℕ) → Lies cells at t → height t ≤ levels → StandsAt cells at levels
lies_stand_at levels a h = let r = lies_read a in record { whole = r.whole; low = omega (arith, ap height r.tree) }

-- so a sound tree that lies there gives a view of it
pub lies_sound : {cells : List Cell} {at : ℕ} {t : Tree} → Lies cells at t → IsSound t → IsSound (tree_at cells at)
lies_sound a s = subst IsSound (sym (lies_read a).tree) s
