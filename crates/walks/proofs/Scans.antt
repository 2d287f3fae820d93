-- Going through rows of children by their names.
use Rattle.std.proofs.Common.{◌≡◌, ℕ, ◌<◌, ◌≤◌, Bool, true, false, List, Some, None, sym, refl, ap, ◌∙◌, subst, inl, inr, arith}
use Rattle.std.proofs.lemmas.Bool.{and_parts}
use Rattle.names.specs.Names.{same_name}
use Rattle.trees.specs.Name.{Name, absent, distinct}
use Rattle.trees.specs.Tree.{Tree, Forest, empty, more, labels, under}
use Rattle.trees.proofs.Names.{same_name_same, same_name_refl, same_name_comm, absent_head, absent_tail}
use Rattle.cells.specs.Children.{IsKept}
use Rattle.cells.specs.declared.types.Cell.{Cell}
use Rattle.cells.specs.declared.rows.Row.{Row}
use Rattle.cells.proofs.Layouts.{none_left}
use Rattle.cells.proofs.Searches.{kept_unique, under_here, under_past}
use Rattle.walks.specs.Seeking.{Behind, There}

-- what `label` and `rest` answer
abbrev pub Labels : List Cell → Row → Name → Type 0
Labels cells row l = (n : Name) (t : Tree) (f : Forest) → IsKept cells row (more n t f) → l ≡ n

abbrev pub Rests : List Cell → Row → Row → Type 0
Rests cells row r = (n : Name) (t : Tree) (f : Forest) → IsKept cells row (more n t f) → IsKept cells r f

pub both_ways : {X : Type 0} (b : Bool) → b ≡ true → b ≡ false → X
both_ways b t f = absurd (let z : ◌≡◌ {A = ℕ} 0 1 = cc in omega arith)

-- the last children: all of them, or fewer
pub behind_all : (f : Forest) → Behind f f
behind_all empty = refl
behind_all (more l t f) = inl refl

pub behind_rest : (f : Forest) (l : Name) (t : Tree) (g : Forest) → Behind f (more l t g) → Behind f g
behind_rest empty l t g b = absurd (let z : ◌≡◌ {A = ℕ} 0 1 = cc in omega arith)
behind_rest (more k u f) l t g (inl e) = let z : f ≡ g = cc in inr (subst (λ (x : Forest). Behind f x) z (behind_all f))
behind_rest (more k u f) l t g (inr b) = inr (behind_rest f l t g b)

-- a name that does not stand among all does not stand among the last
absent_behind : (k : Name) (f : Forest) (l : Name) (t : Tree) (g : Forest) → Behind f (more l t g) → absent k (labels f) ≡ true → same_name k l ≡ false
absent_behind k empty l t g b e = absurd (let z : ◌≡◌ {A = ℕ} 0 1 = cc in omega arith)
absent_behind k (more j v f) l t g (inl q) e = let z : l ≡ j = cc in ap (same_name k) z ∙ absent_head k j (labels f) e
absent_behind k (more j v f) l t g (inr b) e = absent_behind k f l t g b (absent_tail k j (labels f) e)

-- where no name stands twice, the first of the last is the one under its name
behind_under : (f : Forest) (l : Name) (t : Tree) (g : Forest) → Behind f (more l t g) → distinct (labels f) ≡ true → under l f ≡ Some t
behind_under empty l t g b e = absurd (let z : ◌≡◌ {A = ℕ} 0 1 = cc in omega arith)
behind_under (more k u f) l t g (inl q) e =
    let z : l ≡ k = cc in
    let w : u ≡ t = cc in
    ap (λ (n : Name). under n (more k u f)) z ∙ under_here k k u f (more k u f) refl (same_name_refl k) ∙ ap Some w
behind_under (more k u f) l t g (inr b) e =
    let p = and_parts (absent k (labels f)) (distinct (labels f)) e in
    under_past l k u f (more k u f) refl (same_name_comm l k ∙ absent_behind k f l t g b p.0) ∙ behind_under f l t g b p.1

-- so a hit there is the first hit
pub hint_here : {cells : List Cell} {row : Row} {l : Name} → Labels cells row l → 0 < row.count → (n : Name) → same_name n l ≡ true → (f h : Forest) → IsKept cells row h → Behind f h → distinct (labels f) ≡ true → There cells n f row
hint_here el p n e f empty k b d = absurd (omega (arith, k.counted))
hint_here el p n e f (more o u g) k b d =
    let z = same_name_same n o (sym (ap (same_name n) (el o u g k)) ∙ e) in
    record { label = o; child = u; others = g; kept = k; behind = b; is = ap (λ (x : Name). under x f) z ∙ behind_under f o u g b d }

-- the search for a name: behind as many of other names
pub record Sought (cells : List Cell) (row rest : Row) (n : Name) : Type 0 where
  pub g : Forest
  pub kept_g : IsKept cells row g
  pub g_left : Forest
  pub left_g : IsKept cells rest g_left
  pub behind : Behind g g_left
  pub so_far : under n g ≡ under n g_left

pub sought_all : {cells : List Cell} {row : Row} {n : Name} (f : Forest) → IsKept cells row f → Sought cells row row n
sought_all f k = record { g = f; kept_g = k; g_left = f; left_g = k; behind = behind_all f; so_far = refl }

module _ (cells : List Cell) (row rest : Row) (n : Name) (s : Sought cells row rest n) where
  module _ (p : 0 < rest.count) (l : Name) (el : Labels cells rest l) where
    pub sought_here : same_name n l ≡ true → (g : Forest) → IsKept cells row g → There cells n g rest
    sought_here e g kept = go s.g_left s.left_g (subst (λ (f : Forest). Behind f s.g_left) (kept_unique s.kept_g kept) s.behind) (ap (under n) (kept_unique kept s.kept_g) ∙ s.so_far)
      where
        go : (left : Forest) → IsKept cells rest left → Behind g left → under n g ≡ under n left → There cells n g rest
        go empty k b so = absurd (omega (arith, k.counted))
        go (more o u left) k b so =
            record { label = o; child = u; others = left; kept = k; behind = b; is = so ∙ under_here n o u left (more o u left) refl (sym (ap (same_name n) (el o u left k)) ∙ e) }

    pub sought_on : same_name n l ≡ false → (others : Row) → Rests cells rest others → Sought cells row others n
    sought_on e others ry = go s.g_left s.left_g s.behind s.so_far
      where
        go : (left : Forest) → IsKept cells rest left → Behind s.g left → under n s.g ≡ under n left → Sought cells row others n
        go empty k b so = absurd (omega (arith, k.counted))
        go (more o u left) k b so =
            record {
              g = s.g;
              kept_g = s.kept_g;
              g_left = left;
              left_g = ry o u left k;
              behind = behind_rest s.g o u left b;
              so_far = so ∙ under_past n o u left (more o u left) refl (sym (ap (same_name n) (el o u left k)) ∙ e);
            }

  pub sought_none : rest.count ≤ 0 → (g : Forest) → IsKept cells row g → under n g ≡ None
  sought_none p g kept = ap (under n) (kept_unique kept s.kept_g) ∙ s.so_far ∙ ap (under n) (none_left s.g_left (omega (arith, s.left_g.counted)))
