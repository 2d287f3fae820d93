-- How long the path of a walk's fault is, and how large the numbers of one that found no room.
use Rattle.std.proofs.Common.{◌≡◌, ℕ, zero, suc, ◌+◌, ◌-◌, ◌≤◌, eqb, leb, length, Some, None, Option, refl, arith}
use Rattle.names.specs.Names.{same_name}
use Rattle.trees.specs.declared.codes.Refusal.TheVariants as refuse
use Rattle.trees.specs.declared.codes.VariantType.{VariantType}
use Rattle.trees.specs.declared.codes.VariantType.TheVariants.{Unit as unit, Tuple as tuple_like, Struct as struct_like}
use Rattle.trees.specs.Name.{Name}
use Rattle.trees.specs.declared.head.Head.{Head}
use Rattle.trees.specs.declared.head.Head.TheVariants.{Leaf as leaf, Struct as struct, Tuple as tuple, List as list, Enum as enum}
use Rattle.trees.specs.Tree.{same_kind, Tree, node, Forest, empty, more, variant_name, under, size, sizes, most_levels}
use Rattle.trees.specs.Apply.{Ending, done, stopped, Walked, put, field_then, lay_field, apply_by_name, child_then, apply_by_place, leave, extend, within_node, if_kind, variant, apply_fields, apply_nodes, apply_within, apply}
use Rattle.trees.proofs.Names.{by_test}

-- of a walk whose fault is n levels down at most, whose patch has so many cells, and which leaves so many free
abbrev pub Modest : ℕ → ℕ → ℕ → Ending → Type 0
Modest n wanted free done = Unit {0}
Modest n wanted free (stopped x) = (length x.path ≤ n) × (x.reason ≡ refuse.Room → (x.from ≤ wanted) × (x.to ≡ free))

-- of what a walk leaves
abbrev Fair : {A : Type 0} → ℕ → ℕ → Walked A → Type 0
Fair n wanted w = Modest n wanted w.free w.ending

wider : (n a b free : ℕ) (e : Ending) → a ≤ b → Modest n a free e → Modest n b free e
wider n a b free done h m = tt
wider n a b free (stopped x) h m = (m.0, λ e. let k = m.1 e in (omega (arith, k.0), k.1))

abbrev Ask : Type 0
Ask = Tree → Tree → ℕ → Walked Tree

module _ (n : ℕ) (ask : Ask) (ih : (t p : Tree) (free : ℕ) → Fair n (size p) (ask t p free)) where
  names_fair : (i : ℕ) (f g : Forest) (free : ℕ) → Fair (suc n) (sizes g) (apply_by_name ask i f g free)
  names_fair i f empty free = tt
  names_fair i f (more l p g) free = go (under l f) (λ f' free'. names_fair (suc i) f' g free')
    where
      rest : Forest → ℕ → Walked Forest
      rest f' free' = apply_by_name ask (suc i) f' g free'

      then_fair : (f' : Forest) (free' : ℕ) (e : Ending) → Modest n (size p) free' e → ((f'' : Forest) (free'' : ℕ) → Fair (suc n) (sizes g) (rest f'' free'')) →
          Fair (suc n) (size p + sizes g) (field_then i f' free' e rest)
      then_fair f' free' done m h = wider (suc n) (sizes g) (size p + sizes g) _ (rest f' free').ending (omega arith) (h f' free')
      then_fair f' free' (stopped x) m h = (omega (arith, m.0), λ e. let k = m.1 e in (omega (arith, k.0), k.1))

      go : (o : Option Tree) → ((f'' : Forest) (free'' : ℕ) → Fair (suc n) (sizes g) (rest f'' free'')) → Fair (suc n) (size p + sizes g) (lay_field ask i l p f free o rest)
      go None h = wider (suc n) (sizes g) (size p + sizes g) _ (rest f free).ending (omega arith) (h f free)
      go (Some t) h = let w = ask t p free in then_fair (put l w.left f) w.free w.ending (ih t p free) h

  child_fair : (i : ℕ) (l : Name) (t : Tree) (f : Forest) (a b free : ℕ) (e : Ending) (rest : Walked Forest) → Modest n a free e → Fair (suc n) b rest → Fair (suc n) (a + b) (child_then i l t f free e rest)
  child_fair i l t f a b free done rest m h = wider (suc n) b (a + b) _ rest.ending (omega arith) h
  child_fair i l t f a b free (stopped x) rest m h = (omega (arith, m.0), λ e. let k = m.1 e in (omega (arith, k.0), k.1))

  extend_fair : (i : ℕ) (g : Forest) (free : ℕ) → Fair (suc n) (sizes g) (extend i g free)
  extend_fair i empty free = tt
  extend_fair i (more k p g) free =
      by_test (leb (size p) free)
      (λ q. rw q (wider (suc n) (sizes g) (size p + sizes g) _ (extend (suc i) g (free - size p)).ending (omega arith) (extend_fair (suc i) g (free - size p))))
      (λ q. rw q (omega arith, λ e. (omega arith, refl)))

  leave_fair : (i : ℕ) (g : Forest) (free : ℕ) → Fair (suc n) (sizes g) (leave i g free)
  leave_fair i g free = tt

  places_fair : (beyond : ℕ → Forest → ℕ → Walked Forest) → ((i : ℕ) (g : Forest) (free : ℕ) → Fair (suc n) (sizes g) (beyond i g free)) →
      (i : ℕ) (f g : Forest) (free : ℕ) → Fair (suc n) (sizes g) (apply_by_place ask beyond i f g free)
  places_fair beyond b i empty g free = b i g free
  places_fair beyond b i (more l t f) empty free = tt
  places_fair beyond b i (more l t f) (more k p g) free =
      let w = ask t p free in
      child_fair i l w.left f (size p) (sizes g) w.free w.ending (apply_by_place ask beyond (suc i) f g w.free) (ih t p free) (places_fair beyond b (suc i) f g w.free)

  fields_fair : (v w : VariantType) (f g : Forest) (free : ℕ) → Fair (suc n) (sizes g) (apply_fields ask v w f g free)
  fields_fair unit unit f g free = tt
  fields_fair unit tuple_like f g free = tt
  fields_fair unit struct_like f g free = tt
  fields_fair tuple_like unit f g free = tt
  fields_fair tuple_like tuple_like f g free = places_fair leave leave_fair 0 f g free
  fields_fair tuple_like struct_like f g free = tt
  fields_fair struct_like unit f g free = tt
  fields_fair struct_like tuple_like f g free = places_fair leave leave_fair 0 f g free
  fields_fair struct_like struct_like f g free = names_fair 0 f g free

  kind_fair : (h : Head) (f : Forest) (k : Head) (a free : ℕ) (w : Walked Tree) → Fair (suc n) a w → Fair (suc n) a (if_kind h f k free w)
  kind_fair h f k a free w m = by_test (same_kind h k) (λ q. rw q m) (λ q. rw q (omega arith, λ e. absurd (let z : ◌≡◌ {A = ℕ} 0 1 = cc in omega arith)))

  within_fair : (h : Head) (g : Forest) (w : Walked Forest) → Fair (suc n) (sizes g) w → Fair (suc n) (suc (sizes g)) (within_node h w)
  within_fair h g w m = wider (suc n) (sizes g) (suc (sizes g)) _ w.ending (omega arith) m

  nodes_fair : (h : Head) (f : Forest) (k : Head) (g : Forest) (free : ℕ) → Fair (suc n) (suc (sizes g)) (apply_nodes ask h f k g free)
  nodes_fair (leaf p) f (leaf q) g free = by_test (eqb p.tag q.tag) (λ z. rw z tt) (λ z. rw z (omega arith, λ e. absurd (let z : ◌≡◌ {A = ℕ} 0 1 = cc in omega arith)))
  nodes_fair (leaf p) f struct g free = (omega arith, λ e. absurd (let z : ◌≡◌ {A = ℕ} 0 1 = cc in omega arith))
  nodes_fair (leaf p) f tuple g free = (omega arith, λ e. absurd (let z : ◌≡◌ {A = ℕ} 0 1 = cc in omega arith))
  nodes_fair (leaf p) f list g free = (omega arith, λ e. absurd (let z : ◌≡◌ {A = ℕ} 0 1 = cc in omega arith))
  nodes_fair (leaf p) f (enum v m i) g free = (omega arith, λ e. absurd (let z : ◌≡◌ {A = ℕ} 0 1 = cc in omega arith))
  nodes_fair struct f k g free = kind_fair struct f k _ free _ (within_fair struct g (apply_by_name ask 0 f g free) (names_fair 0 f g free))
  nodes_fair tuple f k g free = kind_fair tuple f k _ free _ (within_fair tuple g (apply_by_place ask leave 0 f g free) (places_fair leave leave_fair 0 f g free))
  nodes_fair list f k g free = kind_fair list f k _ free _ (within_fair list g (apply_by_place ask extend 0 f g free) (places_fair extend extend_fair 0 f g free))
  nodes_fair (enum v m i) f k g free =
      kind_fair (enum v m i) f k _ free _
      (by_test (same_name m (variant_name k))
      (λ q. rw q (within_fair (enum v m i) g (apply_fields ask v (variant k) f g free) (fields_fair v (variant k) f g free)))
      (λ q. by_test (leb (sizes g) free)
      (λ r. rw (q, r) tt)
      (λ r. rw (q, r) (omega arith, λ e. (omega arith, refl)))))

within_levels : (n : ℕ) (t p : Tree) (free : ℕ) → Fair n (size p) (apply_within n t p free)
within_levels zero t p free = tt
within_levels (suc n) (node h f) (node k g) free = nodes_fair n (apply_within n) (within_levels n) h f k g free

pub apply_modest : (t p : Tree) (free : ℕ) → Modest most_levels (size p) (apply t p free).free (apply t p free).ending
unfolding apply
apply_modest t p free = within_levels most_levels t p free
