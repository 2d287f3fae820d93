-- Two heads that meet: what the definition makes of them, by their values.
use Rattle.std.proofs.Common.{◌≡◌, ℕ, Bool, true, false, cond, ◌&&◌, eqb, [], Ok, Err, sym, refl, ap, ◌∙◌, ap₂, arith}
use Rattle.rules.specs.declared.leaf.Leaf.{Leaf}
use Rattle.std.proofs.lemmas.Bool.{and_parts}
use Rattle.names.specs.Names.{same_name, good_name}
use Rattle.trees.specs.declared.codes.VariantType.{VariantType}
use Rattle.trees.specs.declared.codes.VariantType.TheVariants.{Unit as unit, Tuple as tuple_like, Struct as struct_like}
use Rattle.trees.specs.declared.codes.Refusal.TheVariants as refuse
use Rattle.trees.specs.Codes.{kind_number}
use Rattle.trees.specs.Name.{Name, all_good, all_empty, distinct}
use Rattle.trees.specs.declared.head.Head.{Head}
use Rattle.trees.specs.declared.head.Head.TheVariants.{Leaf as leaf, Struct as struct, Tuple as tuple, List as list, Enum as enum}
use Rattle.trees.specs.Tree.{Tree, Forest, labels, fits, kind, same_kind}
use Rattle.trees.specs.Apply.{Walked, done, stopped, stop, if_kind, within_node, apply_leaf, wrong_tag, apply_fields, switch, apply_nodes}
use Rattle.trees.specs.declared.head.Head.TheVariants as value
use Rattle.patch.specs.declared.errors.ApplyError.{ApplyError}
use Rattle.patch.specs.declared.errors.ApplyError.TheVariants.{MismatchedKinds, MismatchedTypes}
use Rattle.patch.specs.declared.errors.ReflectKindMismatchError.{ReflectKindMismatchError}
use Rattle.patch.specs.declared.manners.Pairing.{Pairing}
use Rattle.patch.specs.declared.manners.Pairing.TheVariants.{ByName, Extending}
use Rattle.patch.specs.declared.manners.Manner.{Manner}
use Rattle.patch.specs.declared.manners.Manner.TheVariants.{Nothing, Switch, Pair}
use Rattle.patch.specs.Manners.{taken, IsMismatched, fields_of, manner_of, onto}
use Rattle.patch.specs.Walk.{fault_of}
use Rattle.patch.proofs.Ontos.{by_name, by_place, by_extending}

-- a leaf of another tag, or none, stops the walk
pub leaf_stops : (p : Leaf) (f : Forest) (k : Head) (free : ℕ) (e : ApplyError) → taken p k ≡ Err e → apply_leaf p f k free ≡ stop (leaf p) f free (stopped (fault_of e []))
leaf_stops p f (leaf q) free e x = go (eqb p.tag q.tag) x
  where
    go : (b : Bool) → cond b (Ok q) (Err (MismatchedTypes q.tag p.tag)) ≡ Err e → cond b (stop (leaf q) f free done) (wrong_tag p f q.tag free) ≡ stop (leaf p) f free (stopped (fault_of e []))
    go true x = absurd (let z : ◌≡◌ {A = ℕ} 0 1 = cc in omega arith)
    go false x = let z : MismatchedTypes q.tag p.tag ≡ e = cc in ap (λ y. stop (leaf p) f free (stopped (fault_of y []))) z
leaf_stops p f struct free e x = let z : MismatchedTypes 0 p.tag ≡ e = cc in ap (λ y. stop (leaf p) f free (stopped (fault_of y []))) z
leaf_stops p f tuple free e x = let z : MismatchedTypes 0 p.tag ≡ e = cc in ap (λ y. stop (leaf p) f free (stopped (fault_of y []))) z
leaf_stops p f list free e x = let z : MismatchedTypes 0 p.tag ≡ e = cc in ap (λ y. stop (leaf p) f free (stopped (fault_of y []))) z
leaf_stops p f (enum v n i) free e x = let z : MismatchedTypes 0 p.tag ≡ e = cc in ap (λ y. stop (leaf p) f free (stopped (fault_of y []))) z

-- a leaf of its tag is taken whole
pub leaf_takes : (p q : Leaf) (f : Forest) (k : Head) (free : ℕ) → taken p k ≡ Ok q → apply_leaf p f k free ≡ stop (leaf q) f free done
leaf_takes p q f (leaf r) free x = go (eqb p.tag r.tag) x
  where
    go : (b : Bool) → cond b (Ok r) (Err (MismatchedTypes r.tag p.tag)) ≡ Ok q → cond b (stop (leaf r) f free done) (wrong_tag p f r.tag free) ≡ stop (leaf q) f free done
    go true x = let z : r ≡ q = cc in ap (λ y. stop (leaf y) f free done) z
    go false x = absurd (let z : ◌≡◌ {A = ℕ} 0 1 = cc in omega arith)
leaf_takes p q f struct free x = absurd (let z : ◌≡◌ {A = ℕ} 0 1 = cc in omega arith)
leaf_takes p q f tuple free x = absurd (let z : ◌≡◌ {A = ℕ} 0 1 = cc in omega arith)
leaf_takes p q f list free x = absurd (let z : ◌≡◌ {A = ℕ} 0 1 = cc in omega arith)
leaf_takes p q f (enum v n i) free x = absurd (let z : ◌≡◌ {A = ℕ} 0 1 = cc in omega arith)

abbrev pub NoLeaf : Head → Type 0
NoLeaf h = (p : Leaf) → h ≡ value.Leaf p → ⊥

module _ (ask : Tree → Tree → ℕ → Walked Tree) (f g : Forest) (free : ℕ) where
  unlike : (h k : Head) (w : Walked Tree) → same_kind h k ≡ false → (e : ReflectKindMismatchError) → e.from ≡ kind k → e.to ≡ kind h → if_kind h f k free w ≡ stop h f free (stopped (fault_of (MismatchedKinds e) []))
  unlike h k w n e a b =
      ap (λ x. cond x w (stop h f free (stopped (record { reason = refuse.MismatchedKinds; from = kind_number (kind k); to = kind_number (kind h); path = [] })))) n
      ∙ ap₂ (λ x y. stop h f free (stopped (record { reason = refuse.MismatchedKinds; from = kind_number x; to = kind_number y; path = [] }))) (sym a) (sym b)

  -- another kind stops the walk
  pub kinds_stop : (h k : Head) (e : ReflectKindMismatchError) → NoLeaf h → IsMismatched h k e → apply_nodes ask h f k g free ≡ stop h f free (stopped (fault_of (MismatchedKinds e) []))
  kinds_stop h k e nl m = go h nl m.unlike m.from_is m.to_is
    where
      go : (h : Head) → NoLeaf h → same_kind h k ≡ false → e.from ≡ kind k → e.to ≡ kind h → apply_nodes ask h f k g free ≡ stop h f free (stopped (fault_of (MismatchedKinds e) []))
      go (leaf p) nl n a b = absurd (nl p refl)
      go struct nl n a b = unlike struct k _ n e a b
      go tuple nl n a b = unlike tuple k _ n e a b
      go list nl n a b = unlike list k _ n e a b
      go (enum v name index) nl n a b = unlike (enum v name index) k _ n e a b

  -- what the manner makes of the two
  abbrev pub by_manner : Head → Head → Manner → Walked Tree
  by_manner h k Nothing = stop h f free done
  by_manner h k Switch = switch h f k g free
  by_manner h k (Pair m) = within_node h (onto ask m 0 f g free)

  fields_so : (h k : Head) (v w : VariantType) → within_node h (apply_fields ask v w f g free) ≡ by_manner h k (fields_of v w)
  fields_so h k unit unit = refl
  fields_so h k unit tuple_like = refl
  fields_so h k unit struct_like = refl
  fields_so h k tuple_like unit = refl
  fields_so h k tuple_like tuple_like = ap (within_node h) (by_place ask f g free)
  fields_so h k tuple_like struct_like = refl
  fields_so h k struct_like unit = refl
  fields_so h k struct_like tuple_like = ap (within_node h) (by_place ask f g free)
  fields_so h k struct_like struct_like = ap (within_node h) (by_name ask 0 f g free)

  no : {A : Type 0} → false ≡ true → A
  no e = absurd (let z : ◌≡◌ {A = ℕ} 0 1 = cc in omega arith)

  -- two nodes of one kind
  pub mannered : (h k : Head) → NoLeaf h → same_kind h k ≡ true → fits k (labels g) ≡ true → apply_nodes ask h f k g free ≡ by_manner h k (manner_of h k)
  mannered h k nl e ok = go h k nl e ok
    where
      enums : (v w : VariantType) (m n : Name) (i j : ℕ) → (b c : Bool) → b ≡ c → cond b (within_node (enum v m i) (apply_fields ask v w f g free)) (switch (enum v m i) f (enum w n j) g free) ≡ by_manner (enum v m i) (enum w n j) (cond c (fields_of v w) Switch)
      enums v w m n i j b true e = ap (λ x. cond x (within_node (enum v m i) (apply_fields ask v w f g free)) (switch (enum v m i) f (enum w n j) g free)) e ∙ fields_so (enum v m i) (enum w n j) v w
      enums v w m n i j b false e = ap (λ x. cond x (within_node (enum v m i) (apply_fields ask v w f g free)) (switch (enum v m i) f (enum w n j) g free)) e

      go : (h k : Head) → NoLeaf h → same_kind h k ≡ true → fits k (labels g) ≡ true → apply_nodes ask h f k g free ≡ by_manner h k (manner_of h k)
      go (leaf p) k nl e ok = absurd (nl p refl)
      go struct (leaf p) nl e ok = no e
      go struct struct nl e ok = ap (within_node struct) (by_name ask 0 f g free)
      go struct tuple nl e ok = no e
      go struct list nl e ok = no e
      go struct (enum w n j) nl e ok = no e
      go tuple (leaf p) nl e ok = no e
      go tuple struct nl e ok = no e
      go tuple tuple nl e ok = ap (within_node tuple) (by_place ask f g free)
      go tuple list nl e ok = no e
      go tuple (enum w n j) nl e ok = no e
      go list (leaf p) nl e ok = no e
      go list struct nl e ok = no e
      go list tuple nl e ok = no e
      go list list nl e ok = ap (within_node list) (by_extending ask f g free ok)
      go list (enum w n j) nl e ok = no e
      go (enum v m i) (leaf p) nl e ok = no e
      go (enum v m i) struct nl e ok = no e
      go (enum v m i) tuple nl e ok = no e
      go (enum v m i) list nl e ok = no e
      go (enum v m i) (enum w n j) nl e ok = enums v w m n i j (same_name m n) (same_name m n) refl

-- the names of fields that are paired by name are apart
pub pairs_apart : (h k : Head) (f : Forest) (m : Pairing) → manner_of h k ≡ Pair m → m ≡ ByName → fits h (labels f) ≡ true → distinct (labels f) ≡ true
pairs_apart (leaf p) k f m e z ok = absurd (let z : ◌≡◌ {A = ℕ} 0 1 = cc in omega arith)
pairs_apart struct k f m e z ok = (and_parts (all_good (labels f)) (distinct (labels f)) ok).1
pairs_apart tuple k f m e z ok = absurd (let z : ◌≡◌ {A = ℕ} 0 1 = cc in omega arith)
pairs_apart list k f m e z ok = absurd (let z : ◌≡◌ {A = ℕ} 0 1 = cc in omega arith)
pairs_apart (enum v n i) (leaf p) f m e z ok = absurd (let z : ◌≡◌ {A = ℕ} 0 1 = cc in omega arith)
pairs_apart (enum v n i) struct f m e z ok = absurd (let z : ◌≡◌ {A = ℕ} 0 1 = cc in omega arith)
pairs_apart (enum v n i) tuple f m e z ok = absurd (let z : ◌≡◌ {A = ℕ} 0 1 = cc in omega arith)
pairs_apart (enum v n i) list f m e z ok = absurd (let z : ◌≡◌ {A = ℕ} 0 1 = cc in omega arith)
pairs_apart (enum v n i) (enum w o j) f m e z ok = go (same_name n o) v w e ok
  where
    go : (b : Bool) (v w : VariantType) → cond b (fields_of v w) Switch ≡ Pair m → fits (enum v n i) (labels f) ≡ true → distinct (labels f) ≡ true
    go false v w e ok = absurd (let z : ◌≡◌ {A = ℕ} 0 1 = cc in omega arith)
    go true unit w e ok = absurd (let z : ◌≡◌ {A = ℕ} 0 1 = cc in omega arith)
    go true tuple_like unit e ok = absurd (let z : ◌≡◌ {A = ℕ} 0 1 = cc in omega arith)
    go true tuple_like tuple_like e ok = absurd (let z : ◌≡◌ {A = ℕ} 0 1 = cc in omega arith)
    go true tuple_like struct_like e ok = absurd (let z : ◌≡◌ {A = ℕ} 0 1 = cc in omega arith)
    go true struct_like w e ok = (and_parts (all_good (labels f)) (distinct (labels f)) (and_parts (good_name n) (all_good (labels f) && distinct (labels f)) ok).1).1

-- what extends a list is a list
pub pairs_listed : (h k : Head) (g : Forest) (m : Pairing) → manner_of h k ≡ Pair m → m ≡ Extending → same_kind h k ≡ true → fits k (labels g) ≡ true → (h ≡ list) × (all_empty (labels g) ≡ true)
pairs_listed (leaf p) k g m e z a ok = absurd (let z : ◌≡◌ {A = ℕ} 0 1 = cc in omega arith)
pairs_listed struct k g m e z a ok = absurd (let z : ◌≡◌ {A = ℕ} 0 1 = cc in omega arith)
pairs_listed tuple k g m e z a ok = absurd (let z : ◌≡◌ {A = ℕ} 0 1 = cc in omega arith)
pairs_listed list (leaf p) g m e z a ok = absurd (let z : ◌≡◌ {A = ℕ} 0 1 = cc in omega arith)
pairs_listed list struct g m e z a ok = absurd (let z : ◌≡◌ {A = ℕ} 0 1 = cc in omega arith)
pairs_listed list tuple g m e z a ok = absurd (let z : ◌≡◌ {A = ℕ} 0 1 = cc in omega arith)
pairs_listed list list g m e z a ok = (refl, ok)
pairs_listed list (enum w o j) g m e z a ok = absurd (let z : ◌≡◌ {A = ℕ} 0 1 = cc in omega arith)
pairs_listed (enum v n i) (leaf p) g m e z a ok = absurd (let z : ◌≡◌ {A = ℕ} 0 1 = cc in omega arith)
pairs_listed (enum v n i) struct g m e z a ok = absurd (let z : ◌≡◌ {A = ℕ} 0 1 = cc in omega arith)
pairs_listed (enum v n i) tuple g m e z a ok = absurd (let z : ◌≡◌ {A = ℕ} 0 1 = cc in omega arith)
pairs_listed (enum v n i) list g m e z a ok = absurd (let z : ◌≡◌ {A = ℕ} 0 1 = cc in omega arith)
pairs_listed (enum v n i) (enum w o j) g m e z a ok = go (same_name n o) v w e
  where
    go : (b : Bool) (v w : VariantType) → cond b (fields_of v w) Switch ≡ Pair m → (enum v n i ≡ list) × (all_empty (labels g) ≡ true)
    go false v w e = absurd (let z : ◌≡◌ {A = ℕ} 0 1 = cc in omega arith)
    go true unit w e = absurd (let z : ◌≡◌ {A = ℕ} 0 1 = cc in omega arith)
    go true tuple_like unit e = absurd (let z : ◌≡◌ {A = ℕ} 0 1 = cc in omega arith)
    go true tuple_like tuple_like e = absurd (let z : ◌≡◌ {A = ℕ} 0 1 = cc in omega arith)
    go true tuple_like struct_like e = absurd (let z : ◌≡◌ {A = ℕ} 0 1 = cc in omega arith)
    go true struct_like unit e = absurd (let z : ◌≡◌ {A = ℕ} 0 1 = cc in omega arith)
    go true struct_like tuple_like e = absurd (let z : ◌≡◌ {A = ℕ} 0 1 = cc in omega arith)
    go true struct_like struct_like e = absurd (let z : ◌≡◌ {A = ℕ} 0 1 = cc in omega arith)
