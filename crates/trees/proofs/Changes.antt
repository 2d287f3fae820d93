-- Soundness by levels, and under changes of a node's children.
use Rattle.std.proofs.Common.{◌≡◌, ℕ, zero, suc, ◌+◌, ◌≤◌, Bool, true, false, not, ◌&&◌, List, [], ◌∷◌, ◌++◌, length, Some, None, Option, sym, refl, ap, ◌∙◌, subst, arith}
use Rattle.std.proofs.lemmas.Bool.{and_parts, and_from}
use Rattle.trees.specs.Name.{Name, absent, distinct, all_good, all_empty}
use Rattle.trees.specs.declared.head.Head.{Head}
use Rattle.trees.specs.declared.head.Head.TheVariants.{Leaf as leaf, Struct as struct, Tuple as tuple, List as list, Enum as enum}
use Rattle.trees.specs.Tree.{Tree, node, Forest, empty, more, labels, at, each, height, heights, fits, sound, named, unnamed}
use Rattle.trees.specs.declared.codes.VariantType.TheVariants.{Unit as unit, Tuple as tuple_like, Struct as struct_like}
use Rattle.trees.proofs.Names.{absent_head, absent_tail, and_one, and_two, by_test, no, same_name_comm}
use Rattle.names.specs.Names.{same_name, good_name}
use Rattle.trees.specs.Apply.{put}
use Rattle.trees.specs.Place.{find, change_at, change_in, add_last, insert_under, add_at, take_at}

-- levels

pub each_mono : (p q : Tree → Bool) → ((t : Tree) → p t ≡ true → q t ≡ true) → (f : Forest) → each p f ≡ true → each q f ≡ true
each_mono p q h empty a = refl
each_mono p q h (more l t f) a =
    let x = and_parts (p t) (each p f) a in
    and_from (q t) (each q f) (h t x.0) (each_mono p q h f x.1)

pub sound_grow : (n m : ℕ) (t : Tree) → sound n t ≡ true → n ≤ m → sound m t ≡ true
sound_grow zero m t s h = no refl (sym s)
sound_grow (suc n) zero t s h = absurd (omega arith)
sound_grow (suc n) (suc m) (node k f) s h =
    let x = and_parts (fits k (labels f)) (each (sound n) f) s in
    and_from (fits k (labels f)) (each (sound m) f) x.0 (each_mono (sound n) (sound m) (λ t a. sound_grow n m t a (omega arith)) f x.1)

each_shrink : (n m : ℕ) → ((t : Tree) → sound n t ≡ true → height t ≤ m → sound m t ≡ true) → (f : Forest) → each (sound n) f ≡ true → heights f ≤ m → each (sound m) f ≡ true
each_shrink n m ih empty a h = refl
each_shrink n m ih (more l t f) a h =
    let x = and_parts (sound n t) (each (sound n) f) a in
    and_from (sound m t) (each (sound m) f) (ih t x.0 (omega arith)) (each_shrink n m ih f x.1 (omega arith))

pub sound_shrink : (n m : ℕ) (t : Tree) → sound n t ≡ true → height t ≤ m → sound m t ≡ true
sound_shrink zero m t s h = no refl (sym s)
sound_shrink (suc n) zero (node k f) s h = absurd (omega arith)
sound_shrink (suc n) (suc m) (node k f) s h =
    let x = and_parts (fits k (labels f)) (each (sound n) f) s in
    and_from (fits k (labels f)) (each (sound m) f) x.0 (each_shrink n m (λ t. sound_shrink n m t) f x.1 (omega arith))

-- a change at a path

pub find_none : (path : List ℕ) → find None path ≡ None
find_none [] = refl
find_none (i ∷ path) = refl

labels-change_at : (i : ℕ) (c : Tree → Tree) (f : Forest) → labels (change_at i c f) ≡ labels f
labels-change_at i c empty = refl
labels-change_at zero c (more l t f) = refl
labels-change_at (suc i) c (more l t f) = ap (λ x. l ∷ x) (labels-change_at i c f)

pub each_change_at : (ok : Tree → Bool) (i : ℕ) (c : Tree → Tree) (f : Forest) → each ok f ≡ true → ((u : Tree) → at i f ≡ Some u → ok u ≡ true → ok (c u) ≡ true) →
    each ok (change_at i c f) ≡ true
each_change_at ok i c empty a h = refl
each_change_at ok zero c (more l t f) a h =
    let x = and_parts (ok t) (each ok f) a in
    and_from (ok (c t)) (each ok f) (h t refl x.0) x.1
each_change_at ok (suc i) c (more l t f) a h =
    let x = and_parts (ok t) (each ok f) a in
    and_from (ok t) (each ok (change_at i c f)) x.0 (each_change_at ok i c f x.1 h)

-- the change keeps the node that is found sound at its level, so the whole stays sound
pub change_sound : (n : ℕ) (path : List ℕ) (c : Tree → Tree) (t : Tree) → sound n t ≡ true →
    ((k : ℕ) (x : Tree) → find (Some t) path ≡ Some x → length path + k ≡ n → sound k x ≡ true → sound k (c x) ≡ true) →
    sound n (change_in path c t) ≡ true
change_sound n [] c t s h = h n t refl (omega arith) s
change_sound zero (i ∷ path) c t s h = no refl (sym s)
change_sound (suc n) (i ∷ path) c (node k f) s h =
    let x = and_parts (fits k (labels f)) (each (sound n) f) s in
    and_from (fits k (labels (change_at i (change_in path c) f))) (each (sound n) (change_at i (change_in path c) f))
    (ap (fits k) (labels-change_at i (change_in path c) f) ∙ x.0)
    (each_change_at (sound n) i (change_in path c) f x.1
    (λ u e a. change_sound n path c u a (λ m y w z b. h m y (ap (λ o. find o path) e ∙ w) (omega arith) b)))

pub at_ok : (ok : Tree → Bool) (i : ℕ) (f : Forest) (t : Tree) → each ok f ≡ true → at i f ≡ Some t → ok t ≡ true
at_ok ok i empty t a e = absurd (let z : ◌≡◌ {A = ℕ} 0 1 = cc in omega arith)
at_ok ok zero (more l u f) t a e = let j : u ≡ t = cc in subst (λ (x : Tree). ok x ≡ true) j (and_one (ok u) (each ok f) a)
at_ok ok (suc i) (more l u f) t a e = at_ok ok i f t (and_two (ok u) (each ok f) a) e

-- the node that is found is sound at its level
pub find_sound : (n : ℕ) (path : List ℕ) (t x : Tree) → sound n t ≡ true → find (Some t) path ≡ Some x → (k : ℕ) × (k ≤ n) × (sound k x ≡ true)
find_sound n [] t x s e = let j : t ≡ x = cc in (n, omega arith, subst (λ (y : Tree). sound n y ≡ true) j s)
find_sound zero (i ∷ path) t x s e = no refl (sym s)
find_sound (suc n) (i ∷ path) (node h f) x s e = go (λ u a r. find_sound n path u x a r) (at i f) refl e
  where
    go : ((u : Tree) → sound n u ≡ true → find (Some u) path ≡ Some x → (k : ℕ) × (k ≤ n) × (sound k x ≡ true)) →
        (o : Option Tree) → at i f ≡ o → find o path ≡ Some x → (k : ℕ) × (k ≤ suc n) × (sound k x ≡ true)
    go ih None q r = absurd (let y = find_none path in let z : ◌≡◌ {A = ℕ} 0 1 = cc in omega arith)
    go ih (Some u) q r =
        let b = ih u (at_ok (sound n) i f u (and_two (fits h (labels f)) (each (sound n) f) s) q) r in
        (b.0, omega arith, b.2)

-- children added, replaced and taken out

pub labels-put : (l : Name) (u : Tree) (f : Forest) → labels (put l u f) ≡ labels f
labels-put l u empty = refl
labels-put l u (more k t f) =
    let ih = labels-put l u f in
    by_test (same_name l k) (λ q. rw q refl) (λ q. rw q (ap (λ x. k ∷ x) ih))

pub each_put : (ok : Tree → Bool) (l : Name) (u : Tree) (f : Forest) → each ok f ≡ true → ok u ≡ true → each ok (put l u f) ≡ true
each_put ok l u empty a b = refl
each_put ok l u (more k t f) a b =
    let x = and_parts (ok t) (each ok f) a in
    by_test (same_name l k)
    (λ q. rw q (and_from (ok u) (each ok f) b x.1))
    (λ q. rw q (and_from (ok t) (each ok (put l u f)) x.0 (each_put ok l u f x.1 b)))

labels_last : (l : Name) (u : Tree) (f : Forest) → labels (add_last l u f) ≡ labels f ++ (l ∷ [])
labels_last l u empty = refl
labels_last l u (more k t f) = ap (λ x. k ∷ x) (labels_last l u f)

pub each_last : (ok : Tree → Bool) (l : Name) (u : Tree) (f : Forest) → each ok f ≡ true → ok u ≡ true → each ok (add_last l u f) ≡ true
each_last ok l u empty a b = and_from (ok u) true b refl
each_last ok l u (more k t f) a b =
    let x = and_parts (ok t) (each ok f) a in
    and_from (ok t) (each ok (add_last l u f)) x.0 (each_last ok l u f x.1 b)

good_last : (ls : List Name) (l : Name) → all_good ls ≡ true → good_name l ≡ true → all_good (ls ++ (l ∷ [])) ≡ true
good_last [] l a b = and_from (good_name l) true b refl
good_last (k ∷ ls) l a b =
    let x = and_parts (good_name k) (all_good ls) a in
    and_from (good_name k) (all_good (ls ++ (l ∷ []))) x.0 (good_last ls l x.1 b)

empty_last : (ls : List Name) → all_empty ls ≡ true → all_empty (ls ++ ([] ∷ [])) ≡ true
empty_last [] a = refl
empty_last (k ∷ ls) a =
    let x = and_parts (same_name k []) (all_empty ls) a in
    and_from (same_name k []) (all_empty (ls ++ ([] ∷ []))) x.0 (empty_last ls x.1)

absent_last : (k l : Name) (ls : List Name) → absent k ls ≡ true → same_name k l ≡ false → absent k (ls ++ (l ∷ [])) ≡ true
absent_last k l [] a b = and_from (not (same_name k l)) true (ap not b) refl
absent_last k l (j ∷ ls) a b =
    let x = and_parts (not (same_name k j)) (absent k ls) a in
    and_from (not (same_name k j)) (absent k (ls ++ (l ∷ []))) x.0 (absent_last k l ls x.1 b)

distinct_last : (ls : List Name) (l : Name) → distinct ls ≡ true → absent l ls ≡ true → distinct (ls ++ (l ∷ [])) ≡ true
distinct_last [] l a b = refl
distinct_last (k ∷ ls) l a b =
    let x = and_parts (absent k ls) (distinct ls) a in
    and_from (absent k (ls ++ (l ∷ []))) (distinct (ls ++ (l ∷ [])))
    (absent_last k l ls x.0 (same_name_comm k l ∙ absent_head l k ls b))
    (distinct_last ls l x.1 (absent_tail l k ls b))

absent_take : (k : Name) (i : ℕ) (f : Forest) → absent k (labels f) ≡ true → absent k (labels (take_at i f)) ≡ true
absent_take k i empty a = refl
absent_take k zero (more l t f) a = absent_tail k l (labels f) a
absent_take k (suc i) (more l t f) a =
    and_from (not (same_name k l)) (absent k (labels (take_at i f))) (and_one (not (same_name k l)) (absent k (labels f)) a) (absent_take k i f (absent_tail k l (labels f) a))

pub distinct_take : (i : ℕ) (f : Forest) → distinct (labels f) ≡ true → distinct (labels (take_at i f)) ≡ true
distinct_take i empty a = refl
distinct_take zero (more l t f) a = and_two (absent l (labels f)) (distinct (labels f)) a
distinct_take (suc i) (more l t f) a =
    let x = and_parts (absent l (labels f)) (distinct (labels f)) a in
    and_from (absent l (labels (take_at i f))) (distinct (labels (take_at i f))) (absent_take l i f x.0) (distinct_take i f x.1)

pub good_take : (i : ℕ) (f : Forest) → all_good (labels f) ≡ true → all_good (labels (take_at i f)) ≡ true
good_take i empty a = refl
good_take zero (more l t f) a = and_two (good_name l) (all_good (labels f)) a
good_take (suc i) (more l t f) a =
    let x = and_parts (good_name l) (all_good (labels f)) a in
    and_from (good_name l) (all_good (labels (take_at i f))) x.0 (good_take i f x.1)

pub empty_take : (i : ℕ) (f : Forest) → all_empty (labels f) ≡ true → all_empty (labels (take_at i f)) ≡ true
empty_take i empty a = refl
empty_take zero (more l t f) a = and_two (same_name l []) (all_empty (labels f)) a
empty_take (suc i) (more l t f) a =
    let x = and_parts (same_name l []) (all_empty (labels f)) a in
    and_from (same_name l []) (all_empty (labels (take_at i f))) x.0 (empty_take i f x.1)

pub each_take : (ok : Tree → Bool) (i : ℕ) (f : Forest) → each ok f ≡ true → each ok (take_at i f) ≡ true
each_take ok i empty a = refl
each_take ok zero (more l t f) a = and_two (ok t) (each ok f) a
each_take ok (suc i) (more l t f) a =
    let x = and_parts (ok t) (each ok f) a in
    and_from (ok t) (each ok (take_at i f)) x.0 (each_take ok i f x.1)

pub empty_add : (i : ℕ) (u : Tree) (f : Forest) → all_empty (labels f) ≡ true → all_empty (labels (add_at i u f)) ≡ true
empty_add zero u f a = a
empty_add (suc i) u empty a = refl
empty_add (suc i) u (more l t f) a =
    let x = and_parts (same_name l []) (all_empty (labels f)) a in
    and_from (same_name l []) (all_empty (labels (add_at i u f))) x.0 (empty_add i u f x.1)

pub each_add : (ok : Tree → Bool) (i : ℕ) (u : Tree) (f : Forest) → each ok f ≡ true → ok u ≡ true → each ok (add_at i u f) ≡ true
each_add ok zero u f a b = and_from (ok u) (each ok f) b a
each_add ok (suc i) u empty a b = refl
each_add ok (suc i) u (more l t f) a b =
    let x = and_parts (ok t) (each ok f) a in
    and_from (ok t) (each ok (add_at i u f)) x.0 (each_add ok i u f x.1 b)

-- a node's labels still fit

pub insert_fits : (h : Head) (l : Name) (u : Tree) (f : Forest) → named h ≡ true → good_name l ≡ true → fits h (labels f) ≡ true → fits h (labels (insert_under l u f)) ≡ true
insert_fits h l u f nm g x =
    by_test (absent l (labels f))
    (λ q. rw q (ap (fits h) (labels_last l u f) ∙ go h nm x q))
    (λ q. rw q (ap (fits h) (labels-put l u f) ∙ x))
  where
    both : all_good (labels f) && distinct (labels f) ≡ true → absent l (labels f) ≡ true →
        all_good (labels f ++ (l ∷ [])) && distinct (labels f ++ (l ∷ [])) ≡ true
    both y q =
        let z = and_parts (all_good (labels f)) (distinct (labels f)) y in
        and_from (all_good (labels f ++ (l ∷ []))) (distinct (labels f ++ (l ∷ []))) (good_last (labels f) l z.0 g) (distinct_last (labels f) l z.1 q)

    go : (k : Head) → named k ≡ true → fits k (labels f) ≡ true → absent l (labels f) ≡ true → fits k (labels f ++ (l ∷ [])) ≡ true
    go (leaf p) n y q = no refl (sym n)
    go struct n y q = both y q
    go tuple n y q = no refl (sym n)
    go list n y q = no refl (sym n)
    go (enum unit v i) n y q = no refl (sym n)
    go (enum tuple_like v i) n y q = no refl (sym n)
    go (enum struct_like v i) n y q =
        let z = and_parts (good_name v) (all_good (labels f) && distinct (labels f)) y in
        and_from (good_name v) (all_good (labels f ++ (l ∷ [])) && distinct (labels f ++ (l ∷ []))) z.0 (both z.1 q)

pub insert_each : (ok : Tree → Bool) (l : Name) (u : Tree) (f : Forest) → each ok f ≡ true → ok u ≡ true → each ok (insert_under l u f) ≡ true
insert_each ok l u f a b =
    by_test (absent l (labels f)) (λ q. rw q (each_last ok l u f a b)) (λ q. rw q (each_put ok l u f a b))

-- unnamed children: whatever keeps the labels empty
pub unnamed_fits : (h : Head) (ls ks : List Name) → unnamed h ≡ true → (all_empty ls ≡ true → all_empty ks ≡ true) → fits h ls ≡ true → fits h ks ≡ true
unnamed_fits (leaf p) ls ks n c x = no refl (sym n)
unnamed_fits struct ls ks n c x = no refl (sym n)
unnamed_fits tuple ls ks n c x = c x
unnamed_fits list ls ks n c x = c x
unnamed_fits (enum unit v i) ls ks n c x = no refl (sym n)
unnamed_fits (enum tuple_like v i) ls ks n c x =
    let z = and_parts (good_name v) (all_empty ls) x in
    and_from (good_name v) (all_empty ks) z.0 (c z.1)
unnamed_fits (enum struct_like v i) ls ks n c x = no refl (sym n)

pub push_fits : (h : Head) (u : Tree) (f : Forest) → unnamed h ≡ true → fits h (labels f) ≡ true → fits h (labels (add_last [] u f)) ≡ true
push_fits h u f n x = ap (fits h) (labels_last [] u f) ∙ unnamed_fits h (labels f) (labels f ++ ([] ∷ [])) n (empty_last (labels f)) x
