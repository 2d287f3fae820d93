-- The steps of the hash walk.
use Rattle.std.proofs.Common.{◌≡◌, ℕ, suc, ◌+◌, ◌-◌, ◌<◌, true, List, [], ◌∷◌, ◌++◌, length, get_or, drop, Some, None, Option, sym, refl, ap, ◌∙◌, subst, ap₂, append_assoc, arith}
use Rattle.std.proofs.lemmas.List.{append-nil}
use Rattle.rules.specs.Fnv.{step, fnv, from, le_bytes}
use Rattle.rules.specs.Meaning.{Meaning}
use Rattle.rules.specs.declared.leaf.Leaf.{Leaf}
use Rattle.std.proofs.lemmas.List.Sums.{fold-append}
use Rattle.trees.specs.Codes.{variant_number}
use Rattle.trees.specs.declared.codes.VariantType.{VariantType}
use Rattle.trees.specs.Tree.{Tree, node, Forest, empty, more, labels, count, each, fits, sound}
use Rattle.trees.specs.Hash.{part, hashes, list_front, enum_front, hash_after, hash_node, hash_within}
use Rattle.cells.specs.Reading.{front, behind, roots, first_tree, complete}
use Rattle.cells.specs.declared.types.Cell.{Cell}
use Rattle.trees.specs.declared.head.Head.TheVariants as value
use Rattle.cells.proofs.Readings.{none_complete, complete-less, counted}
use Rattle.walks.specs.declared.hashing.Frame.{Frame}
use Rattle.walks.specs.declared.met.Met.{Met}
use Rattle.walks.specs.declared.met.Met.TheVariants.{Answered, Opened}
use Rattle.walks.specs.HashWalk.{onward, rest_of, answer_of, HasLeft, IsMet, outcome, AreMade, owed, Walks}
use Rattle.walks.proofs.Made.{level, each_parts}

-- a part's bytes belong to what stands before them
grouped : (bs : List ℕ) (x : ℕ) (o : Option (List ℕ)) → hash_after bs (part (Some x) o) ≡ hash_after (bs ++ le_bytes 8 x) o
grouped bs x None = refl
grouped bs x (Some ds) = ap (λ (ys : List ℕ). Some (fnv ys)) (sym (append_assoc bs (le_bytes 8 x) ds))

-- the children's hashes, one after the other
rest_is : (ask : Tree → Option ℕ) (f : Forest) (bs : List ℕ) → hash_after bs (hashes ask f) ≡ rest_of ask f (fnv bs)
rest_is ask empty bs = ap (λ (xs : List ℕ). Some (fnv xs)) (append-nil bs)
rest_is ask (more l t f) bs = go (ask t) (λ xs. rest_is ask f xs)
  where
    go : (o : Option ℕ) → ((xs : List ℕ) → hash_after xs (hashes ask f) ≡ rest_of ask f (fnv xs)) → hash_after bs (part o (hashes ask f)) ≡ onward o (λ x. rest_of ask f (from (fnv bs) (le_bytes 8 x)))
    go None ih = refl
    go (Some x) ih = grouped bs x (hashes ask f) ∙ ih (bs ++ le_bytes 8 x) ∙ ap (rest_of ask f) (fold-append step 14695981039346656037 bs (le_bytes 8 x))

-- what an enum has before its fields, fed byte by byte
pub enum_fed : (v : VariantType) (name bytes : List ℕ) (opened len sized named number r : ℕ) → opened ≡ fnv (4 ∷ []) → len ≡ length name → sized ≡ step opened len → bytes ≡ name → named ≡ from sized bytes → number ≡ variant_number v → r ≡ step named number → r ≡ fnv (enum_front v name)
enum_fed v name bytes opened len sized named number r a b c d e f g =
    g ∙ ap₂ step (e ∙ ap₂ from (c ∙ ap₂ step a b) d) f ∙ sym (fold-append step (fnv (4 ∷ length name ∷ [])) name (variant_number v ∷ []))

-- what a cell comes to, by its head
no_children : {A : Type 0} (l : List ℕ) (t : Tree) (f : Forest) (p : Leaf) → fits ((value.Leaf p)) (labels (more l t f)) ≡ true → A
no_children l t f p e = absurd (let z : ◌≡◌ {A = ℕ} 0 1 = cc in omega arith)

leaf_alone : (p : Leaf) (f : Forest) → fits ((value.Leaf p)) (labels f) ≡ true → f ≡ empty
leaf_alone p empty e = refl
leaf_alone p (more l t f) e = no_children l t f p e

module _ (m : Meaning) (cell : Cell) where
  pub met_leaf : (p : Leaf) (r : Option ℕ) → cell.head ≡ value.Leaf p → r ≡ m.hash p → IsMet m cell (Answered r)
  met_leaf p r e q = record { answer = λ ask f n w. ap (λ h. hash_node m ask h f) e ∙ sym q; left = go r }
    where
      go : (r : Option ℕ) → HasLeft cell (Answered r)
      go None = tt
      go (Some h) = λ f w. leaf_alone p f (ap (λ h. fits h (labels f)) (sym e) ∙ w)

  pub met_struct : cell.head ≡ value.Struct → IsMet m cell (Answered None)
  met_struct e = record { answer = λ ask f n w. ap (λ h. hash_node m ask h f) e; left = tt }

  pub met_tuple : cell.head ≡ value.Tuple → IsMet m cell (Answered None)
  met_tuple e = record { answer = λ ask f n w. ap (λ h. hash_node m ask h f) e; left = tt }

  pub met_list : (acc : ℕ) → cell.head ≡ value.List → acc ≡ fnv (list_front cell.children) → IsMet m cell (Opened (record { acc = acc; left = cell.children }))
  met_list acc e q =
      record {
        answer = λ ask f n w. ap (λ h. hash_node m ask h f) e ∙ rest_is ask f (list_front (count f)) ∙ ap (λ k. rest_of ask f (fnv (list_front k))) n ∙ ap (rest_of ask f) (sym q);
        left = refl;
      }

  pub met_enum : (kind : VariantType) (name : List ℕ) (index acc : ℕ) → cell.head ≡ value.Enum kind name index → acc ≡ fnv (enum_front kind name) → IsMet m cell (Opened (record { acc = acc; left = cell.children }))
  met_enum kind name index acc e q =
      record {
        answer = λ ask f n w. ap (λ h. hash_node m ask h f) e ∙ rest_is ask f (enum_front kind name) ∙ ap (rest_of ask f) (sym q);
        left = refl;
      }

-- a node's hash, once its cell was met
meets : (m : Meaning) (n : ℕ) (c : Cell) (cs : List Cell) (met : Met (Option ℕ) Frame) → complete c.children cs ≡ true → sound (16 - n) (node c.head (front c.children (roots cs))) ≡ true → IsMet m c met
    → hash_within m (16 - n) (node c.head (front c.children (roots cs))) ≡ answer_of (hash_within m (16 - suc n)) (front c.children (roots cs)) met
meets m n c cs met w s a =
    let t = node c.head (front c.children (roots cs)) in
    let v = level n t s in
    ap (λ i. hash_within m i t) v.deeper ∙ a.answer (hash_within m (16 - suc n)) (front c.children (roots cs)) (counted c.children cs w) v.fit

-- the walk at its beginning
pub answered_root : (m : Meaning) (cs : List Cell) (d : Cell) (a : Option ℕ) → complete 1 cs ≡ true → sound 16 (first_tree (roots cs)) ≡ true → IsMet m (get_or cs 0 d) (Answered a) → hash_within m 16 (first_tree (roots cs)) ≡ a
answered_root m [] d a w s i = none_complete 0 w
answered_root m (c ∷ cs) d a w s i = meets m 0 c cs (Answered a) (complete-less c.children 0 cs w) s i

pub begun : (m : Meaning) (cs rest : List Cell) (d : Cell) (fr : Frame) (frs : List Frame) → complete 1 cs ≡ true → sound 16 (first_tree (roots cs)) ≡ true → IsMet m (get_or cs 0 d) (Opened fr) → rest ≡ drop 1 cs → frs ≡ []
    → Walks m fr frs rest (hash_within m 16 (first_tree (roots cs)))
begun m [] rest d fr frs w s i e z = none_complete 0 w
begun m (c ∷ cs) rest d fr frs w s i e z =
    let t = first_tree (roots (c ∷ cs)) in
    let v = level 0 t s in
    let at : Walks m fr [] cs (hash_within m 16 t) =
    record {
      comes = ap (λ n. rest_of (hash_within m 15) (front n (roots cs)) fr.acc) i.left ∙ sym (meets m 0 c cs (Opened fr) (complete-less c.children 0 cs w) s i);
      made = (omega arith, ap (λ n. each (sound 15) (front n (roots cs))) i.left ∙ v.made, tt);
      whole = ap (λ n. complete (n + 0) cs) i.left ∙ w;
    } in
    subst (λ st. Walks m fr st rest (hash_within m 16 t)) (sym z) (subst (λ r. Walks m fr [] r (hash_within m 16 t)) (sym e) at)

outcome_none : (m : Meaning) (frs : List Frame) (trees : Forest) → outcome m frs trees None ≡ None
outcome_none m [] trees = refl
outcome_none m (fr ∷ frs) trees = outcome_none m frs (behind fr.left trees)

-- nothing is to come of the innermost frame
module _ (m : Meaning) (cells : List Cell) (a : Option ℕ) (acc : ℕ) where
  pub finished : (fr : Frame) (frs : List Frame) → Walks m fr frs cells a → fr.left ≡ 0 → frs ≡ [] → Some fr.acc ≡ a
  finished fr frs w e z =
      ap (λ n. rest_of (hash_within m (16 - suc 0)) (front n (roots cells)) fr.acc) (sym e)
      ∙ ap (λ st. outcome m st (behind fr.left (roots cells)) (rest_of (hash_within m (16 - suc (length st))) (front fr.left (roots cells)) fr.acc)) (sym z) ∙ w.comes

  pub closed : (fr around : Frame) (frs stack : List Frame) → Walks m fr stack cells a → fr.left ≡ 0 → stack ≡ around ∷ frs → acc ≡ from around.acc (le_bytes 8 fr.acc)
      → Walks m (record { acc = acc; left = around.left }) frs cells a
  closed fr around frs stack w e z q =
      let at : Walks m (record { acc = fr.acc; left = 0 }) (around ∷ frs) cells a =
      subst (λ st. Walks m (record { acc = fr.acc; left = 0 }) st cells a) z (subst (λ n. Walks m (record { acc = fr.acc; left = n }) stack cells a) e w) in
      let y : 0 + (around.left + owed frs) ≡ around.left + owed frs = omega arith in
      record {
        comes = ap (λ x. outcome m frs (behind around.left (roots cells)) (rest_of (hash_within m (16 - suc (length frs))) (front around.left (roots cells)) x)) q ∙ at.comes;
        made = at.made.2;
        whole = subst (λ i. complete i cells ≡ true) y at.whole;
      }

-- the next cell, and the child that begins with it
module _ (m : Meaning) (a : Option ℕ) (fr : Frame) (frs : List Frame) (n : ℕ) (c : Cell) (cs : List Cell) where
  abbrev later : Forest
  later = behind c.children (roots cs)

  abbrev ask : Tree → Option ℕ
  ask = hash_within m (16 - suc (length frs))

  abbrev child : Tree
  child = node c.head (front c.children (roots cs))

  record Child : Type 0 where
    is : outcome m frs (behind n later) (onward (ask child) (λ x. rest_of ask (front n later) (from fr.acc (le_bytes 8 x)))) ≡ a
    below : length frs < 16
    sane : sound (16 - suc (length frs)) child ≡ true
    others : each (sound (16 - suc (length frs))) (front n later) ≡ true
    around : AreMade frs (behind n later)
    whole : complete (c.children + (n + owed frs)) cs ≡ true

  module _ (cells : List Cell) (w : Walks m fr frs cells a) (e : cells ≡ c ∷ cs) (k : fr.left ≡ suc n) where
    next : Child
    next =
        let at : Walks m (record { acc = fr.acc; left = suc n }) frs (c ∷ cs) a =
        subst (λ r. Walks m (record { acc = fr.acc; left = suc n }) frs r a) e (subst (λ l. Walks m (record { acc = fr.acc; left = l }) frs cells a) k w) in
        let p = each_parts (sound (16 - suc (length frs))) child (front n later) at.made.1 in
        let z : suc n + owed frs ≡ suc (n + owed frs) = omega arith in
        record { is = at.comes; below = at.made.0; sane = p.0; others = p.1; around = at.made.2; whole = subst (λ i. complete i (c ∷ cs) ≡ true) z at.whole }

    met_is : (met : Met (Option ℕ) Frame) → IsMet m c met → ask child ≡ answer_of (hash_within m (16 - suc (suc (length frs)))) (front c.children (roots cs)) met
    met_is met i = meets m (suc (length frs)) c cs met (complete-less c.children (n + owed frs) cs next.whole) next.sane i

    pub no_hash : (r : Option ℕ) → IsMet m c (Answered r) → r ≡ None → a ≡ None
    no_hash r i z =
        sym next.is ∙ ap (λ r. outcome m frs (behind n later) (onward r (λ x. rest_of ask (front n later) (from fr.acc (le_bytes 8 x))))) (met_is (Answered r) i ∙ z)
        ∙ outcome_none m frs (behind n later)

    pub fed : (r : Option ℕ) (h acc : ℕ) → IsMet m c (Answered r) → r ≡ Some h → acc ≡ from fr.acc (le_bytes 8 h) → Walks m (record { acc = acc; left = n }) frs cs a
    fed r h acc i z q =
        let v = level (suc (length frs)) child next.sane in
        let l : HasLeft c (Answered (Some h)) = subst (λ r. HasLeft c (Answered r)) z i.left in
        let o : c.children ≡ 0 = sym (counted c.children cs (complete-less c.children (n + owed frs) cs next.whole)) ∙ ap count (l (front c.children (roots cs)) v.fit) in
        let y : n + owed frs ≡ c.children + (n + owed frs) = omega arith in
        let b : later ≡ roots cs = ap (λ k. behind k (roots cs)) o in
        record {
          comes =
              ap₂ (λ x f. outcome m frs (behind n f) (rest_of ask (front n f) x)) q (sym b)
              ∙ ap (λ r. outcome m frs (behind n later) (onward r (λ x. rest_of ask (front n later) (from fr.acc (le_bytes 8 x))))) (sym (met_is (Answered r) i ∙ z))
              ∙ next.is;
          made = (next.below, subst (λ f. each (sound (16 - suc (length frs))) (front n f) ≡ true) b next.others, subst (λ f. AreMade frs (behind n f)) b next.around);
          whole = ap (λ k. complete k cs) y ∙ next.whole;
        }

    pub opened : (inner : Frame) (stack : List Frame) → IsMet m c (Opened inner) → stack ≡ record { acc = fr.acc; left = n } ∷ frs → Walks m inner stack cs a
    opened inner stack i z =
        let v = level (suc (length frs)) child next.sane in
        let on : List Frame = record { acc = fr.acc; left = n } ∷ frs in
        let at : Walks m (record { acc = inner.acc; left = c.children }) on cs a =
        record {
          comes = ap (λ r. outcome m frs (behind n later) (onward r (λ x. rest_of ask (front n later) (from fr.acc (le_bytes 8 x))))) (sym (met_is (Opened inner) i)) ∙ next.is;
          made = (v.below, v.made, (next.below, next.others, next.around));
          whole = next.whole;
        } in
        subst (λ st. Walks m inner st cs a) (sym z) (subst (λ k. Walks m (record { acc = inner.acc; left = k }) on cs a) (sym i.left) at)
