-- The steps of the walk of `equal`.
use Rattle.std.proofs.Common.{◌≡◌, ℕ, suc, ◌+◌, ◌-◌, ◌*◌, ◌<◌, max, Bool, true, false, cond, ◌&&◌, eqb, List, [], ◌∷◌, length, Some, None, Option, sym, refl, ap, ◌∙◌, subst, ap₂, arith, eq-eqb, mul_comm, add-mul, mul-pos}
use native.Mathlib.Nat.{mul-add}
use Rattle.std.proofs.lemmas.Bool.{and_parts}
use Rattle.names.specs.Names.{good_name}
use Rattle.rules.specs.Meaning.{Meaning}
use Rattle.trees.specs.declared.codes.VariantType.TheVariants.{Unit as unit, Tuple as tuple_like, Struct as struct_like}
use Rattle.trees.specs.declared.head.Head.{Head}
use Rattle.trees.specs.declared.head.Head.TheVariants.{Leaf as leaf, Struct as struct, Tuple as tuple, List as list, Enum as enum}
use Rattle.trees.specs.Tree.{Tree, node, Forest, empty, more, labels, count, named, under, fits, size, sizes, height, heights}
use Rattle.trees.specs.Tests.{is_enum}
use Rattle.trees.specs.Equal.{alike, while_true, equal_found, equal_by_name, equal_by_place, or_false, equal_nodes, equal_within}
use Rattle.cells.specs.Layout.{root, kids}
use Rattle.std.specs.Prelude.{option_map, IfSome}
use Rattle.cells.specs.Views.{tree, forest}
use Rattle.cells.specs.declared.views.Node.{Node}
use Rattle.cells.proofs.Layouts.{size_pos, height_pos}
use Rattle.cells.specs.declared.views.Kids.{Kids}
use Rattle.walks.specs.Pairs.{by_place, by_name, partners, pairs_with, pairs, is_by_name, levels, weight, Meets, PairAndRest, ShowsFirst}
use Rattle.walks.specs.declared.pairs.Pair.{Pair}
use Rattle.walks.specs.declared.pairs.Pairs.{Pairs}
use Rattle.walks.specs.declared.equality.Frame.{Frame}
use Rattle.walks.specs.declared.pairs.Partners.{Partners}
use Rattle.walks.specs.declared.pairs.Partners.TheVariants.{ByPlace, ByName}
use Rattle.walks.specs.EqualWalk.{IsFrameOf, answers, sure, frame_answer, outcome, AreLow, load}
use Rattle.walks.proofs.HeadLaws.{is_leaf, no_leaf}
use Rattle.walks.proofs.Rests.{left_rest}

-- the pairs by the rows alone
pub pairs_are : (f : Forest) (p : Partners) (b : Bool) → is_by_name p ≡ b → pairs_with f p ≡ cond b (by_name f (partners p)) (by_place f (partners p))
pairs_are f (ByPlace row) b e = ap (λ b. cond b (by_name f (forest row)) (by_place f (forest row))) e
pairs_are f (ByName fields) b e = ap (λ b. cond b (by_name f (forest fields.row)) (by_place f (forest fields.row))) e

module _ (m : Meaning) (ask : Tree → Tree → Option Bool) where
  name_answers : (f g : Forest) → equal_by_name ask f g ≡ answers ask (by_name g f)
  name_answers f empty = refl
  name_answers f (more l u g) = ap (while_true (equal_found ask (under l f) u)) (name_answers f g)

  place_answers : (f g : Forest) → count f ≡ count g → equal_by_place ask f g ≡ answers ask (by_place g f)
  place_answers empty empty e = refl
  place_answers empty (more l u g) e = absurd (omega arith)
  place_answers (more k t f) empty e = absurd (omega arith)
  place_answers (more k t f) (more l u g) e = ap (while_true (ask t u)) (place_answers f g (omega arith))

  -- no leaf, and unlike the other
  pub unlike_are : (h : Head) (f : Forest) (k : Head) (g : Forest) → is_leaf h ≡ false → (alike h k && eqb (count f) (count g)) ≡ false → equal_nodes m ask h f k g ≡ Some false
  unlike_are (leaf p) f k g n e = no_leaf n
  unlike_are struct f k g n e = ap (λ (b : Bool). cond b (equal_by_name ask f g) (Some false)) e
  unlike_are tuple f k g n e = ap (λ (b : Bool). cond b (equal_by_place ask f g) (Some false)) e
  unlike_are list f k g n e = ap (λ (b : Bool). cond b (equal_by_place ask f g) (Some false)) e
  unlike_are (enum unit name index) f k g n e = ap (λ (b : Bool). cond b (Some true) (Some false)) e
  unlike_are (enum tuple_like name index) f k g n e = ap (λ (b : Bool). cond b (or_false (equal_by_place ask g f)) (Some false)) e
  unlike_are (enum struct_like name index) f k g n e = ap (λ (b : Bool). cond b (or_false (equal_by_name ask g f)) (Some false)) e

  -- what alike nodes of these children answer: those of an enum in changed places
  abbrev over : Bool → Forest → Forest → Option Bool
  over b f g = answers ask (cond b (by_name g f) (by_place g f))

  like_are : (h : Head) (f : Forest) (k : Head) (g : Forest) → is_leaf h ≡ false → fits h (labels f) ≡ true → count f ≡ count g → (alike h k && eqb (count f) (count g)) ≡ true → equal_nodes m ask h f k g ≡ sure (is_enum h) (over (named h) (cond (is_enum h) g f) (cond (is_enum h) f g))
  like_are (leaf p) f k g n w c e = no_leaf n
  like_are struct f k g n w c e = ap (λ (b : Bool). cond b (equal_by_name ask f g) (Some false)) e ∙ name_answers f g
  like_are tuple f k g n w c e = ap (λ (b : Bool). cond b (equal_by_place ask f g) (Some false)) e ∙ place_answers f g c
  like_are list f k g n w c e = ap (λ (b : Bool). cond b (equal_by_place ask f g) (Some false)) e ∙ place_answers f g c
  like_are (enum unit name index) empty k empty n w c e = ap (λ (b : Bool). cond b (Some true) (Some false)) e
  like_are (enum unit name index) empty k (more l u g) n w c e = absurd (omega arith)
  like_are (enum unit name index) (more l t f) k g n w c e = no_leaf (sym (and_parts (good_name name) false w).1)
  like_are (enum tuple_like name index) f k g n w c e = ap (λ (b : Bool). cond b (or_false (equal_by_place ask g f)) (Some false)) e ∙ ap or_false (place_answers g f (sym c))
  like_are (enum struct_like name index) f k g n w c e = ap (λ (b : Bool). cond b (or_false (equal_by_name ask g f)) (Some false)) e ∙ ap or_false (name_answers g f)

  -- the frame has these children
  pub framed : (h : Head) (f : Forest) (k : Head) (g : Forest) (ours theirs : Kids) (fr : Frame) → is_leaf h ≡ false → fits h (labels f) ≡ true → count f ≡ count g → alike h k ≡ true → forest ours ≡ f → forest theirs ≡ g → IsFrameOf h ours theirs fr → equal_nodes m ask h f k g ≡ sure fr.sure (answers ask (pairs fr.pairs))
  framed h f k g ours theirs fr n w c a p q r =
      like_are h f k g n w c (ap₂ ◌&&◌ a (eq-eqb (count f) (count g) c))
      ∙ ap₂ (λ x y. sure (is_enum h) (over (named h) (cond (is_enum h) y x) (cond (is_enum h) x y))) (sym p) (sym q)
      ∙ ap₂ (λ x y. sure (is_enum h) (over (named h) x y)) (sym r.row) (sym r.next)
      ∙ ap (λ ps. sure (is_enum h) (answers ask ps)) (sym (pairs_are (forest fr.pairs.ours) fr.pairs.theirs (named h) r.way))
      ∙ ap (λ b. sure b (answers ask (pairs fr.pairs))) (sym r.sure)

pub within_is : (m : Meaning) (n : ℕ) (t u : Tree) → equal_within m (suc n) t u ≡ equal_nodes m (equal_within m n) (root t) (kids t) (root u) (kids u)
within_is m n (node h f) (node k g) = refl

-- a frame is lower than its nodes
pub product_less : (a b : ℕ) → a * b < suc a * suc b
product_less a b =
    let x : suc a * suc b ≡ a * suc b + 1 * suc b = ap (λ n. n * suc b) (omega arith) ∙ add-mul a 1 (suc b) in
    let y : a * suc b ≡ a * b + a * 1 = ap (λ n. a * n) (omega arith) ∙ mul-add a b 1 in
    omega arith

pub frame_less : (h : Head) (t u : Tree) (ours theirs : Kids) (fr : Frame) → forest ours ≡ kids t → forest theirs ≡ kids u → IsFrameOf h ours theirs fr → (levels fr.pairs < max (height t) (height u)) × (weight fr.pairs < size t * size u)
frame_less h (node i f) (node j g) ours theirs fr p q r = go (is_enum h) r.next r.row
  where
    go : (b : Bool) → forest fr.pairs.ours ≡ cond b (forest ours) (forest theirs) → partners fr.pairs.theirs ≡ cond b (forest theirs) (forest ours) → (levels fr.pairs < max (suc (heights f)) (suc (heights g))) × (weight fr.pairs < suc (sizes f) * suc (sizes g))
    go true x y =
        let hx = ap heights (x ∙ p) in
        let hy = ap heights (y ∙ q) in
        let w : weight fr.pairs ≡ sizes f * sizes g = ap₂ (λ a b. sizes a * sizes b) (x ∙ p) (y ∙ q) in
        (omega arith, rw w (product_less (sizes f) (sizes g)))
    go false x y =
        let hx = ap heights (x ∙ q) in
        let hy = ap heights (y ∙ p) in
        let w : weight fr.pairs ≡ sizes f * sizes g = ap₂ (λ a b. sizes a * sizes b) (x ∙ q) (y ∙ p) ∙ mul_comm (sizes g) (sizes f) in
        (omega arith, rw w (product_less (sizes f) (sizes g)))

-- false and none at once, and what a frame adds to them
sure_true : (s b : Bool) → sure s (Some b) ≡ Some b
sure_true true b = refl
sure_true false b = refl

sure_while : (s : Bool) (a b : Option Bool) → sure s (while_true a b) ≡ while_true (sure s a) (sure s b)
sure_while true None b = refl
sure_while true (Some true) b = refl
sure_while true (Some false) b = refl
sure_while false a b = refl

while_while : (a b c : Option Bool) → while_true (while_true a b) c ≡ while_true a (while_true b c)
while_while None b c = refl
while_while (Some true) b c = refl
while_while (Some false) b c = refl

pub sure_within : (a b : Bool) (x : Option Bool) → sure (cond a true b) x ≡ sure b (sure a x)
sure_within true true None = refl
sure_within true true (Some x) = refl
sure_within true false None = refl
sure_within true false (Some x) = refl
sure_within false b x = refl

-- a frame with nothing left
pub frame_done : (m : Meaning) (fr : Frame) (frs : List Frame) → pairs fr.pairs ≡ [] → outcome m (fr ∷ frs) ≡ outcome m frs
frame_done m fr frs e = ap (λ ps. while_true (sure fr.sure (answers (equal_within m (15 - length frs)) ps)) (outcome m frs)) e ∙ ap (λ r. while_true r (outcome m frs)) (sure_true fr.sure true)

-- the first pair of the innermost frame, and the rest
module _ (m : Meaning) (fr : Frame) (frs : List Frame) (p : Pair × Pairs) (a : PairAndRest fr.pairs p) where
  abbrev pub on : List Frame
  on = record { pairs = p.1; sure = fr.sure } ∷ frs

  pub stepped : outcome m (fr ∷ frs) ≡ while_true (sure fr.sure (equal_found (equal_within m (15 - length frs)) (option_map tree p.0.theirs) (tree p.0.ours))) (outcome m on)
  stepped =
      let ask = equal_within m (15 - length frs) in
      let first = equal_found ask (option_map tree p.0.theirs) (tree p.0.ours) in
      ap (λ ps. while_true (sure fr.sure (answers ask ps)) (outcome m frs)) a.split
      ∙ ap (λ r. while_true r (outcome m frs)) (sure_while fr.sure first (answers ask (pairs p.1)))
      ∙ while_while (sure fr.sure first) (sure fr.sure (answers ask (pairs p.1))) (outcome m frs)

  pub alone : p.0.theirs ≡ None → outcome m (fr ∷ frs) ≡ Some false
  alone e =
      stepped ∙ ap (λ o. while_true (sure fr.sure (equal_found (equal_within m (15 - length frs)) (option_map tree o) (tree p.0.ours))) (outcome m on)) e
      ∙ ap (λ r. while_true r (outcome m on)) (sure_true fr.sure false)

  module _ (y : Node) (e : p.0.theirs ≡ Some y) (low : AreLow (fr ∷ frs)) where
    meets : Meets fr.pairs p.1 (tree p.0.ours) (tree y)
    meets = subst (λ o. IfSome o (λ y. Meets fr.pairs p.1 (tree p.0.ours) (tree y))) e a.met

    pub on_low : AreLow on
    on_low = (omega (arith, a.low, low.0), low.1)

    pub on_less : load on < load (fr ∷ frs)
    on_less =
        let s = mul-pos {m = size (tree p.0.ours)} {n = size (tree y)} (size_pos (tree p.0.ours)) (size_pos (tree y)) in
        omega (arith, meets.less)

    deeper : 15 - length frs ≡ suc (15 - suc (length frs))
    deeper = omega (arith, height_pos (tree y), meets.second, low.0)

    pub room : length frs < 16
    room = omega (arith, low.0)

    -- they have answered so
    pub answered : (r : Option Bool) → ((n : ℕ) → equal_within m (suc n) (tree y) (tree p.0.ours) ≡ r) → outcome m (fr ∷ frs) ≡ while_true (sure fr.sure r) (outcome m on)
    answered r k =
        stepped ∙ ap (λ o. while_true (sure fr.sure (equal_found (equal_within m (15 - length frs)) (option_map tree o) (tree p.0.ours))) (outcome m on)) e
        ∙ ap (λ n. while_true (sure fr.sure (equal_within m n (tree y) (tree p.0.ours))) (outcome m on)) deeper
        ∙ ap (λ x. while_true (sure fr.sure x) (outcome m on)) (k (15 - suc (length frs)))

    pub answered_is : (r s : Option Bool) → ((n : ℕ) → equal_within m (suc n) (tree y) (tree p.0.ours) ≡ r) → sure fr.sure r ≡ s → outcome m (fr ∷ frs) ≡ while_true s (outcome m on)
    answered_is r s k z = answered r k ∙ ap (λ x. while_true x (outcome m on)) z

    -- their children are asked
    module _ (inner : Frame) (s : Bool) (k : (n : ℕ) → equal_within m (suc n) (tree y) (tree p.0.ours) ≡ frame_answer m n inner)
        (less : (levels inner.pairs < max (height (tree y)) (height (tree p.0.ours))) × (weight inner.pairs < size (tree y) * size (tree p.0.ours))) (q : s ≡ cond inner.sure true fr.sure) (stack : List Frame) (z : stack ≡ on) where
      pub opened : outcome m (record { pairs = inner.pairs; sure = s } ∷ stack) ≡ outcome m (fr ∷ frs)
      opened =
          let n = 15 - suc (length frs) in
          let ask = answers (equal_within m n) (pairs inner.pairs) in
          ap (λ st. outcome m (record { pairs = inner.pairs; sure = s } ∷ st)) z
          ∙ ap (λ b. while_true (sure b ask) (outcome m on)) q
          ∙ ap (λ x. while_true x (outcome m on)) (sure_within inner.sure fr.sure ask)
          ∙ ap (λ x. while_true (sure fr.sure x) (outcome m on)) (sym (k n))
          ∙ ap (λ n. while_true (sure fr.sure (equal_within m n (tree y) (tree p.0.ours))) (outcome m on)) (sym deeper)
          ∙ ap (λ o. while_true (sure fr.sure (equal_found (equal_within m (15 - length frs)) (option_map tree o) (tree p.0.ours))) (outcome m on)) (sym e)
          ∙ sym stepped

      pub opened_low : AreLow (record { pairs = inner.pairs; sure = s } ∷ stack)
      opened_low = subst (λ st. AreLow (record { pairs = inner.pairs; sure = s } ∷ st)) (sym z) (omega (arith, less.0, meets.first, meets.second, low.0), on_low)

      pub opened_less : load (record { pairs = inner.pairs; sure = s } ∷ stack) < load (fr ∷ frs)
      opened_less =
          let c = mul_comm (size (tree y)) (size (tree p.0.ours)) in
          subst (λ st. load (record { pairs = inner.pairs; sure = s } ∷ st) < load (fr ∷ frs)) (sym z) (omega (arith, less.1, meets.less))

pub sure_some : (s b : Bool) (r : Option Bool) → r ≡ Some b → sure s r ≡ Some b
sure_some s b r e = ap (sure s) e ∙ sure_true s b

while_last : (r : Option Bool) → while_true r (Some true) ≡ r
while_last None = refl
while_last (Some true) = refl
while_last (Some false) = refl

-- the same of a pair that is shown: a child without a partner, that is still to be passed over
pub alone_shown : (m : Meaning) (fr : Frame) (frs : List Frame) (p : Pair × Pairs) → ShowsFirst fr.pairs p.1 (Some p.0) → p.0.theirs ≡ None → outcome m (fr ∷ frs) ≡ Some false
alone_shown m fr frs p a e = let l = left_rest fr.pairs p.1 (Some p.0) a in alone m fr frs (p.0, l.rest) l.taken e

-- the walk at its beginning
pub begun : (m : Meaning) (fr : Frame) (stack : List Frame) (a : Option Bool) → stack ≡ [] → levels fr.pairs < 16 → a ≡ frame_answer m 15 fr → (outcome m (fr ∷ stack) ≡ a) × AreLow (fr ∷ stack)
begun m fr stack a e h q =
    (ap (λ st. outcome m (fr ∷ st)) e ∙ while_last (frame_answer m 15 fr) ∙ sym q, subst (λ st. AreLow (fr ∷ st)) (sym e) (omega arith, tt))
