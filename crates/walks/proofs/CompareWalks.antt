-- The steps of the walk of `compare`.
use Rattle.std.proofs.Common.{◌≡◌, ℕ, suc, ◌-◌, ◌*◌, ◌<◌, max, Bool, true, false, cond, not, ◌&&◌, List, [], ◌∷◌, length, Some, None, Option, Ordering, Less, Equal, Greater, sym, refl, ap, ◌∙◌, subst, ap₂, arith, eq-eqb, ne_eqb, mul-pos}
use Rattle.std.proofs.lemmas.Bool.{and_parts}
use Rattle.std.specs.Prelude.{option_map, IfSome}
use Rattle.std.specs.Ordering.{nat_cmp, is_ne, MatchOrdering}
use Rattle.std.proofs.lemmas.Cmp.{ranked}
use Rattle.names.specs.Names.{same_name, good_name}
use Rattle.rules.specs.Meaning.{Meaning}
use Rattle.trees.specs.declared.codes.VariantType.TheVariants.{Unit as unit, Tuple as tuple_like, Struct as struct_like}
use Rattle.trees.specs.Name.{Name}
use Rattle.trees.specs.declared.head.Head.{Head}
use Rattle.trees.specs.declared.head.Head.TheVariants.{Leaf as leaf, Struct as struct, Tuple as tuple, List as list, Enum as enum}
use Rattle.trees.specs.Tree.{Tree, node, Forest, empty, more, labels, count, named, under, fits, size, sizes, height, heights}
use Rattle.trees.specs.Tests.{is_list}
use Rattle.trees.specs.Equal.{alike}
use Rattle.trees.specs.Compare.{while_equal, together, same_order, compare_by_place, compare_lists, compare_found, compare_by_name, compare_fields, compare_tuples, compare_nodes, compare_within}
use Rattle.cells.specs.Layout.{root, kids}
use Rattle.cells.specs.Views.{tree, forest}
use Rattle.cells.specs.declared.views.Node.{Node}
use Rattle.cells.specs.declared.views.Kids.{Kids}
use Rattle.cells.proofs.Layouts.{size_pos, height_pos}
use Rattle.walks.specs.Pairs.{by_place, by_name, partners, pairs_with, pairs, is_by_name, levels, weight, Meets, PairAndRest, ShowsFirst}
use Rattle.walks.specs.declared.pairs.Partners.{Partners}
use Rattle.walks.specs.declared.pairs.Partners.TheVariants.{ByPlace, ByName}
use Rattle.walks.specs.declared.pairs.Pair.{Pair}
use Rattle.walks.specs.declared.pairs.Pairs.{Pairs}
use Rattle.walks.specs.declared.ordering.Frame.{Frame}
use Rattle.walks.specs.CompareWalk.{first_answer, all_answers, given, frame_answer, by_head, IsFrame, IsUneven, Takes, outcome, AreLow, load}
use Rattle.walks.proofs.HeadLaws.{is_leaf, no_leaf}
use Rattle.walks.proofs.Rests.{left_rest}
use Rattle.walks.proofs.EqualWalks.{product_less}

-- rows whose names are alike so far
pub order_step : (x y x' y' : Forest) (l k : Name) (t u : Tree) → x ≡ more l t x' → y ≡ more k u y' → same_name l k ≡ true → same_order x' y' ≡ same_order x y
order_step x y x' y' l k t u e f q = sym (ap₂ same_order e f ∙ ap (λ (b : Bool). b && same_order x' y') q)

pub order_unlike : (x y x' y' : Forest) (l k : Name) (t u : Tree) → x ≡ more l t x' → y ≡ more k u y' → same_name l k ≡ false → false ≡ same_order x y
order_unlike x y x' y' l k t u e f q = sym (ap₂ same_order e f ∙ ap (λ (b : Bool). b && same_order x' y') q)

together_equal : (r : Option Ordering) → together (Some Equal) r ≡ r
together_equal None = refl
together_equal (Some x) = refl

-- a frame whose pairs are by place is done with an answer that is not equal
not_equal : (o : Ordering) (rest : Option Ordering) → is_ne o ≡ true → while_equal (Some o) rest ≡ Some o
not_equal Less rest e = refl
not_equal Equal rest e = no_leaf (sym e)
not_equal Greater rest e = refl

pub ends_with : (fr : Frame) (answer : Ordering) (row none : Kids) → fr.pairs.theirs ≡ ByPlace row → true ≡ is_ne answer → forest none ≡ empty
    → Takes fr answer (record { pairs = record { ours = none; theirs = ByPlace row }; so_far = answer })
ends_with fr answer row none e n z =
    let h : heights (forest none) ≡ 0 = ap heights z in
    let s : sizes (forest none) ≡ 0 = ap sizes z in
    let p = ap partners e in
    let q : heights (partners fr.pairs.theirs) ≡ heights (forest row) = ap heights p in
    record {
      goes = λ m n'.
          let ask = compare_within m n' in
          let all = together (Some fr.so_far) (together (Some answer) (all_answers ask (pairs fr.pairs))) in
          let first = while_equal (Some answer) (first_answer ask (pairs fr.pairs) fr.so_far) in
          ap (λ w. cond (is_by_name w) all first) e ∙ not_equal answer (first_answer ask (pairs fr.pairs) fr.so_far) (sym n)
          ∙ sym (ap (λ f. while_equal (Some Equal) (first_answer ask (by_place f (forest row)) answer)) z);
      low = omega arith;
      less = rw s (omega arith);
    }

-- which side is longer, told one child further on
shorter : (o : Ordering) (a b : ℕ) → MatchOrdering o (suc a < suc b) (suc a ≡ suc b) (suc b < suc a) → MatchOrdering o (a < b) (a ≡ b) (b < a)
shorter Less a b h = omega arith
shorter Equal a b h = omega arith
shorter Greater a b h = omega arith

module _ (ask : Tree → Tree → Option Ordering) where
  -- where one side has ended the lengths decide
  lists_are : (f g : Forest) (o : Ordering) → MatchOrdering o (count f < count g) (count f ≡ count g) (count g < count f) → compare_lists ask f g ≡ first_answer ask (by_place f g) o
  lists_are empty empty Less h = absurd (omega arith)
  lists_are empty empty Equal h = refl
  lists_are empty empty Greater h = absurd (omega arith)
  lists_are empty (more k u g) Less h = refl
  lists_are empty (more k u g) Equal h = absurd (omega arith)
  lists_are empty (more k u g) Greater h = absurd (omega arith)
  lists_are (more l t f) empty Less h = absurd (omega arith)
  lists_are (more l t f) empty Equal h = absurd (omega arith)
  lists_are (more l t f) empty Greater h = refl
  lists_are (more l t f) (more k u g) o h = ap (while_equal (ask t u)) (lists_are f g o (shorter o (count f) (count g) h))

  -- as many by position are as lists
  places_are : (f g : Forest) → count f ≡ count g → compare_by_place ask f g ≡ compare_lists ask f g
  places_are empty empty n = refl
  places_are empty (more k u g) n = absurd (omega arith)
  places_are (more l t f) empty n = absurd (omega arith)
  places_are (more l t f) (more k u g) n = ap (while_equal (ask t u)) (places_are f g (omega arith))

  names_are : (f g : Forest) → compare_by_name ask f g ≡ all_answers ask (by_name f g)
  names_are empty g = refl
  names_are (more l t f) g = ap (together (compare_found ask t (under l g))) (names_are f g)

  -- what the pairs make, by name or by place
  abbrev over : Bool → Forest → Forest → Ordering → Option Ordering
  over b f g o = cond b (together (Some o) (together (Some Equal) (all_answers ask (by_name f g)))) (while_equal (Some Equal) (first_answer ask (by_place f g) o))

  unlisted : (h : Head) → is_list h ≡ true → named h ≡ false
  unlisted (leaf p) e = refl
  unlisted struct e = no_leaf (sym e)
  unlisted tuple e = refl
  unlisted list e = refl
  unlisted (enum unit name index) e = refl
  unlisted (enum tuple_like name index) e = refl
  unlisted (enum struct_like name index) e = no_leaf (sym e)

  all_equal : (o : Ordering) (r : Option Ordering) → o ≡ Equal → together (Some o) (together (Some Equal) r) ≡ r
  all_equal o r e = ap (λ o. together (Some o) (together (Some Equal) r)) e ∙ together_equal (together (Some Equal) r) ∙ together_equal r

  is_even : (o : Ordering) (n m : ℕ) → MatchOrdering o (n < m) (n ≡ m) (m < n) → n ≡ m → o ≡ Equal
  is_even Less n m h e = absurd (omega arith)
  is_even Equal n m h e = refl
  is_even Greater n m h e = absurd (omega arith)

  by_head_is : (h : Head) (f g : Forest) (o : Ordering) → MatchOrdering o (count f < count g) (count f ≡ count g) (count g < count f) → (is_list h ≡ false → count f ≡ count g) → by_head ask h f g ≡ over (named h && not (same_order f g)) f g o
  by_head_is h f g o r k = go (is_list h) (named h) (same_order f g) refl refl refl
    where
      go : (i j s : Bool) → is_list h ≡ i → named h ≡ j → same_order f g ≡ s → by_head ask h f g ≡ over (named h && not (same_order f g)) f g o
      go true j s a b c =
          ap (λ x. cond x (compare_lists ask f g) (cond (named h) (compare_fields ask f g) (compare_tuples ask f g))) a
          ∙ lists_are f g o r ∙ sym (ap (λ x. over (x && not (same_order f g)) f g o) (unlisted h a))
      go false true true a b c =
          ap₂ (λ x y. cond x (compare_lists ask f g) (cond y (compare_fields ask f g) (compare_tuples ask f g))) a b
          ∙ ap₂ (λ x y. cond x (cond y (compare_by_place ask f g) (compare_by_name ask f g)) None) (eq-eqb (count f) (count g) (k a)) c
          ∙ places_are f g (k a) ∙ lists_are f g o r ∙ sym (ap₂ (λ x y. over (x && not y) f g o) b c)
      go false true false a b c =
          ap₂ (λ x y. cond x (compare_lists ask f g) (cond y (compare_fields ask f g) (compare_tuples ask f g))) a b
          ∙ ap₂ (λ x y. cond x (cond y (compare_by_place ask f g) (compare_by_name ask f g)) None) (eq-eqb (count f) (count g) (k a)) c
          ∙ names_are f g ∙ sym (all_equal o (all_answers ask (by_name f g)) (is_even o (count f) (count g) r (k a))) ∙ sym (ap₂ (λ x y. over (x && not y) f g o) b c)
      go false false s a b c =
          ap₂ (λ x y. cond x (compare_lists ask f g) (cond y (compare_fields ask f g) (compare_tuples ask f g))) a b
          ∙ ap (λ x. cond x (compare_by_place ask f g) None) (eq-eqb (count f) (count g) (k a))
          ∙ places_are f g (k a) ∙ lists_are f g o r ∙ sym (ap (λ x. over (x && not (same_order f g)) f g o) b)

  uneven_is : (h : Head) (f g : Forest) → is_list h ≡ false → (count f ≡ count g → ⊥) → by_head ask h f g ≡ None
  uneven_is h f g a k =
      ap (λ x. cond x (compare_lists ask f g) (cond (named h) (compare_fields ask f g) (compare_tuples ask f g))) a ∙ go (named h)
    where
      go : (b : Bool) → cond b (compare_fields ask f g) (compare_tuples ask f g) ≡ None
      go true = ap (λ (x : Bool). cond x (cond (same_order f g) (compare_by_place ask f g) (compare_by_name ask f g)) None) (ne_eqb (count f) (count g) k)
      go false = ap (λ (x : Bool). cond x (compare_by_place ask f g) None) (ne_eqb (count f) (count g) k)

-- no leaf, and unlike the other
pub unlike_are : (m : Meaning) (ask : Tree → Tree → Option Ordering) (h : Head) (f : Forest) (k : Head) (g : Forest) → is_leaf h ≡ false → alike h k ≡ false → compare_nodes m ask h f k g ≡ None
unlike_are m ask (leaf p) f k g n e = no_leaf n
unlike_are m ask struct f k g n e = ap (λ (b : Bool). cond b (compare_fields ask f g) None) e
unlike_are m ask tuple f k g n e = ap (λ (b : Bool). cond b (compare_tuples ask f g) None) e
unlike_are m ask list f k g n e = ap (λ (b : Bool). cond b (compare_lists ask f g) None) e
unlike_are m ask (enum unit name index) f k g n e = ap (λ (b : Bool). cond b (Some Equal) None) e
unlike_are m ask (enum tuple_like name index) f k g n e = ap (λ (b : Bool). cond b (compare_tuples ask f g) None) e
unlike_are m ask (enum struct_like name index) f k g n e = ap (λ (b : Bool). cond b (compare_fields ask f g) None) e

-- a unit enum has no fields
no_fields : (name : Name) (f : Forest) → fits (enum unit name 0) (labels f) ≡ true → f ≡ empty
no_fields name empty e = refl
no_fields name (more l t f) e = no_leaf (sym (and_parts (good_name name) false e).1)

units : (ask : Tree → Tree → Option Ordering) (name : Name) (f : Forest) (k : Head) (g : Forest) → alike (enum unit name 0) k ≡ true → fits (enum unit name 0) (labels f) ≡ true → fits k (labels g) ≡ true → Some Equal ≡ compare_tuples ask f g
units ask name f (leaf p) g e v w = no_leaf (sym e)
units ask name f struct g e v w = no_leaf (sym e)
units ask name f tuple g e v w = no_leaf (sym e)
units ask name f list g e v w = no_leaf (sym e)
units ask name f (enum unit other i) g e v w = sym (ap₂ (compare_tuples ask) (no_fields name f v) (no_fields other g w))
units ask name f (enum tuple_like other i) g e v w = no_leaf (sym e)
units ask name f (enum struct_like other i) g e v w = no_leaf (sym e)

-- alike: the children decide
like_are : (m : Meaning) (ask : Tree → Tree → Option Ordering) (h : Head) (f : Forest) (k : Head) (g : Forest) → is_leaf h ≡ false → alike h k ≡ true → fits h (labels f) ≡ true → fits k (labels g) ≡ true → compare_nodes m ask h f k g ≡ by_head ask h f g
like_are m ask (leaf p) f k g n e v w = no_leaf n
like_are m ask struct f k g n e v w = ap (λ (b : Bool). cond b (compare_fields ask f g) None) e
like_are m ask tuple f k g n e v w = ap (λ (b : Bool). cond b (compare_tuples ask f g) None) e
like_are m ask list f k g n e v w = ap (λ (b : Bool). cond b (compare_lists ask f g) None) e
like_are m ask (enum unit name index) f k g n e v w = ap (λ (b : Bool). cond b (Some Equal) None) e ∙ units ask name f k g e v w
like_are m ask (enum tuple_like name index) f k g n e v w = ap (λ (b : Bool). cond b (compare_tuples ask f g) None) e
like_are m ask (enum struct_like name index) f k g n e v w = ap (λ (b : Bool). cond b (compare_fields ask f g) None) e

pub within_is : (m : Meaning) (n : ℕ) (t u : Tree) → compare_within m (suc n) t u ≡ compare_nodes m (compare_within m n) (root t) (kids t) (root u) (kids u)
within_is m n (node h f) (node k g) = refl

-- two alike nodes met
module _ (m : Meaning) (n : ℕ) (h : Head) (f : Forest) (k : Head) (g : Forest) (leafless : is_leaf h ≡ false) (like : alike h k ≡ true) (v : fits h (labels f) ≡ true) (w : fits k (labels g) ≡ true)
    (ours theirs : Kids) (p : forest ours ≡ f) (q : forest theirs ≡ g) where
  pub uneven : IsUneven h ours theirs → compare_nodes m (compare_within m n) h f k g ≡ None
  uneven r =
      like_are m (compare_within m n) h f k g leafless like v w
      ∙ uneven_is (compare_within m n) h f g r.other (λ e. r.unlike (ap count p ∙ e ∙ sym (ap count q)))

  pub framed : (fr : Frame) → IsFrame h ours theirs fr → compare_nodes m (compare_within m n) h f k g ≡ frame_answer m n fr
  framed fr r =
      let ask = compare_within m n in
      let a = ap₂ (λ x y. nat_cmp (count x) (count y)) p q in
      like_are m ask h f k g leafless like v w
      ∙ by_head_is ask h f g fr.so_far (ranked (count f) (count g) fr.so_far (r.last ∙ a)) (λ e. sym (ap count p) ∙ r.even e ∙ ap count q)
      ∙ ap₂ (λ x y. over ask (named h && not (same_order x y)) x y fr.so_far) (sym p) (sym q)
      ∙ ap (λ b. over ask b (forest ours) (forest theirs) fr.so_far) (sym r.way)
      ∙ ap₂ (λ x y. over ask (is_by_name fr.pairs.theirs) x y fr.so_far) (sym r.first) (sym r.row)
      ∙ go fr.pairs.theirs
    where
      go : (w : Partners) → over (compare_within m n) (is_by_name w) (forest fr.pairs.ours) (partners w) fr.so_far ≡ cond (is_by_name w) (together (Some fr.so_far) (together (Some Equal) (all_answers (compare_within m n) (pairs_with (forest fr.pairs.ours) w)))) (while_equal (Some Equal) (first_answer (compare_within m n) (pairs_with (forest fr.pairs.ours) w) fr.so_far))
      go (ByPlace row) = refl
      go (ByName fields) = refl

pub frame_less : (h : Head) (t u : Tree) (ours theirs : Kids) (fr : Frame) → forest ours ≡ kids t → forest theirs ≡ kids u → IsFrame h ours theirs fr → (levels fr.pairs < max (height t) (height u)) × (weight fr.pairs < size t * size u)
frame_less h (node i f) (node j g) ours theirs fr p q r =
    let hx = ap heights (r.first ∙ p) in
    let hy = ap heights (r.row ∙ q) in
    let w : weight fr.pairs ≡ sizes f * sizes g = ap₂ (λ a b. sizes a * sizes b) (r.first ∙ p) (r.row ∙ q) in
    (omega arith, rw w (product_less (sizes f) (sizes g)))

together_all : (x : Ordering) → together (Some x) (Some Equal) ≡ Some x
together_all Less = refl
together_all Equal = refl
together_all Greater = refl

given_none : (m : Meaning) (n : ℕ) (fr : Frame) → given m n fr None ≡ None
given_none m n fr = go (is_by_name fr.pairs.theirs)
  where
    go : (b : Bool) → cond b (together (Some fr.so_far) (together None (all_answers (compare_within m n) (pairs fr.pairs)))) (while_equal None (first_answer (compare_within m n) (pairs fr.pairs) fr.so_far)) ≡ None
    go true = refl
    go false = refl

outcome_none : (m : Meaning) (frs : List Frame) → outcome m frs None ≡ None
outcome_none m [] = refl
outcome_none m (fr ∷ frs) = ap (outcome m frs) (given_none m (15 - length frs) fr) ∙ outcome_none m frs

-- a frame with nothing left
done : (m : Meaning) (n : ℕ) (fr : Frame) → pairs fr.pairs ≡ [] → frame_answer m n fr ≡ Some fr.so_far
done m n fr e = ap (λ ps. cond (is_by_name fr.pairs.theirs) (together (Some fr.so_far) (together (Some Equal) (all_answers (compare_within m n) ps))) (while_equal (Some Equal) (first_answer (compare_within m n) ps fr.so_far))) e ∙ go (is_by_name fr.pairs.theirs)
  where
    go : (b : Bool) → cond b (together (Some fr.so_far) (together (Some Equal) (Some Equal))) (while_equal (Some Equal) (Some fr.so_far)) ≡ Some fr.so_far
    go true = together_all fr.so_far
    go false = refl

module _ (m : Meaning) (fr : Frame) (stack : List Frame) (e : pairs fr.pairs ≡ []) where
  pub last_done : stack ≡ [] → outcome m stack (frame_answer m (15 - length stack) fr) ≡ Some fr.so_far
  last_done z = ap (λ st. outcome m st (frame_answer m (15 - length st) fr)) z ∙ done m 15 fr e

  module _ (around : Frame) (frs : List Frame) (z : stack ≡ around ∷ frs) where
    around_is : outcome m stack (frame_answer m (15 - length stack) fr) ≡ outcome m frs (given m (15 - length frs) around (Some fr.so_far))
    around_is = ap (outcome m stack) (done m (15 - length stack) fr e) ∙ ap (λ st. outcome m st (Some fr.so_far)) z

    pub clash_around : ((m : Meaning) (n : ℕ) → given m n around (Some fr.so_far) ≡ None) → outcome m stack (frame_answer m (15 - length stack) fr) ≡ None
    clash_around k = around_is ∙ ap (outcome m frs) (k m (15 - length frs)) ∙ outcome_none m frs

    pub on_around : (new : Frame) → Takes around fr.so_far new → outcome m frs (frame_answer m (15 - length frs) new) ≡ outcome m stack (frame_answer m (15 - length stack) fr)
    on_around new t = ap (outcome m frs) (sym (t.goes m (15 - length frs))) ∙ sym around_is

    pub low_around : (new : Frame) → Takes around fr.so_far new → AreLow (fr ∷ stack) → AreLow (new ∷ frs)
    low_around new t l = let k = subst AreLow z l.1 in (omega (arith, t.low, k.0), k.1)

    pub less_around : (new : Frame) → Takes around fr.so_far new → load (new ∷ frs) < load (fr ∷ stack)
    less_around new t = subst (λ st. load (new ∷ frs) < load (fr ∷ st)) (sym z) (omega (arith, t.less))

-- the first pair of the innermost frame, and the rest
module _ (m : Meaning) (fr : Frame) (frs : List Frame) (p : Pair × Pairs) (a : PairAndRest fr.pairs p) where
  abbrev pub on : Frame
  on = record { pairs = p.1; so_far = fr.so_far }

  abbrev asks : Tree → Tree → Option Ordering
  asks = compare_within m (15 - length frs)

  abbrev first : Option Ordering
  first = compare_found asks (tree p.0.ours) (option_map tree p.0.theirs)

  stepped : frame_answer m (15 - length frs) fr ≡ given m (15 - length frs) on (compare_found (compare_within m (15 - length frs)) (tree p.0.ours) (option_map tree p.0.theirs))
  stepped =
      ap (λ ps. cond (is_by_name fr.pairs.theirs) (together (Some fr.so_far) (together (Some Equal) (all_answers asks ps))) (while_equal (Some Equal) (first_answer asks ps fr.so_far))) a.split
      ∙ go (is_by_name fr.pairs.theirs)
      ∙ ap (λ b. cond b (together (Some fr.so_far) (together first (all_answers asks (pairs p.1)))) (while_equal first (first_answer asks (pairs p.1) fr.so_far))) (sym a.alike)
    where
      go : (b : Bool) → cond b (together (Some fr.so_far) (together (Some Equal) (together first (all_answers asks (pairs p.1))))) (while_equal (Some Equal) (while_equal first (first_answer asks (pairs p.1) fr.so_far)))
          ≡ cond b (together (Some fr.so_far) (together first (all_answers asks (pairs p.1)))) (while_equal first (first_answer asks (pairs p.1) fr.so_far))
      go true = ap (together (Some fr.so_far)) (together_equal (together first (all_answers asks (pairs p.1))))
      go false = refl

  pub alone : p.0.theirs ≡ None → outcome m frs (frame_answer m (15 - length frs) fr) ≡ None
  alone e =
      ap (outcome m frs) (stepped ∙ ap (λ o. given m (15 - length frs) on (compare_found (compare_within m (15 - length frs)) (tree p.0.ours) (option_map tree o))) e ∙ given_none m (15 - length frs) on)
      ∙ outcome_none m frs

  module _ (y : Node) (e : p.0.theirs ≡ Some y) (low : AreLow (fr ∷ frs)) where
    meets : Meets fr.pairs p.1 (tree p.0.ours) (tree y)
    meets = subst (λ o. IfSome o (λ y. Meets fr.pairs p.1 (tree p.0.ours) (tree y))) e a.met

    deeper : 15 - length frs ≡ suc (15 - suc (length frs))
    deeper = omega (arith, height_pos (tree y), meets.second, low.0)

    pub room : length frs < 16
    room = omega (arith, low.0)

    answered : (r : Option Ordering) → compare_within m (suc (15 - suc (length frs))) (tree p.0.ours) (tree y) ≡ r → frame_answer m (15 - length frs) fr ≡ given m (15 - length frs) on r
    answered r k =
        stepped ∙ ap (λ o. given m (15 - length frs) on (compare_found (compare_within m (15 - length frs)) (tree p.0.ours) (option_map tree o))) e
        ∙ ap (λ n. given m (15 - length frs) on (compare_within m n (tree p.0.ours) (tree y))) deeper
        ∙ ap (given m (15 - length frs) on) k

    -- none at once, or from what all answers make
    module _ (r : Option Ordering) (k : (n : ℕ) → compare_within m (suc n) (tree p.0.ours) (tree y) ≡ r) where
      pub none_met : r ≡ None → outcome m frs (frame_answer m (15 - length frs) fr) ≡ None
      none_met z = ap (outcome m frs) (answered r (k (15 - suc (length frs))) ∙ ap (given m (15 - length frs) on) z ∙ given_none m (15 - length frs) on) ∙ outcome_none m frs

      module _ (o : Ordering) (z : r ≡ Some o) where
        pub clash : ((m : Meaning) (n : ℕ) → given m n on (Some o) ≡ None) → outcome m frs (frame_answer m (15 - length frs) fr) ≡ None
        clash c = ap (outcome m frs) (answered r (k (15 - suc (length frs))) ∙ ap (given m (15 - length frs) on) z ∙ c m (15 - length frs)) ∙ outcome_none m frs

        pub goes_on : (new : Frame) → Takes on o new → outcome m frs (frame_answer m (15 - length frs) new) ≡ outcome m frs (frame_answer m (15 - length frs) fr)
        goes_on new t = ap (outcome m frs) (sym (t.goes m (15 - length frs)) ∙ ap (given m (15 - length frs) on) (sym z) ∙ sym (answered r (k (15 - suc (length frs)))))

        pub on_low : (new : Frame) → Takes on o new → AreLow (new ∷ frs)
        on_low new t = (omega (arith, a.low, t.low, low.0), low.1)

        pub on_less : (new : Frame) → Takes on o new → load (new ∷ frs) < load (fr ∷ frs)
        on_less new t =
            let s = mul-pos {m = size (tree p.0.ours)} {n = size (tree y)} (size_pos (tree p.0.ours)) (size_pos (tree y)) in
            omega (arith, meets.less, t.less)

    -- their children are asked
    module _ (inner : Frame) (k : (n : ℕ) → compare_within m (suc n) (tree p.0.ours) (tree y) ≡ frame_answer m n inner)
        (less : (levels inner.pairs < max (height (tree p.0.ours)) (height (tree y))) × (weight inner.pairs < size (tree p.0.ours) * size (tree y))) (stack : List Frame) (z : stack ≡ on ∷ frs) where
      pub opened : outcome m stack (frame_answer m (15 - length stack) inner) ≡ outcome m frs (frame_answer m (15 - length frs) fr)
      opened = ap (λ st. outcome m st (frame_answer m (15 - length st) inner)) z ∙ ap (outcome m frs) (sym (answered (frame_answer m (15 - suc (length frs)) inner) (k (15 - suc (length frs)))))

      pub opened_low : AreLow (inner ∷ stack)
      opened_low = subst (λ st. AreLow (inner ∷ st)) (sym z) (omega (arith, less.0, meets.first, meets.second, low.0), (omega (arith, a.low, low.0), low.1))

      pub opened_less : load (inner ∷ stack) < load (fr ∷ frs)
      opened_less = subst (λ st. load (inner ∷ st) < load (fr ∷ frs)) (sym z) (omega (arith, less.1, meets.less))

-- the same of a pair that is shown: a child without a partner, that is still to be passed over
pub alone_shown : (m : Meaning) (fr : Frame) (frs : List Frame) (p : Pair × Pairs) → ShowsFirst fr.pairs p.1 (Some p.0) → p.0.theirs ≡ None → outcome m frs (frame_answer m (15 - length frs) fr) ≡ None
alone_shown m fr frs p a e = let l = left_rest fr.pairs p.1 (Some p.0) a in alone m fr frs (p.0, l.rest) l.taken e

-- the walk at its beginning
pub begun : (m : Meaning) (fr : Frame) (stack : List Frame) (a : Option Ordering) → stack ≡ [] → levels fr.pairs < 16 → a ≡ frame_answer m 15 fr → (outcome m stack (frame_answer m (15 - length stack) fr) ≡ a) × AreLow (fr ∷ stack)
begun m fr stack a e h q = (ap (λ st. outcome m st (frame_answer m (15 - length st) fr)) e ∙ sym q, subst (λ st. AreLow (fr ∷ st)) (sym e) (omega arith, tt))
