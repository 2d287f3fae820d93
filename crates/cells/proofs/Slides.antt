-- Runs of cells that slide by a few places, and a run of one cell that others slide over.
use Rattle.std.proofs.Common.{◌≡◌, ℕ, ◌+◌, ◌-◌, ◌<◌, ◌≤◌, refl, sym, ap, ◌∙◌, add-zero, add-one, arith}
use Rattle.std.proofs.Common.{List, [], ◌∷◌, ◌++◌, length, get_or, take, drop, set, append_assoc}
use Rattle.std.proofs.Common.{length-append, length-drop, length-take-le, get_or-drop, get_or-take}
use Rattle.std.proofs.Common.{drop-drop, take_at, drop_at}
use lib.Seq.{set_at, paste}
use Rattle.std.proofs.lemmas.List.{get_or_append_left, take_more, drop_more}
use Rattle.std.proofs.lemmas.List.Edits.{paste_more, drop-paste}

-- a run of one cell is the cell that is read where it begins
alone : {X : Type 0} (q r : List X) (z : X) → length q ≡ 1 → q ≡ get_or (q ++ r) 0 z ∷ []
alone [] r z h = absurd (omega (arith, h))
alone (x ∷ []) r z h = refl
alone (x ∷ (y ∷ q)) r z h = absurd (omega (arith, h))

alone_at : {X : Type 0} (xs q r : List X) (i : ℕ) (z : X)
    → drop i xs ≡ q ++ r → length q ≡ 1 → q ≡ get_or xs i z ∷ []
alone_at xs q r i z e h =
    alone q r z h
    ∙ ap (λ l. get_or l 0 z ∷ []) (sym e)
    ∙ ap (λ x. x ∷ []) (get_or-drop i xs 0 z)
    ∙ ap (λ j. get_or xs j z ∷ []) (add-zero i)

module _ {X : Type 0} (p q r s : List X) (from mid to : ℕ) (xs : List X)
    (e : xs ≡ p ++ (q ++ (r ++ s))) (a : length p ≡ from) (b : from + length q ≡ mid)
    (d : mid + length r ≡ to) where
  -- what stands from each of the three positions on
  from_first : drop from xs ≡ q ++ (r ++ s)
  from_first = ap (drop from) e ∙ drop_at p _ from a

  from_second : drop mid xs ≡ r ++ s
  from_second =
      ap (drop mid) (e ∙ sym (append_assoc p q (r ++ s)))
      ∙ drop_at (p ++ q) (r ++ s) mid (omega (arith, length-append p q))

  from_rest : drop to xs ≡ s
  from_rest =
      ap (λ i. drop i xs) (sym d)
      ∙ sym (drop-drop (length r) mid xs)
      ∙ ap (drop (length r)) from_second
      ∙ drop_at r s (length r) refl

  reach : to ≤ length xs
  reach =
      let l1 = length-append p (q ++ (r ++ s)) in
      let l2 = length-append q (r ++ s) in
      omega (arith, ap length e, l1, l2, length-append r s)

  -- a first run of one cell, put behind the second, which has slid down
  pub first_behind : (n : ℕ) (ys : List X) (z : X) → length q ≡ 1 → n ≡ length r
      → ys ≡ paste xs from (drop mid xs) n
      → set ys (from + n) (get_or xs from z) ≡ p ++ (r ++ (q ++ s))
  first_behind n ys z one k w =
      let v = get_or xs from z in
      let y = get_or xs (from + n) z in
      let c : from + n + 1 ≡ to = omega arith in
      let e1 : q ≡ v ∷ [] = alone_at xs q (r ++ s) from z from_first one in
      let e2 : take from xs ≡ p = ap (take from) e ∙ take_at p _ from a in
      let e3 : take n (drop mid xs) ≡ r = ap (take n) from_second ∙ take_at r s n (sym k) in
      let e4 : drop (from + n) xs ≡ y ∷ s =
      drop_more xs (from + n) z (omega (arith, reach))
      ∙ ap (λ i. y ∷ drop i xs) c
      ∙ ap (λ l. y ∷ l) from_rest in
      let e5 : ys ≡ (p ++ r) ++ (y ∷ s) = cc in
      ap (λ l. set l (from + n) v) e5
      ∙ set_at (p ++ r) y s v (from + n) (omega (arith, length-append p r))
      ∙ append_assoc p r (v ∷ s)
      ∙ ap (λ l. p ++ (r ++ (l ++ s))) (sym e1)

  -- a second run of one cell, put before the first, which has slid up
  pub second_before : (n : ℕ) (ys : List X) (z : X) → length r ≡ 1 → n ≡ length q
      → ys ≡ paste xs (to - n) (drop (mid - n) xs) n
      → set ys from (get_or xs mid z) ≡ p ++ (r ++ (q ++ s))
  second_before n ys z one k w =
      let v = get_or xs mid z in
      let y = get_or xs from z in
      let c : to - n ≡ from + 1 = omega arith in
      let f : mid - n ≡ from = omega arith in
      let g : to - n + n ≡ to = omega arith in
      let e1 : r ≡ v ∷ [] = alone_at xs r s mid z from_second one in
      let e2 : take (from + 1) xs ≡ p ++ (y ∷ []) =
      take_more xs from z (omega (arith, reach))
      ∙ ap (λ l. l ++ (y ∷ [])) (ap (take from) e ∙ take_at p _ from a) in
      let e3 : take n (drop from xs) ≡ q = ap (take n) from_first ∙ take_at q _ n (sym k) in
      let e4 : drop to xs ≡ s = from_rest in
      let e5 : ys ≡ ((p ++ (y ∷ [])) ++ q) ++ s = cc in
      ap (λ l. set l from v)
      (e5 ∙ append_assoc (p ++ (y ∷ [])) q s ∙ append_assoc p (y ∷ []) (q ++ s))
      ∙ set_at p y (q ++ s) v from a
      ∙ ap (λ l. p ++ (l ++ (q ++ s))) (sym e1)

-- one more cell of a run that slides down, its first cell first
pub down_more : {X : Type 0} (d : List X) (from to i : ℕ) (xs : List X) (z : X)
    → xs ≡ paste d to (drop from d) i → to ≤ from → from + i < length d
    → set xs (to + i) (get_or xs (from + i) z) ≡ paste d to (drop from d) (i + 1)
down_more d from to i xs z e h k =
    let x = get_or xs (from + i) z in
    let n : i < length (drop from d) = omega (arith, length-drop from d) in
    let f : from + i ≡ to + i + (from - to) = omega arith in
    let w : drop (to + i) xs ≡ drop (to + i) d =
    ap (drop (to + i)) e ∙ drop-paste d to (drop from d) i (omega arith) (omega arith) in
    let g : x ≡ get_or (drop from d) i z =
    ap (λ j. get_or xs j z) f
    ∙ sym (get_or-drop (to + i) xs (from - to) z)
    ∙ ap (λ l. get_or l (from - to) z) w
    ∙ get_or-drop (to + i) d (from - to) z
    ∙ ap (λ j. get_or d j z) (sym f)
    ∙ sym (get_or-drop from d i z) in
    ap (λ l. set l (to + i) x) e
    ∙ ap (set (paste d to (drop from d) i) (to + i)) g
    ∙ paste_more d to (drop from d) i z (omega arith) n

-- one more cell of a run that slides up, its last cell first: the one at f comes to t
up_at : {X : Type 0} (d : List X) (f t i : ℕ) (xs : List X) (z : X)
    → xs ≡ paste d (t + 1) (drop (f + 1) d) i → f ≤ t → t + 1 + i ≤ length d
    → set xs t (get_or xs f z) ≡ paste d t (drop f d) (i + 1)
up_at d f t i xs z e h k =
    let x = get_or d t z in
    let y = get_or d f z in
    let a = take t d in
    let m = take i (drop (f + 1) d) in
    let r = drop (t + 1 + i) d in
    let n : f < length (take (t + 1) d) = omega (arith, length-take-le (t + 1) d (omega arith)) in
    let o : f < length (take (t + 1) d ++ m) = omega (arith, length-append (take (t + 1) d) m) in
    let read : get_or xs f z ≡ y =
    ap (λ l. get_or l f z) e
    ∙ get_or_append_left (take (t + 1) d ++ m) r z f o
    ∙ get_or_append_left (take (t + 1) d) m z f n
    ∙ get_or-take (t + 1) d f z (omega arith) in
    let cut : xs ≡ a ++ (x ∷ (m ++ r)) =
    e
    ∙ ap (λ l. (l ++ m) ++ r) (take_more d t z (omega arith))
    ∙ ap (λ l. l ++ r) (append_assoc a (x ∷ []) m)
    ∙ append_assoc a (x ∷ m) r in
    let front : take (i + 1) (drop f d) ≡ y ∷ m =
    ap (take (i + 1)) (drop_more d f z (omega arith))
    ∙ ap (λ j. take j (y ∷ drop (f + 1) d)) (add-one i) in
    let far : t + 1 + i ≡ t + (i + 1) = omega arith in
    ap (set xs t) read
    ∙ ap (λ l. set l t y) cut
    ∙ set_at a x (m ++ r) y t (length-take-le t d (omega arith))
    ∙ sym (append_assoc a (y ∷ m) r)
    ∙ ap (λ l. (a ++ l) ++ r) (sym front)
    ∙ ap (λ j. (a ++ take (i + 1) (drop f d)) ++ drop j d) far

pub up_more : {X : Type 0} (d : List X) (from to i : ℕ) (xs : List X) (z : X)
    → xs ≡ paste d (to - i) (drop (from - i) d) i → i < from → from ≤ to → to ≤ length d
    → set xs (to - 1 - i) (get_or xs (from - 1 - i) z)
    ≡ paste d (to - (i + 1)) (drop (from - (i + 1)) d) (i + 1)
up_more d from to i xs z e h j k =
    let f = from - 1 - i in
    let t = to - 1 - i in
    let a : from - i ≡ f + 1 = omega arith in
    let b : to - i ≡ t + 1 = omega arith in
    let c : from - (i + 1) ≡ f = omega arith in
    let g : to - (i + 1) ≡ t = omega arith in
    let w : xs ≡ paste d (t + 1) (drop (f + 1) d) i = cc in
    let m = up_at d f t i xs z w (omega arith) (omega arith) in
    cc
