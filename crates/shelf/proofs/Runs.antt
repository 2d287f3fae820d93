-- The cells of the slots, and what a shelf shows after a change of one slot or of the free cells.
use Rattle.std.proofs.Common.{◌≡◌, ℕ, zero, suc, ◌+◌, ◌<◌, ◌≤◌, List, [], ◌∷◌, ◌++◌, map, length, get_or, take, drop, set, Some, None, sum_by, sum, Option, sym, refl, ap, ◌∙◌, subst, append_assoc, arith, length-append, length-set, take_all, take_at, drop_at, MutBor}
use lib.ListN.{length-map}
use lib.Seq.{set_at, set-get_or, map-set}
use Rattle.std.proofs.lemmas.List.Sums.{sum_by-cons, sum-map}
use Rattle.std.proofs.lemmas.List.{get_or-map, take-map}
use Rattle.trees.specs.Tree.{Tree}
use Rattle.trees.specs.State.{Slots, State, slot, nodes, used, put_slot}
use Rattle.cells.specs.declared.types.Cell.{Cell}
use Rattle.cells.specs.Layout.{encode}
use Rattle.cells.proofs.Layouts.{length-encode, size_pos}
use Rattle.cells.proofs.Focuses.{relabelled}
use Rattle.trees.specs.Name.{Name}
use Rattle.shelf.specs.declared.rack.Rack.{Rack}
use Rattle.shelf.specs.Holds.{run, laid, IsLaid, Shows, IsKept, IsLoose}
use Rattle.shelf.specs.Known.{rest_of, is_of}

length_run : (o : Option Tree) → length (run o) ≡ nodes o
length_run None = refl
length_run (Some t) = length-encode [] t

pub length-laid : (m : Slots) → length (laid m) ≡ used m
length-laid [] = refl
length-laid (o ∷ m) = omega (arith, length-append (run o) (laid m), length_run o, length-laid m)

-- the nodes of the slots, counted by their sizes
used_sum : (m : Slots) → sum (map nodes m) ≡ used m
used_sum m = sum-map nodes m ∙ go m
  where
    go : (m : Slots) → sum_by nodes m ≡ used m
    go [] = refl
    go (o ∷ m) = sum_by-cons nodes o m ∙ ap (λ n. nodes o + n) (go m)

-- those below a slot, its own and those above
pub used_split : (m : Slots) (i : ℕ) → used (take i m) + (nodes (slot m i) + used (drop (suc i) m)) ≡ used m
used_split [] zero = refl
used_split [] (suc i) = refl
used_split (o ∷ m) zero = omega arith
used_split (o ∷ m) (suc i) = omega (arith, used_split m i)

pub used_set : (m : Slots) (i : ℕ) (o : Option Tree) → i < length m → used (set m i o) + nodes (slot m i) ≡ used m + nodes o
used_set [] i o h = absurd (omega arith)
used_set (x ∷ m) zero o h = omega arith
used_set (x ∷ m) (suc i) o h = omega (arith, used_set m i o (omega arith))

-- the cells below a slot, the slot's and those above
pub laid_set : (m : Slots) (i : ℕ) (o : Option Tree) → i < length m → laid (set m i o) ≡ laid (take i m) ++ (run o ++ laid (drop (suc i) m))
laid_set [] i o h = absurd (omega arith)
laid_set (x ∷ m) zero o h = refl
laid_set (x ∷ m) (suc i) o h = ap (λ l. run x ++ l) (laid_set m i o (omega arith)) ∙ sym (append_assoc (run x) (laid (take i m)) _)

pub laid_at : (m : Slots) (i : ℕ) → i < length m → laid m ≡ laid (take i m) ++ (run (slot m i) ++ laid (drop (suc i) m))
laid_at m i h = ap laid (sym (set-get_or m i None)) ∙ laid_set m i (slot m i) h

module _ {cells : List Cell} {sizes : List ℕ} {m : Slots} (l : IsLaid cells sizes m) where
  pub size_at : (i : ℕ) → i < 16 → get_or sizes i 0 ≡ nodes (slot m i)
  size_at i h = ap (λ xs. get_or xs i 0) l.sized ∙ get_or-map nodes m i None 0 (omega (arith, l.sixteen))

  pub start_is : (i : ℕ) → sum (take i sizes) ≡ used (take i m)
  start_is i = ap (λ xs. sum (take i xs)) l.sized ∙ ap sum (take-map nodes i m) ∙ used_sum (take i m)

  pub total_is : sum (take 16 sizes) ≡ used m
  total_is = start_is 16 ∙ ap used (take_all 16 m (omega (arith, l.sixteen)))

  pub start_within : (i : ℕ) → i < 16 → used (take i m) + get_or sizes i 0 ≤ used m
  start_within i h = omega (arith, size_at i h, used_split m i)

  pub sizes_sixteen : length sizes ≡ 16
  sizes_sixteen = ap length l.sized ∙ length-map m nodes ∙ l.sixteen

  -- the cells below a slot, its own, those above and what is free
  pub cells_split : (i : ℕ) → i < 16 → cells ≡ laid (take i m) ++ (run (slot m i) ++ (laid (drop (suc i) m) ++ rest_of l))
  cells_split i h = is_of l ∙ ap (λ xs. xs ++ rest_of l) (laid_at m i (omega (arith, l.sixteen))) ∙ simp append_assoc

  pub cells_join : (i : ℕ) (o : Option Tree) (xs rest : List Cell) → i < 16 → xs ≡ laid (take i m) ++ (run o ++ (laid (drop (suc i) m) ++ rest)) → xs ≡ laid (set m i o) ++ rest
  cells_join i o xs rest h e = e ∙ sym (ap (λ xs. xs ++ rest) (laid_set m i o (omega (arith, l.sixteen))) ∙ simp append_assoc)

  pub length_own : (i : ℕ) → i < 16 → length (run (slot m i)) ≡ get_or sizes i 0
  length_own i h = length_run (slot m i) ∙ sym (size_at i h)

  pub length_high : (i : ℕ) → i < 16 → used (take i m) + get_or sizes i 0 + length (laid (drop (suc i) m)) ≡ used m
  length_high i h = omega (arith, used_split m i, size_at i h, length-laid (drop (suc i) m))

  -- the cells of a slot
  pub run_at : (i at n : ℕ) → i < 16 → at ≡ used (take i m) → n ≡ get_or sizes i 0 → take n (drop at cells) ≡ run (slot m i)
  run_at i at n h a k =
      ap (λ xs. take n (drop at xs)) (cells_split i h) ∙ ap (take n) (drop_at (laid (take i m)) _ at (length-laid (take i m) ∙ sym a)) ∙ take_at (run (slot m i)) _ n (length_own i h ∙ sym k)

  -- the nodes after a change of one slot
  pub nodes_set : (i : ℕ) (o : Option Tree) → i < 16 → used (set m i o) + get_or sizes i 0 ≡ used m + nodes o
  nodes_set i o h = omega (arith, size_at i h, used_set m i o (omega (arith, l.sixteen)))

  -- another tree in a slot
  pub laid_changed : {cells' : List Cell} (i : ℕ) (o : Option Tree) (n : ℕ) (rest : List Cell) → cells' ≡ laid (set m i o) ++ rest → n ≡ nodes o → IsLaid cells' (set sizes i n) (set m i o)
  laid_changed i o n rest e k =
      record {
        sixteen = length-set m i o ∙ l.sixteen;
        is = ap (take (used (set m i o))) e ∙ take_at (laid (set m i o)) rest _ (length-laid (set m i o));
        sized = ap (λ xs. set xs i n) l.sized ∙ ap (set (map nodes m) i) k ∙ sym (map-set nodes m i o);
      }

nodes_none : (o : Option Tree) → nodes o ≤ 0 → o ≡ None
nodes_none None h = refl
nodes_none (Some t) h = absurd (omega (arith, size_pos t))

nodes_some : (o : Option Tree) → 0 < nodes o → (t : Tree) × (o ≡ Some t)
nodes_some None h = absurd (omega arith)
nodes_some (Some t) h = (t, refl)

-- a slot of no size is empty, and one of some size holds a tree
pub none_at : {cells : List Cell} {sizes : List ℕ} {m : Slots} → IsLaid cells sizes m → (i : ℕ) → i < 16 → get_or sizes i 0 ≤ 0 → slot m i ≡ None
none_at {m} l i h z = nodes_none (slot m i) (omega (arith, size_at l i h))

pub some_at : {cells : List Cell} {sizes : List ℕ} {m : Slots} → IsLaid cells sizes m → (i : ℕ) → i < 16 → 0 < get_or sizes i 0 → (t : Tree) × (slot m i ≡ Some t)
some_at {m} l i h z = nodes_some (slot m i) (omega (arith, size_at l i h))

kept_same : {i : Rack} (i' : Rack) {s : State} → Shows i s → i'.saved ≡ i.saved → i'.mark ≡ i.mark → IsKept i'.saved.now i'.mark s.capacity s.saved
kept_same {i} i' {s} h a m = subst (λ (x : MutBor (List Cell)). IsKept x.now i'.mark s.capacity s.saved) (sym a) (subst (λ x. IsKept i.saved.now x s.capacity s.saved) (sym m) h.kept)

-- the state after a change of one slot
module _ {i i' : Rack} {s : State} (h : Shows i s) (at : ℕ) (o : Option Tree) (rest : List Cell) where
  pub shows_slot : i'.cells.now ≡ laid (set s.slots at o) ++ rest
      → length i'.cells.now ≡ length i.cells.now
      → i'.sizes ≡ set i.sizes at (nodes o)
      → i'.used ≡ used (set s.slots at o)
      → used (set s.slots at o) ≤ s.capacity
      → i'.room ≡ i.room
      → i'.saved ≡ i.saved
      → i'.mark ≡ i.mark
      → Shows i' (put_slot s at o)
  shows_slot e n z u f r a m =
      record {
        lies = subst (λ xs. IsLaid i'.cells.now xs (set s.slots at o)) (sym z) (laid_changed h.lies at o (nodes o) rest e refl);
        used = u;
        room = r ∙ h.room;
        fits = f;
        lent = subst (λ k. s.capacity ≤ k) (sym n) h.lent;
        spare = subst (λ (x : MutBor (List Cell)). s.capacity ≤ length x.now) (sym a) h.spare;
        most = h.most;
        kept = kept_same i' h a m;
      }

pub loose_rest : {i : Rack} {s : State} {out : List Cell} (h : Shows i s) (o : IsLoose i out) → rest_of h.lies ≡ out ++ o.rest
loose_rest {i} {s} {out} h o = ap (λ n. drop n i.cells.now) (sym h.used) ∙ o.is

-- what lies loose follows the cells of the slots, of which one is empty
pub cells_loose : {i : Rack} {s : State} {out : List Cell} (h : Shows i s) (at : ℕ) → at < 16 → slot s.slots at ≡ None → (o : IsLoose i out) → i.cells.now ≡ laid (take at s.slots) ++ (laid (drop (suc at) s.slots) ++ (out ++ o.rest))
cells_loose {i} {s} {out} h at lt k o =
    cells_split h.lies at lt ∙ ap (λ x. laid (take at s.slots) ++ (run x ++ (laid (drop (suc at) s.slots) ++ rest_of h.lies))) k ∙ ap (λ x. laid (take at s.slots) ++ (laid (drop (suc at) s.slots) ++ x)) (loose_rest h o)

-- a write to the free cells changes no tree
pub shows_free : {i i' : Rack} {s : State} → Shows i s
    → take i.used i'.cells.now ≡ take i.used i.cells.now
    → length i'.cells.now ≡ length i.cells.now
    → i'.sizes ≡ i.sizes
    → i'.used ≡ i.used
    → i'.room ≡ i.room
    → i'.saved ≡ i.saved
    → i'.mark ≡ i.mark
    → Shows i' s
shows_free {i} {i'} {s} h e n z u r a m =
    let l = h.lies in
    record {
      lies = record {
        sixteen = l.sixteen;
        is = ap (λ n. take n i'.cells.now) (sym h.used) ∙ e ∙ ap (λ n. take n i.cells.now) h.used ∙ l.is;
        sized = z ∙ l.sized;
      };
      used = u ∙ h.used;
      room = r ∙ h.room;
      fits = h.fits;
      lent = subst (λ k. s.capacity ≤ k) (sym n) h.lent;
      spare = subst (λ (x : MutBor (List Cell)). s.capacity ≤ length x.now) (sym a) h.spare;
      most = h.most;
      kept = kept_same i' h a m;
    }

-- the cells below a slot and above it
abbrev pub low : Slots → ℕ → List Cell
low m i = laid (take i m)

abbrev pub high : Slots → ℕ → List Cell
high m i = laid (drop (suc i) m)

-- the cells as a node of a slot's tree is written
pub node_written : {i : Rack} {s : State} (h : Shows i s) (at : ℕ) {t : Tree} (p a b : List Cell) (x y : Cell) → at < 16 → slot s.slots at ≡ Some t → encode [] t ≡ p ++ (x ∷ (a ++ b))
    → (n : ℕ) → n ≡ used (take at s.slots) + length p
    → set i.cells.now n y ≡ (low s.slots at ++ (p ++ (y ∷ a))) ++ (b ++ (high s.slots at ++ rest_of h.lies))
node_written {i} {s} h at p a b x y lt k e n z =
    let rest = rest_of h.lies in
    let lo = low s.slots at in
    let hi = high s.slots at in
    let w : i.cells.now ≡ (lo ++ p) ++ (x ∷ (a ++ (b ++ (hi ++ rest)))) = cells_split h.lies at lt ∙ ap (λ o. lo ++ (run o ++ (hi ++ rest))) k ∙ ap (λ r. lo ++ (r ++ (hi ++ rest))) e ∙ simp append_assoc in
    ap (λ xs. set xs n y) w ∙ set_at (lo ++ p) x (a ++ (b ++ (hi ++ rest))) y n (length-append lo p ∙ ap (λ k. k + length p) (length-laid (take at s.slots)) ∙ sym z) ∙ simp append_assoc

pub length_front : (m : Slots) (i : ℕ) (p a : List Cell) (y : Cell) → length (low m i ++ (p ++ (y ∷ a))) ≡ used (take i m) + (length p + 1 + length a)
length_front m i p a y = omega (arith, length-append (low m i) (p ++ (y ∷ a)), length-append p (y ∷ a), length-laid (take i m))

-- a tree's first cell is written with another label
pub renamed : (n : Name) (xs : List Cell) (pos : ℕ) (l : Name) (t : Tree) (rest : List Cell) (d : Cell) → pos < length xs → drop pos xs ≡ encode l t ++ rest → drop pos (set xs pos (record { label = n; head = (get_or xs pos d).head; children = (get_or xs pos d).children })) ≡ encode n t ++ rest
renamed n xs pos l t rest d k q = relabelled n xs pos l t rest d k q
