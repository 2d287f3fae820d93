-- The trees of slots and their nodes, where they lie in the cells.
use Rattle.std.proofs.Common.{◌≡◌, ℕ, zero, suc, ◌+◌, ◌<◌, ◌≤◌, Bool, true, not, List, [], ◌∷◌, ◌++◌, length, get_or, take, drop, Some, sym, refl, ap, ◌∙◌, subst, arith, drop_at}
use Rattle.std.proofs.lemmas.Bool.{and_parts}
use Rattle.trees.specs.declared.head.Head.{Head}
use Rattle.trees.specs.Tree.{Tree, node, Forest, empty, more, count, size, height, heights, labels, at, each, fits, sound, IsSound}
use Rattle.trees.specs.Place.{find, position_from}
use Rattle.trees.specs.State.{State, slot, used, nodes}
use Rattle.trees.specs.Tests.{node_at, unfit, children}
use Rattle.trees.proofs.Slots.{slot_of}
use Rattle.trees.proofs.Changes.{sound_grow, each_mono, at_ok}
use Rattle.cells.specs.Layout.{Lies, kids, root, label_in, far}
use Rattle.cells.specs.declared.types.Cell.{Cell}
use Rattle.cells.proofs.Layouts.{lies, cell_head, cell_count, count_size, height_pos, size_pos, height_at, height_is}
use Rattle.cells.proofs.Swaps.{placed}
use Rattle.cells.proofs.Paths.{stepped, level_find}
use Rattle.cells.proofs.Focuses.{lies_find, find_cell, size_find}
use Rattle.shelf.specs.declared.rack.Rack.{Rack}
use Rattle.shelf.specs.declared.places.Spot.{Spot}
use Rattle.shelf.specs.declared.slot.Slot.{Slot}
use Rattle.shelf.specs.Holds.{Holds, run}
use Rattle.shelf.specs.Places.{At, IsPlain, Here}
use Rattle.shelf.specs.Known.{rest_of}
use Rattle.shelf.proofs.Runs.{low, high, cells_split, length-laid, size_at, some_at, start_within}

-- a sound tree has no more levels than it may
heights_low : (test : Tree → Bool) (n : ℕ) → ((t : Tree) → test t ≡ true → height t ≤ n) → (f : Forest) → each test f ≡ true → heights f ≤ n
heights_low test n k empty e = omega arith
heights_low test n k (more l t f) e =
    let p = and_parts (test t) (each test f) e in
    omega (arith, k t p.0, heights_low test n k f p.1)

sound_height : (n : ℕ) (t : Tree) → sound n t ≡ true → height t ≤ n
sound_height zero t e = absurd (let z : ◌≡◌ {A = ℕ} 0 1 = cc in omega arith)
sound_height (suc n) (node h f) e =
    let p = and_parts (fits h (labels f)) (each (sound n) f) e in
    omega (arith, heights_low (sound n) n (sound_height n) f p.1)

-- the nodes of a sound tree are sound
sound_kids : (t : Tree) → sound 16 t ≡ true → each (sound 16) (kids t) ≡ true
sound_kids (node h f) s =
    let p = and_parts (fits h (labels f)) (each (sound 15) f) s in
    each_mono (sound 15) (sound 16) (λ t a. sound_grow 15 16 t a (omega arith)) f p.1

sound_find : (path : List ℕ) (t : Tree) {u : Tree} → find (Some t) path ≡ Some u → sound 16 t ≡ true → sound 16 u ≡ true
sound_find [] t {u} e a = let k : t ≡ u = cc in subst (λ w. sound 16 w ≡ true) k a
sound_find (i ∷ path) t {u} e a =
    let s = stepped i path t u e in
    sound_find path s.child s.on (at_ok (sound 16) i (kids t) s.child (sound_kids t a) s.is)

module _ {i : Rack} {s : State} (h : Holds i s) where
  pub slot_sound : (k : ℕ) {t : Tree} → slot s.slots k ≡ Some t → IsSound t
  slot_sound k {t} e = slot_of IsSound s k t h.sound e

  pub slot_low : (k : ℕ) {t : Tree} → slot s.slots k ≡ Some t → height t ≤ 16
  slot_low k {t} e = sound_height 16 t (slot_sound k e)

  -- what stands from the beginning of a slot on
  pub slot_drop : (k at : ℕ) → k < 16 → at ≡ used (take k s.slots) → drop at i.cells.now ≡ run (slot s.slots k) ++ (high s.slots k ++ rest_of h.shows.lies)
  slot_drop k at lt e = ap (drop at) (cells_split h.shows.lies k lt) ∙ drop_at (low s.slots k) _ at (length-laid (take k s.slots) ∙ sym e)

  -- the tree of a slot lies where its cells begin
  pub slot_lies : (k at : ℕ) {t : Tree} → k < 16 → slot s.slots k ≡ Some t → at ≡ used (take k s.slots) → Lies i.cells.now at t
  slot_lies k at lt e q = lies [] _ (slot_drop k at lt q ∙ ap (λ o. run o ++ (high s.slots k ++ rest_of h.shows.lies)) e)

  pub slot_tree : (k at : ℕ) → k < 16 → 0 < get_or i.sizes k 0 → at ≡ used (take k s.slots) → (t : Tree) × Lies i.cells.now at t × (height t ≤ 16)
  slot_tree k at lt z e =
      let t = some_at h.shows.lies k lt z in
      (t.0, slot_lies k at lt t.1 e, slot_low k t.1)

  -- the position of a node is below the most cells
  pub found_low : (k at pos : ℕ) (path : List ℕ) {t u : Tree} → k < 16 → at ≡ used (take k s.slots) → slot s.slots k ≡ Some t → find (Some t) path ≡ Some u → pos ≡ at + far (Some t) path → (pos < length i.cells.now) × (pos < 4096)
  found_low k at pos path {t} {u} lt q e r z =
      let sh = h.shows in
      let a = size_find path t r in
      let b = start_within sh.lies k lt in
      let c = size_at sh.lies k lt ∙ ap nodes e in
      (omega (arith, size_pos u), omega (arith, size_pos u))

  -- the node to which a path leads, found at its position
  pub spot_at : (own : Slot) (k at pos n : ℕ) (path : List ℕ) {t u : Tree} (d : Cell) → own.number ≡ k → k < 16 → at ≡ used (take k s.slots) → slot s.slots k ≡ Some t → find (Some t) path ≡ Some u → pos ≡ at + far (Some t) path → n ≡ far (Some t) path → At s k path (record { slot = own; node = n; cell = get_or i.cells.now pos d })
  spot_at own k at pos n path {t} {u} d o lt q e r z y =
      record {
        own = o;
        tree = t;
        holds = e;
        goal = u;
        reached = r;
        place = y;
        cell = ap (λ n. get_or i.cells.now n d) z ∙ find_cell i.cells.now at path [] t _ d (slot_drop k at lt q ∙ ap (λ o. run o ++ (high s.slots k ++ rest_of h.shows.lies)) e) r;
      }

module _ {i : Rack} {s : State} {k : ℕ} {path : List ℕ} {spot : Spot} (h : Holds i s) (a : At s k path spot) where
  -- the node lies behind the beginning of its slot
  pub at_lies : (at : ℕ) → k < 16 → at ≡ used (take k s.slots) → Lies i.cells.now (at + spot.node) a.goal
  at_lies at lt e = subst (λ n. Lies i.cells.now (at + n) a.goal) (sym a.place) (lies_find path (slot_lies h k at lt a.holds e) a.reached)

  pub at_low : height a.goal ≤ 16
  at_low = omega (arith, level_find path a.tree a.reached, slot_low h k a.holds)

  pub at_sound : IsSound a.goal
  at_sound = sound_find path a.tree a.reached (slot_sound h k a.holds)

  -- its cell tells its head and how many children it has
  pub at_count : spot.cell.children ≡ count (kids a.goal)
  at_count = ap (λ (x : Cell). x.children) a.cell ∙ cell_count (label_in [] (Some a.tree) path) a.goal

  pub at_head : spot.cell.head ≡ root a.goal
  at_head = ap (λ (x : Cell). x.head) a.cell ∙ cell_head (label_in [] (Some a.tree) path) a.goal

  pub at_node : node_at s k path ≡ Some a.goal
  at_node = ap (λ o. find o path) a.holds ∙ a.reached

  pub at_within : k < 16 → spot.node + size a.goal ≤ get_or i.sizes k 0
  at_within lt = omega (arith, size_find path a.tree a.reached, a.place, size_at h.shows.lies k lt, ap nodes a.holds)

  -- its slot is one of sixteen
  pub at_slot : k < 16
  at_slot = subst (λ n. n < 16) a.own spot.slot.low

  abbrev pub at_own : At s spot.slot.number path spot
  at_own = record { own = refl; tree = a.tree; holds = ap (slot s.slots) a.own ∙ a.holds; goal = a.goal; reached = a.reached; place = a.place; cell = a.cell }

  pub at_plain : IsPlain i path spot
  at_plain =
      let lt = at_slot in
      let sh = h.shows in
      let w = at_within lt in
      let c = at_count in
      let z = size_at h.shows.lies k lt in
      record {
        place = subst (λ n. spot.node < get_or i.sizes n 0) (sym a.own) (omega (arith, count_size a.goal));
        few = omega (arith, count_size a.goal, size_small lt);
        short = omega (arith, level_find path a.tree a.reached, height_pos a.goal, slot_low h k a.holds);
      }
    where
      size_small : k < 16 → get_or i.sizes k 0 ≤ 4096
      size_small lt = omega (arith, start_within h.shows.lies k lt, h.shows.fits, h.shows.most)

  pub at_here : (n : ℕ) → n ≤ spot.cell.children → Here i spot n
  at_here n m = record { state = s; holds = h; path = path; there = at_own; many = m }

  -- whether a call works on the node, and its children
  pub at_unfit : (test : Head → Bool) → unfit test (node_at s k path) ≡ not (test spot.cell.head)
  at_unfit test = ap (unfit test) at_node ∙ go a.goal ∙ ap (λ x. not (test x)) (sym at_head)
    where
      go : (u : Tree) → unfit test (Some u) ≡ not (test (root u))
      go (node x f) = refl

  pub at_children : children (node_at s k path) ≡ kids a.goal
  at_children = ap children at_node ∙ go a.goal
    where
      go : (u : Tree) → children (Some u) ≡ kids u
      go (node x f) = refl

-- how many children the node has that a call works on
pub at_number : {i : Rack} {s : State} {k : ℕ} {path : List ℕ} {spot : Spot} (h : Holds i s) (a : At s k path spot) → count (children (node_at s k path)) ≡ spot.cell.children
at_number h a = ap count (at_children h a) ∙ sym (at_count h a)

-- a name that is found stands below the number of children
pub at_below : {i : Rack} {s : State} {k : ℕ} {path : List ℕ} {spot : Spot} (h : Holds i s) (a : At s k path spot) (n : List ℕ) (x : ℕ) → position_from 0 n (kids a.goal) ≡ Some x → x < spot.cell.children
at_below h a n x e = omega (arith, at_count h a, at_some (kids a.goal) x (placed n (kids a.goal) x e).is)
  where
    at_some : (f : Forest) (x : ℕ) {v : Tree} → at x f ≡ Some v → x < count f
    at_some empty x e = absurd (let z : ◌≡◌ {A = ℕ} 0 1 = cc in omega arith)
    at_some (more l t f) zero e = omega arith
    at_some (more l t f) (suc x) e = omega (arith, at_some f x e)

-- a child of the node is no higher than a tree may be
pub at_kid : {i : Rack} {s : State} {k : ℕ} {path : List ℕ} {spot : Spot} (h : Holds i s) (a : At s k path spot) (x : ℕ) {v : Tree} → at x (kids a.goal) ≡ Some v → height v ≤ 16
at_kid h a x e = omega (arith, height_at (kids a.goal) x e, height_is a.goal, at_low h a)
