-- Two nodes that meet in the cells: the walk ends there, goes on, or opens the target's node.
use Rattle.std.proofs.Common.{◌≡◌, ℕ, suc, ◌+◌, ◌-◌, ◌<◌, ◌≤◌, true, cond, List, [], ◌∷◌, ◌++◌, length, get_or, set, IfOk, MatchResult, Ok, Err, Result, sym, refl, ap, ◌∙◌, subst, ap₂, append_assoc, arith, length-append, length-set}
use Rattle.std.proofs.lemmas.List.{append-nil}
use Rattle.std.proofs.lemmas.Bool.{and_parts, and_from, le-leb, lt-leb}
use Rattle.rules.specs.declared.leaf.Leaf.{Leaf}
use Rattle.trees.specs.Name.{Name, distinct, all_empty}
use Rattle.trees.specs.declared.head.Head.TheVariants.{Leaf as leaf, List as list}
use Rattle.trees.specs.Tree.{Tree, node, count, size, sizes, labels, fits, each, sound, same_kind}
use Rattle.trees.specs.Apply.{Walked, ended, done, stopped, stop, switch, no_room, within_node, apply_nodes, apply_within}
use Rattle.cells.specs.declared.types.Cell.{Cell}
use Rattle.trees.specs.declared.head.Head.TheVariants as value
use Rattle.cells.specs.Layout.{encode, encodes, cell_of, Lies, LieAll}
use Rattle.cells.proofs.Layouts.{lies_kids, count_size, before_first}
use Rattle.cells.proofs.Sounds.{sound_height}
use Rattle.patch.specs.declared.errors.ApplyError.{ApplyError}
use Rattle.patch.specs.declared.errors.ApplyError.TheVariants.{MismatchedKinds}
use Rattle.patch.specs.declared.errors.ReflectKindMismatchError.{ReflectKindMismatchError}
use Rattle.patch.specs.declared.frames.Meeting.{Meeting}
use Rattle.patch.specs.declared.frames.Frame.{Frame}
use Rattle.patch.specs.declared.manners.Pairing.{Pairing}
use Rattle.patch.specs.declared.manners.Pairing.TheVariants.{ByName, Extending}
use Rattle.patch.specs.declared.manners.Manner.{Manner}
use Rattle.patch.specs.declared.manners.Manner.TheVariants.{Nothing, Switch, Pair}
use Rattle.patch.specs.Manners.{taken, IsMismatched, manner_of, onto}
use Rattle.patch.specs.Edits.{Refused, Spot, Became, Placed}
use Rattle.patch.specs.declared.frames.Ends.{Ends}
use Rattle.patch.specs.declared.frames.Step.{Step}
use Rattle.patch.specs.declared.frames.Step.TheVariants.{On, Done}
use Rattle.patch.specs.declared.steps.Walk.{Walk}
use Rattle.patch.specs.Walk.{Task, Meets, IsAtStep, IsEnded, frames_of, weight, ahead, resume, label, pre, post, Holds, Meeting_of, Finished, Within, way, fault_of, Stopped, Laid_at, Past}
use Rattle.patch.proofs.Bounds.{sane_fits, sane_each}
use Rattle.patch.proofs.Mannered.{leaf_stops, leaf_takes, NoLeaf, kinds_stop, by_manner, mannered, pairs_apart, pairs_listed}
use Rattle.patch.proofs.Ranks.{met_falls}
use Rattle.patch.proofs.Spots.{spot_read, spot_patch_read}
use Rattle.patch.proofs.Zippers.{lies_beyond, focus_lies, stops, set_focus, held_length}
use Rattle.patch.specs.Rows.{EndsAt, ends_of}
use Rattle.patch.proofs.Ends.{tree_to}

module _ (base : List Cell) (l : Name) (frames : List Frame) (at : Meeting) (used : ℕ) (cells : List Cell) (a : Walked Tree) (s : Meeting_of base l frames at used cells a) where
  abbrev before : List Cell
  before = base ++ pre l s.os

  whole : cells ≡ before ++ (encode (label l s.os) (node s.h s.f) ++ (post s.os ++ s.rest))
  whole = s.holds ∙ sym (append_assoc base (pre l s.os) _)

  -- where the two nodes lie
  pub spot : Spot cells at used before (label l s.os) (node s.h s.f) (node s.k s.g) (post s.os) s.rest
  spot =
      record {
        is = whole;
        place = s.place ∙ sym (length-append base (pre l s.os));
        patch = lies_beyond (pre l s.os) s.patch;
        high = omega (arith, sound_height (suc s.levels) (node s.h s.f) s.sane, s.depth);
        patch_high = omega (arith, sound_height (suc s.levels) (node s.k s.g) s.sounds, s.depth);
        used_is = s.used_is;
      }

  pub room : length frames ≤ 15
  room = omega (arith, s.depth, held_length base l frames s.os s.held)

  -- the walk ends at these two
  pub stop_here : (e : ApplyError) → apply_nodes (apply_within s.levels) s.h s.f s.k s.g (length s.rest) ≡ stop s.h s.f (length s.rest) (stopped (fault_of e [])) → Stopped base l frames used cells e a
  stop_here e x =
      stops base l frames s.os (stop s.h s.f (length s.rest) (stopped (fault_of e []))) e used s.rest cells a [] s.held refl refl s.holds s.used_is (s.comes ∙ ap (resume s.os) x) frames (sym (append-nil (way frames))) room

  -- the focus is done, and is the tree t then
  pub done_here : (t : Tree) (n : ℕ) (rest' cells' : List Cell) → apply_nodes (apply_within s.levels) s.h s.f s.k s.g (length s.rest) ≡ ended t (length rest') done
      → sound (suc s.levels) t ≡ true → Holds base l s.os t rest' cells' → n + length rest' ≡ length cells' → Laid_at base l frames at n cells' a
  done_here t n rest' cells' x sane holds us =
      record {
        os = s.os;
        levels = s.levels;
        t = t;
        u = node s.k s.g;
        rest = rest';
        held = s.held;
        depth = s.depth;
        holds = holds;
        sane = sane;
        sounds = s.sounds;
        place = s.place;
        patch = s.patch;
        past = s.past;
        used_is = us;
        comes = s.comes ∙ ap (resume s.os) x;
      }

  -- nothing is done
  pub nothing_done : apply_nodes (apply_within s.levels) s.h s.f s.k s.g (length s.rest) ≡ stop s.h s.f (length s.rest) done → Laid_at base l frames at used cells a
  nothing_done x = done_here (node s.h s.f) used s.rest cells x s.sane s.holds s.used_is

  -- a leaf takes a leaf
  pub leaf_done : (p q : Leaf) (x : Cell) → s.h ≡ leaf p → taken p s.k ≡ Ok q → x ≡ record { label = (cell_of (label l s.os) (node s.h s.f)).label; head = value.Leaf q; children = (cell_of (label l s.os) (node s.h s.f)).children } → Laid_at base l frames at used (set cells at.target x) a
  leaf_done p q x z e c =
      let os = s.os in
      let free = length s.rest in
      let w : set cells at.target x ≡ base ++ (pre l os ++ (encode (label l os) (node (leaf q) s.f) ++ (post os ++ s.rest))) =
      set_focus base (pre l os) (encodes s.f) (post os ++ s.rest) cells _ x at.target s.holds s.place
      ∙ ap (λ y. base ++ (pre l os ++ ((y ∷ encodes s.f) ++ (post os ++ s.rest)))) c in
      done_here (node (leaf q) s.f) used s.rest (set cells at.target x)
      (ap (λ y. apply_nodes (apply_within s.levels) y s.f s.k s.g free) z ∙ leaf_takes p q s.f s.k free e)
      (and_from _ _ (ap (λ h. fits h (labels s.f)) (sym z) ∙ sane_fits s.levels s.h s.f s.sane) (sane_each s.levels s.h s.f s.sane)) w
      (s.used_is ∙ sym (length-set cells at.target x))

  -- the patch's head, its labels and its fields
  patch_parts : (fits s.k (labels s.g) ≡ true) × (each (sound s.levels) s.g ≡ true)
  patch_parts = and_parts (fits s.k (labels s.g)) (each (sound s.levels) s.g) s.sounds

  pub patch_fits : fits s.k (labels s.g) ≡ true
  patch_fits = patch_parts.0

  -- the fields are switched
  pub switch_done : (n : ℕ) (cells' : List Cell) → apply_nodes (apply_within s.levels) s.h s.f s.k s.g (length s.rest) ≡ switch s.h s.f s.k s.g (length s.rest)
      → Became cells' before (label l s.os) (node s.k s.g) (post s.os) s.rest (sizes s.g) (sizes s.f) n → Laid_at base l frames at n cells' a
  switch_done n cells' x b =
      let free = length s.rest in
      done_here (node s.k s.g) n b.left cells'
      (x ∙ ap (λ y. cond y (stop s.k s.g ((free - sizes s.g) + sizes s.f) done) (stop s.h s.f free (no_room (sizes s.g) free []))) (le-leb (sizes s.g) free b.fits) ∙ ap (λ y. ended (node s.k s.g) y done) (sym b.frees))
      s.sounds
      (b.is ∙ append_assoc base (pre l s.os) _) b.used_is

  -- or find no room
  pub switch_stops : (e : ApplyError) (cells' : List Cell) → apply_nodes (apply_within s.levels) s.h s.f s.k s.g (length s.rest) ≡ switch s.h s.f s.k s.g (length s.rest)
      → Refused cells cells' s.rest (sizes s.g) e → Stopped base l frames used cells' e a
  switch_stops e cells' x r =
      let free = length s.rest in
      subst (λ y. Stopped base l frames used y e a) (sym r.same)
      (stop_here e (x ∙ ap (λ y. cond y (stop s.k s.g ((free - sizes s.g) + sizes s.f) done) (stop s.h s.f free (no_room (sizes s.g) free []))) (lt-leb (sizes s.g) free r.wants) ∙ ap (λ y. stop s.h s.f free (stopped (fault_of y []))) (sym r.is)))

  -- the target's node is opened
  pub node_opened : (fr : Frame) → apply_nodes (apply_within s.levels) s.h s.f s.k s.g (length s.rest) ≡ within_node s.h (onto (apply_within s.levels) fr.pairing 0 s.f s.g (length s.rest))
      → fr.target ≡ at.target → fr.row.at ≡ at.target + 1 → fr.row.count ≡ count s.f → fr.next.at ≡ at.patch + 1 → fr.next.count ≡ count s.g → fr.index ≡ 0
      → (fr.pairing ≡ ByName → distinct (labels s.f) ≡ true) → (fr.pairing ≡ Extending → (s.h ≡ list) × (all_empty (labels s.g) ≡ true)) → Within base l fr frames used cells a
  node_opened fr x ft ra rc fn fl fi apart listed =
      record {
        os = s.os;
        levels = s.levels;
        h = s.h;
        f = s.f;
        g = s.g;
        j = 0;
        rest = s.rest;
        held = s.held;
        opened = record {
          place = ft ∙ s.place;
          depth = s.depth;
          patch = subst (λ n. LieAll base n s.g) (sym fn) (lies_kids (node s.k s.g) s.patch);
          counted = fl;
          small = omega (arith, fi, fl, count_size (node s.k s.g), s.patch.within);
          few = s.few;
          sane = s.sane;
          sounds = patch_parts.1;
          apart = apart;
          listed = listed;
          past = subst (λ n. Past s.os n) (omega (arith, fn)) s.past;
        };
        row = record { at_is = omega (arith, ra, ft, before_first s.f); count_is = omega (arith, rc) };
        even = λ e. omega (arith, rc, fi);
        holds = s.holds;
        used_is = s.used_is;
        comes = s.comes ∙ ap (resume s.os) x ∙ ap (λ i. resume s.os (within_node s.h (onto (apply_within s.levels) fr.pairing i s.f s.g (length s.rest)))) (sym fi);
      }

  -- the same, by what is read of the two cells
  old_head : (d : Cell) → (get_or cells at.target d).head ≡ s.h
  old_head d = ap (λ (x : Cell). x.head) (spot_read spot d)

  new_head : (d : Cell) → (get_or cells at.patch d).head ≡ s.k
  new_head d = ap (λ (x : Cell). x.head) (spot_patch_read spot d)

  pub take_stops : (d : Cell) (p : Leaf) (e : ApplyError) → (get_or cells at.target d).head ≡ value.Leaf p → Err e ≡ taken p s.k → Stopped base l frames used cells e a
  take_stops d p e o x =
      let z = sym (old_head d) ∙ o in
      let y = leaf_stops p s.f s.k (length s.rest) e (sym x) in
      stop_here e (ap (λ h. apply_nodes (apply_within s.levels) h s.f s.k s.g (length s.rest)) z ∙ y ∙ ap (λ h. stop h s.f (length s.rest) (stopped (fault_of e []))) (sym z))

  pub take_done : (d c : Cell) (p q : Leaf) → (get_or cells at.target d).head ≡ value.Leaf p → Ok q ≡ taken p s.k → Laid_at base l frames at used (set cells at.target (record { label = (get_or cells at.target c).label; head = value.Leaf q; children = (get_or cells at.target c).children })) a
  take_done d c p q o x =
      leaf_done p q _ ((sym (old_head d) ∙ o)) (sym x)
      (ap (λ (y : Cell). record { label = y.label; head = value.Leaf q; children = y.children }) (spot_read spot c))

  module _ (d : Cell) (nl : (p : Leaf) → (get_or cells at.target d).head ≡ value.Leaf p → ⊥) (x y : Cell) where
    abbrev old : Cell
    old = get_or cells at.target x

    abbrev new : Cell
    new = get_or cells at.patch y

    no_leaf : NoLeaf s.h
    no_leaf p e = nl p (old_head d ∙ e)

    pub kinds_ended : (e : ReflectKindMismatchError) → IsMismatched old.head new.head e → Stopped base l frames used cells (MismatchedKinds e) a
    kinds_ended e m =
        stop_here (MismatchedKinds e) (kinds_stop (apply_within s.levels) s.f s.g (length s.rest) s.h s.k e no_leaf
        (subst (λ h. IsMismatched h s.k e) ((old_head x)) (subst (λ k. IsMismatched old.head k e) ((new_head y)) m)))

    module _ (k : same_kind old.head new.head ≡ true) (m : Manner) (is : m ≡ manner_of old.head new.head) where
      so : apply_nodes (apply_within s.levels) s.h s.f s.k s.g (length s.rest) ≡ by_manner (apply_within s.levels) s.f s.g (length s.rest) s.h s.k m
      so =
          mannered (apply_within s.levels) s.f s.g (length s.rest) s.h s.k no_leaf (sym (ap₂ same_kind (old_head x) (new_head y)) ∙ k) patch_fits
          ∙ ap (by_manner (apply_within s.levels) s.f s.g (length s.rest) s.h s.k) (sym (ap₂ manner_of (old_head x) (new_head y)) ∙ sym is)

      so_by : (n : Manner) → m ≡ n → apply_nodes (apply_within s.levels) s.h s.f s.k s.g (length s.rest) ≡ by_manner (apply_within s.levels) s.f s.g (length s.rest) s.h s.k n
      so_by n e = so ∙ ap (by_manner (apply_within s.levels) s.f s.g (length s.rest) s.h s.k) e

      pub nothing_met : m ≡ Nothing → Laid_at base l frames at used cells a
      nothing_met e = nothing_done (so_by Nothing e)

      pub switch_over : m ≡ Switch → (n : ℕ) (cells' : List Cell) → Became cells' before (label l s.os) (node s.k s.g) (post s.os) s.rest (sizes s.g) (sizes s.f) n → Laid_at base l frames at n cells' a
      switch_over e n cells' b = switch_done n cells' (so_by Switch e) b

      pub switch_ended : m ≡ Switch → (x : ApplyError) (cells' : List Cell) → Refused cells cells' s.rest (sizes s.g) x → Stopped base l frames used cells' x a
      switch_ended e x cells' b = switch_stops x cells' (so_by Switch e) b

      pub pair_met : (pairing : Pairing) (v w : Cell) → m ≡ Pair pairing → Within base l (record { pairing = pairing; target = at.target; row = record { at = at.target + 1; count = (get_or cells at.target v).children }; next = record { at = at.patch + 1; count = (get_or cells at.patch w).children }; index = 0 }) frames used cells a
      pair_met pairing v w e =
          let q : manner_of s.h s.k ≡ Pair pairing = sym (ap₂ manner_of (old_head x) (new_head y)) ∙ sym is ∙ e in
          let r : same_kind s.h s.k ≡ true = sym (ap₂ same_kind (old_head x) (new_head y)) ∙ k in
          node_opened _ (so_by (Pair pairing) e) refl refl (ap (λ (x : Cell). x.children) (spot_read spot v)) refl (ap (λ (x : Cell). x.children) (spot_patch_read spot w)) refl
          (λ z. pairs_apart s.h s.k s.f pairing q z (sane_fits s.levels s.h s.f s.sane))
          (λ z. pairs_listed s.h s.k s.g pairing q z r patch_fits)

-- the same frames
pub meets_by : (base : List Cell) (l : Name) {frames others : List Frame} (at : Meeting) (used : ℕ) (cells : List Cell) (a : Walked Tree) → frames ≡ others → Meeting_of base l others at used cells a → Meeting_of base l frames at used cells a
meets_by base l at used cells a e g = subst (λ (x : List Frame). Meeting_of base l x at used cells a) (sym e) g

pub finished_in : (base : List Cell) (l : Name) {frames others : List Frame} (used : ℕ) (cells : List Cell) (a : Walked Tree) (e : Ends) → frames ≡ others → Finished base l others e used cells a → Finished base l frames e used cells a
finished_in base l used cells a e x g = subst (λ (y : List Frame). Finished base l y e used cells a) (sym x) g

-- two nodes are laid, one on the other: the rows of the two alone end with them
pub laid_ends : (base : List Cell) (l : Name) (frames : List Frame) (at : Meeting) (used : ℕ) (cells : List Cell) (a : Walked Tree) → Laid_at base l frames at used cells a → Finished base l frames (ends_of at) used cells a
laid_ends base l frames at used cells a s =
    let P = pre l s.os ++ (encode (label l s.os) s.t ++ (post s.os ++ s.rest)) in
    let u : Lies cells at.patch s.u = subst (λ (x : List Cell). Lies x at.patch s.u) (sym s.holds) (lies_beyond P s.patch) in
    record {
      os = s.os;
      levels = s.levels;
      t = s.t;
      rest = s.rest;
      held = s.held;
      depth = s.depth;
      holds = s.holds;
      sane = s.sane;
      target = subst (λ x. EndsAt cells (ends_of at).target (x + size s.t)) s.place (tree_to 1 refl (focus_lies base l s.os s.t s.rest cells at.target s.holds s.place) (omega (arith, sound_height (suc s.levels) s.t s.sane, s.depth)));
      end = at.patch + size s.u;
      patch = tree_to 1 refl u (omega (arith, sound_height (suc s.levels) s.u s.sounds, s.depth));
      past = s.past;
      used_is = s.used_is;
      comes = s.comes;
    }

-- a node that goes on has few children left
going_few : (k : Task) (w : Walk) (o : Step) → IsAtStep k w o → (child : Frame) → o ≡ On child → child.next.count ≤ 65535
going_few k w (Done ends) g child e = absurd (let z : ◌≡◌ {A = ℕ} 0 1 = cc in omega arith)
going_few k w (On fr) g child e = let z : fr ≡ child = cc in omega (arith, g.opened.small, g.opened.few, ap (λ (x : Frame). x.next.count) z)

-- a child that was met leaves less of the walk
pub met_less : (k : Task) (w : Walk) (r : Result Step ApplyError) (fr to : Frame) (frs : List Frame) → MatchResult r (IsAtStep k w) (IsEnded k w) → frames_of w ≡ to ∷ frs → to.next.count ≡ fr.next.count → length frs ≤ 15 → IfOk r (λ o. weight o w < ahead 65535 (On fr) frs)
met_less k w (Err e) fr to frs m s l h = tt
met_less k w (Ok o) fr to frs m s l h = met_falls 65535 fr to o frs (frames_of w) s l (going_few k w o m) h

-- where two nodes that meet lie
abbrev pub placed : (k : Task) (w : Walk) (at : Meeting) (s : Meets k w at) → Placed w.cells.now w.used at (node s.h s.f) (node s.k s.g)
placed k w at s =
    record {
      front = k.base ++ pre k.name s.os;
      label = label k.name s.os;
      behind = post s.os;
      free = s.rest;
      spot = spot k.base k.name (frames_of w) at w.used w.cells.now k.outcome s;
    }
