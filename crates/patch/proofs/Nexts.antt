-- An open node goes on: its patch's next child meets a child of its own, is skipped or is copied, or it is done.
use Rattle.std.proofs.Common.{◌≡◌, ℕ, zero, suc, ◌+◌, ◌-◌, ◌<◌, ◌≤◌, Bool, true, false, cond, ltb, leb, List, [], ◌∷◌, ◌++◌, length, Some, None, sym, refl, ap, ◌∙◌, subst, ap₂, append_assoc, arith, add-one, length-append}
use Rattle.std.proofs.lemmas.Bool.{and_parts, le-leb, lt-leb, ltb-true}
use Rattle.names.specs.Names.{same_name}
use Rattle.trees.specs.Name.{Name, all_empty, distinct}
use Rattle.trees.specs.Tree.{Tree, node, Forest, count, size, sizes, height, labels, each, sound}
use Rattle.trees.specs.Place.{add_last, label_at}
use Rattle.trees.specs.Apply.{Walked, ended, stopped, no_room, within_node, apply_within}
use Rattle.cells.specs.declared.types.Cell.{Cell}
use Rattle.patch.specs.declared.frames.Row.{Row}
use Rattle.cells.specs.Layout.{encode, cell_of, before, Lies, LieAll}
use Rattle.cells.proofs.Layouts.{Next, next, none_left, height_pos, at_there}
use Rattle.cells.proofs.Sounds.{sound_height}
use Rattle.cells.proofs.Swaps.{among, count-add_last}
use Rattle.patch.specs.declared.errors.ApplyError.{ApplyError}
use Rattle.patch.specs.declared.frames.Frame.{Frame}
use Rattle.patch.specs.declared.manners.Pairing.{Pairing}
use Rattle.patch.specs.declared.manners.Pairing.TheVariants.{ByName, ByPlace, Extending}
use Rattle.patch.specs.Manners.{partner, lay_at, lay_beyond, lay_next, onto}
use Rattle.patch.specs.declared.steps.Walk.{Walk}
use Rattle.patch.specs.Edits.{Refused, Spot, Became, Placed}
use Rattle.patch.specs.declared.frames.Step.TheVariants.{On}
use Rattle.patch.specs.Rows.{From, TreesTo, EndsAt, Comes, onward}
use Rattle.patch.specs.Walk.{Task, IsAtStep, frames_of, Open, resume, label, pre, post, Holds, OpenNode, Fits, IsHeld, Past, Meeting_of, Laid_at, Finished, Within, fault_of, Stopped}
use Rattle.patch.proofs.Bounds.{sane_low, sane_at, sane_last}
use Rattle.patch.proofs.Places.{change_same, at_last, before_last, before_all, position_found, partner_place, partner_past}
use Rattle.patch.proofs.Spots.{spot_target, spot_patch}
use Rattle.patch.proofs.Zippers.{lies_beyond, focus_lies, stops, held_length}
use Rattle.patch.proofs.Ends.{children_to}

-- a partner is a child
pub partner_below : (m : Pairing) (l : Name) (f : Forest) (i j : ℕ) → partner m l f i ≡ Some j → j < count f
partner_below m l f i j e = go m e
  where
    placed : (b : Bool) → ltb i (count f) ≡ b → cond b (Some i) None ≡ Some j → j < count f
    placed true t e = let q : i ≡ j = cc in omega (arith, ltb-true i (count f) t)
    placed false t e = absurd (let z : ◌≡◌ {A = ℕ} 0 1 = cc in omega arith)

    go : (m : Pairing) → partner m l f i ≡ Some j → j < count f
    go ByName e = omega (arith, position_found 0 l f j e)
    go ByPlace e = placed (ltb i (count f)) refl e
    go Extending e = placed (ltb i (count f)) refl e

-- a node whose child meets the patch's
meets_child : (base : List Cell) (l : Name) (os : List Open) (frs : List Frame) (to : Frame) (o : Open) (lv : ℕ) (t u : Tree) (target patch used : ℕ) (rest cells : List Cell) (a : Walked Tree) → Fits base l os to o → IsHeld base l frs os → o.levels ≡ lv
    → Holds base l (o ∷ os) t rest cells → target ≡ length base + length (pre l (o ∷ os)) → Lies base patch u → sound lv t ≡ true → sound lv u ≡ true → patch + size u ≡ o.end → used + length rest ≡ length cells
    → a ≡ resume (o ∷ os) (apply_within lv t u (length rest)) → Meeting_of base l (to ∷ frs) (record { target = target; patch = patch }) used cells a
meets_child base l os frs to o zero t u target patch used rest cells a fits held lev holds place lu sane sounds past us c = absurd (let z : ◌≡◌ {A = ℕ} 0 1 = cc in omega arith)
meets_child base l os frs to o (suc lv) (node h f) (node k g) target patch used rest cells a fits held lev holds place lu sane sounds past us c =
    record {
      os = o ∷ os;
      levels = lv;
      h = h;
      f = f;
      k = k;
      g = g;
      rest = rest;
      held = (fits, held);
      depth = omega (arith, fits.as_node.depth, lev);
      holds = holds;
      place = place;
      patch = lu;
      sane = sane;
      sounds = sounds;
      few = fits.as_node.few;
      past = past;
      used_is = us;
      comes = c;
    }

-- a sound tree has a level
child_levels : (lv : ℕ) (u : Tree) → sound lv u ≡ true → (n : ℕ) × (suc n ≡ lv)
child_levels zero u e = absurd (let z : ◌≡◌ {A = ℕ} 0 1 = cc in omega arith)
child_levels (suc n) u e = (n, refl)

-- a child without a partner is skipped, but in a list
skips : (m : Pairing) (i : ℕ) (l : Name) (p : Tree) (f : Forest) (free : ℕ) (rest : Forest → ℕ → Walked Forest) → (m ≡ Extending → ⊥) → lay_beyond m i l p f free rest ≡ rest f free
skips ByName i l p f free rest n = refl
skips ByPlace i l p f free rest n = refl
skips Extending i l p f free rest n = absurd (n refl)

module _ (base : List Cell) (l : Name) (fr : Frame) (frs : List Frame) (used : ℕ) (cells : List Cell) (a : Walked Tree) (w : Within base l fr frs used cells a) where
  -- where the node lies
  pub node_lies : Lies cells fr.target (node w.h w.f)
  node_lies = focus_lies base l w.os (node w.h w.f) w.rest cells fr.target w.holds w.opened.place

  -- a node whose patch has no child left is done
  pub node_done : fr.next.count ≡ 0 → Finished base l frs (record { target = fr.row; patch = fr.next }) used cells a
  node_done z =
      let e = none_left w.g (omega (arith, w.opened.counted)) in
      let high : height (node w.h w.f) ≤ 16 = omega (arith, sane_low w.levels w.h w.f w.opened.sane, w.opened.depth) in
      record {
        os = w.os;
        levels = w.levels;
        t = node w.h w.f;
        rest = w.rest;
        held = w.held;
        depth = w.opened.depth;
        holds = w.holds;
        sane = w.opened.sane;
        target = subst (λ x. EndsAt cells fr.row (x + size (node w.h w.f))) w.opened.place (children_to node_lies high fr.row.count w.j fr.row w.row (omega arith));
        end = fr.next.at;
        patch = subst (λ n. TreesTo cells fr.next.at n fr.next.at) (sym z) (omega arith);
        past = subst (λ n. Past w.os n) (omega (arith, ap sizes e)) w.opened.past;
        used_is = w.used_is;
        comes = w.comes ∙ ap (λ x. resume w.os (within_node w.h (onto (apply_within w.levels) fr.pairing fr.index w.f x (length w.rest)))) e;
      }

  pub stack_room : length frs ≤ 15
  stack_room = omega (arith, w.opened.depth, held_length base l frs w.os w.held)

  pub index_low : fr.index + fr.next.count ≤ 65535
  index_low = omega (arith, w.opened.small, w.opened.few)

  module _ (p : 0 < fr.next.count) where
    -- the patch's next child
    abbrev pub child : Next base fr.next.at w.g
    child = next w.opened.patch (omega (arith, w.opened.counted))

    child_sound : (sound w.levels child.first ≡ true) × (each (sound w.levels) child.others ≡ true)
    child_sound = and_parts (sound w.levels child.first) (each (sound w.levels) child.others) (ap (each (sound w.levels)) (sym child.is) ∙ w.opened.sounds)

    pub child_high : height child.first ≤ w.levels
    child_high = sound_height w.levels child.first child_sound.0

    -- where it and the node lie
    abbrev pub child_spot : Spot cells (record { target = fr.target; patch = fr.next.at }) used (base ++ pre l w.os) (label l w.os) (node w.h w.f) child.first (post w.os) w.rest
    child_spot =
        record {
          is = w.holds ∙ sym (append_assoc base (pre l w.os) _);
          place = w.opened.place ∙ sym (length-append base (pre l w.os));
          patch = lies_beyond (pre l w.os) child.here;
          high = omega (arith, sane_low w.levels w.h w.f w.opened.sane, w.opened.depth);
          patch_high = omega (arith, child_high, w.opened.depth);
          used_is = w.used_is;
        }

    -- so its partner can be looked for
    abbrev pub child_comes : Comes cells fr (node w.h w.f) child.first
    child_comes =
        record {
          j = w.j;
          row = w.row;
          target = spot_target child_spot;
          high = child_spot.high;
          patch = spot_patch child_spot;
          apart = w.opened.apart;
          even = w.even;
        }

    -- so a fault of it finds room in a path
    pub way_room : length frs + 1 ≤ 15
    way_room = omega (arith, w.opened.depth, held_length base l frs w.os w.held, child_high, height_pos child.first)

    next_answer : a ≡ resume w.os (within_node w.h (lay_next (apply_within w.levels) fr.pairing fr.index child.here.label child.first w.f (length w.rest) (partner fr.pairing child.here.label w.f fr.index) (λ f' free'. onto (apply_within w.levels) fr.pairing (suc fr.index) f' child.others free')))
    next_answer = w.comes ∙ ap (λ x. resume w.os (within_node w.h (onto (apply_within w.levels) fr.pairing fr.index w.f x (length w.rest)))) child.is

    others_empty : (x : fr.pairing ≡ Extending) → (same_name child.here.label [] ≡ true) × (all_empty (labels child.others) ≡ true)
    others_empty x = and_parts (same_name child.here.label []) (all_empty (labels child.others)) (ap (λ g. all_empty (labels g)) (sym child.is) ∙ (w.opened.listed x).1)

    -- without a partner by position, the row is behind the last child
    module _ (e : partner fr.pairing child.here.label w.f fr.index ≡ None) where
      past : (fr.pairing ≡ ByName → ⊥) → count w.f ≤ fr.index
      past n = partner_past fr.pairing child.here.label w.f fr.index n e

      module _ (x : fr.pairing ≡ Extending) where
        no_names : fr.pairing ≡ ByName → ⊥
        no_names z = let q : Extending ≡ ByName = sym x ∙ z in absurd (let z : ◌≡◌ {A = ℕ} 0 1 = cc in omega arith)

        row_end : w.j ≡ count w.f
        row_end = omega (arith, w.row.count_is, w.even no_names, past no_names)

        pub node_end : fr.row.at ≡ fr.target + size (node w.h w.f)
        node_end = omega (arith, w.row.at_is, ap (λ n. before n w.f) row_end, before_all w.f)

    -- without a partner
    none_answer : partner fr.pairing child.here.label w.f fr.index ≡ None → a ≡ resume w.os (within_node w.h (lay_beyond fr.pairing fr.index child.here.label child.first w.f (length w.rest) (λ f' free'. onto (apply_within w.levels) fr.pairing (suc fr.index) f' child.others free')))
    none_answer e = next_answer ∙ ap (λ x. resume w.os (within_node w.h (lay_next (apply_within w.levels) fr.pairing fr.index child.here.label child.first w.f (length w.rest) x (λ f' free'. onto (apply_within w.levels) fr.pairing (suc fr.index) f' child.others free')))) e

    -- the frame of the node afterwards
    module _ (to : Frame) (ft : to.target ≡ fr.target) (fn : to.next.at ≡ fr.next.at + size child.first) (fl : to.next.count + 1 ≡ fr.next.count) (fi : to.index ≡ suc fr.index) (fp : to.pairing ≡ fr.pairing) where
      moved : (f : Forest) → sound (suc w.levels) (node w.h f) ≡ true → (fr.pairing ≡ ByName → distinct (labels f) ≡ true) → OpenNode base l w.os to w.h f child.others w.levels
      moved f sane apart =
          record {
            place = ft ∙ w.opened.place;
            depth = w.opened.depth;
            patch = subst (λ n. LieAll base n child.others) (sym fn) child.there;
            counted = omega (arith, w.opened.counted, child.fewer);
            small = omega (arith, w.opened.small);
            few = w.opened.few;
            sane = sane;
            sounds = child_sound.1;
            apart = λ e. apart (sym fp ∙ e);
            listed = λ e. ((w.opened.listed (sym fp ∙ e)).0, (others_empty (sym fp ∙ e)).1);
            past = subst (λ n. Past w.os n) (omega (arith, fn, child.room)) w.opened.past;
          }

      -- it is skipped
      pub goes_past : partner fr.pairing child.here.label w.f fr.index ≡ None → to.row ≡ fr.row → (fr.pairing ≡ Extending → ⊥) → Within base l to frs used cells a
      goes_past e r n =
          record {
            os = w.os;
            levels = w.levels;
            h = w.h;
            f = w.f;
            g = child.others;
            j = w.j;
            rest = w.rest;
            held = w.held;
            opened = moved w.f w.opened.sane w.opened.apart;
            row = record { at_is = omega (arith, ap (λ (x : Row). x.at) r, w.row.at_is, ft); count_is = omega (arith, ap (λ (x : Row). x.count) r, w.row.count_is) };
            even = λ m. let q : fr.pairing ≡ ByName → ⊥ = λ z. m (fp ∙ z) in omega (arith, ap (λ (x : Row). x.count) r, w.even q, past e q, fi);
            holds = w.holds;
            used_is = w.used_is;
            comes = none_answer e ∙ ap (λ x. resume w.os (within_node w.h x)) (skips fr.pairing fr.index child.here.label child.first w.f (length w.rest) _ n)
                ∙ ap₂ (λ m i. resume w.os (within_node w.h (onto (apply_within w.levels) m i w.f child.others (length w.rest)))) (sym fp) (sym fi);
          }

    -- the frame that is pushed, whose rows begin with the child
    abbrev pub pushed : Row → Frame
    pushed row = record { pairing = fr.pairing; target = fr.target; row = row; next = fr.next; index = fr.index }

    abbrev after_child : Row → Frame
    after_child row = onward (pushed row) row (fr.next.at + size child.first)

    fewer : fr.next.count - 1 + 1 ≡ fr.next.count
    fewer = omega arith

    node_after : (row : Row) (f : Forest) → sound (suc w.levels) (node w.h f) ≡ true → (fr.pairing ≡ ByName → distinct (labels f) ≡ true) → OpenNode base l w.os (after_child row) w.h f child.others w.levels
    node_after row f = moved (after_child row) refl refl fewer (add-one fr.index) refl f

    -- it meets a child of the target
    pub goes_onto : (row : Row) (j : ℕ) → partner fr.pairing child.here.label w.f fr.index ≡ Some j → From fr.target w.f j row → Meeting_of base l (pushed row ∷ frs) (record { target = row.at; patch = fr.next.at }) used cells a
    goes_onto row j e k =
        let os = w.os in
        let below = partner_below fr.pairing child.here.label w.f fr.index j e in
        let th = at_there w.f j below in
        let t = th.0 in
        let am = among w.f j th.1 in
        let o : Open = record { head = w.h; children = w.f; j = j; front = am.pre; back = am.post; pairing = fr.pairing; i = fr.index; end = fr.next.at + size child.first; others = child.others; levels = w.levels } in
        let fits : Fits base l os (pushed row) o = record {
          as_node = node_after row w.f w.opened.sane w.opened.apart;
          index_is = refl;
          pairing_is = refl;
          splits = λ t. am.changed (λ _. t);
          far = am.far;
          row = k;
          here = omega (arith, k.count_is, below);
          some = p;
          even = λ n. omega (arith, k.count_is, partner_place fr.pairing child.here.label w.f fr.index j n e);
        } in
        let regroup : pre l os ++ (encode (label l os) (node w.h w.f) ++ (post os ++ w.rest)) ≡ pre l (o ∷ os) ++ (encode (label_at j w.f) t ++ ((am.post ++ post os) ++ w.rest)) =
        ap (λ x. pre l os ++ (cell_of (label l os) (node w.h w.f) ∷ (x ++ (post os ++ w.rest)))) am.whole ∙ simp append_assoc in
        meets_child base l os frs (pushed row) o w.levels t child.first row.at fr.next.at used w.rest cells a fits w.held refl
        (w.holds ∙ ap (λ x. base ++ x) regroup)
        (omega (arith, k.at_is, w.opened.place, length-append (pre l os) (cell_of (label l os) (node w.h w.f) ∷ am.pre), am.far))
        child.here
        (sane_at w.levels w.h w.f w.opened.sane j th.1)
        child_sound.0
        refl
        w.used_is
        (next_answer
        ∙ ap (λ x. resume os (within_node w.h (lay_next (apply_within w.levels) fr.pairing fr.index child.here.label child.first w.f (length w.rest) x (λ f' free'. onto (apply_within w.levels) fr.pairing (suc fr.index) f' child.others free')))) e
        ∙ ap (λ x. resume os (within_node w.h (lay_at (apply_within w.levels) fr.index child.first w.f (length w.rest) j x (λ f' free'. onto (apply_within w.levels) fr.pairing (suc fr.index) f' child.others free')))) th.1)

    module _ (e : partner fr.pairing child.here.label w.f fr.index ≡ None) (x : fr.pairing ≡ Extending) where
      list_answer : (b : Bool) → leb (size child.first) (length w.rest) ≡ b → a ≡ resume w.os (within_node w.h (cond b (onto (apply_within w.levels) fr.pairing (suc fr.index) (add_last child.here.label child.first w.f) child.others (length w.rest - size child.first)) (ended w.f (length w.rest) (no_room (size child.first) (length w.rest) (fr.index ∷ [])))))
      list_answer b y =
          none_answer e
          ∙ ap (λ m. resume w.os (within_node w.h (lay_beyond m fr.index child.here.label child.first w.f (length w.rest) (λ f' free'. onto (apply_within w.levels) fr.pairing (suc fr.index) f' child.others free')))) x
          ∙ ap (λ b. resume w.os (within_node w.h (cond b (onto (apply_within w.levels) fr.pairing (suc fr.index) (add_last child.here.label child.first w.f) child.others (length w.rest - size child.first)) (ended w.f (length w.rest) (no_room (size child.first) (length w.rest) (fr.index ∷ [])))))) y

      -- its copy is the last child, and is done
      pub goes_copied : (row : Row) → row.at ≡ fr.row.at → row.count ≡ 1 → (n : ℕ) (cells' : List Cell) → Became cells' (base ++ pre l w.os) (label l w.os) (node w.h (add_last child.here.label child.first w.f)) (post w.os) w.rest (size child.first) 0 n → Laid_at base l (pushed row ∷ frs) (record { target = fr.row.at; patch = fr.next.at }) n cells' a
      goes_copied row ra rc n cells' b =
          let os = w.os in
          let u = child.first in
          let f = add_last child.here.label u w.f in
          let j = count w.f in
          let q = at_last child.here.label u w.f in
          let am = among f j q in
          let sane = sane_last w.levels w.h w.f w.opened.sane child.here.label u (w.opened.listed x).0 (others_empty x).0 child_sound.0 in
          let o : Open = record { head = w.h; children = f; j = j; front = am.pre; back = am.post; pairing = fr.pairing; i = fr.index; end = fr.next.at + size u; others = child.others; levels = w.levels } in
          let many = count-add_last child.here.label u w.f in
          let place = before_last child.here.label u w.f in
          let fits : Fits base l os (pushed row) o = record {
            as_node = node_after row f sane (λ z. absurd (no_names e x z));
            index_is = refl;
            pairing_is = refl;
            splits = λ t. am.changed (λ _. t);
            far = am.far;
            row = record { at_is = omega (arith, ra, node_end e x, place); count_is = omega (arith, rc, many) };
            here = omega (arith, rc);
            some = p;
            even = λ m. omega (arith, rc, many, past e (no_names e x));
          } in
          let deep = child_levels w.levels u child_sound.0 in
          let regroup : pre l os ++ (encode (label l os) (node w.h f) ++ (post os ++ b.left)) ≡ pre l (o ∷ os) ++ (encode (label_at j f) u ++ ((am.post ++ post os) ++ b.left)) =
          ap (λ x. pre l os ++ (cell_of (label l os) (node w.h f) ∷ (x ++ (post os ++ b.left)))) am.whole ∙ simp append_assoc in
          let s : (m : ℕ) → suc m ≡ w.levels → sound (suc m) u ≡ true = λ m z. ap (λ i. sound i u) z ∙ child_sound.0 in
          record {
            os = o ∷ os;
            levels = deep.0;
            t = u;
            u = u;
            rest = b.left;
            held = (fits, w.held);
            depth = omega (arith, w.opened.depth, deep.1);
            holds = b.is ∙ append_assoc base (pre l os) _ ∙ ap (λ x. base ++ x) regroup;
            sane = s deep.0 deep.1;
            sounds = s deep.0 deep.1;
            place = omega (arith, node_end e x, w.opened.place, place, am.far, length-append (pre l os) (cell_of (label l os) (node w.h f) ∷ am.pre));
            patch = child.here;
            past = refl;
            used_is = b.used_is;
            comes = list_answer true (le-leb _ _ b.fits)
                ∙ ap₂ (λ k y. resume os (within_node w.h (onto (apply_within w.levels) fr.pairing (suc fr.index) y child.others k))) (omega (arith, b.frees)) (sym (change_same j f q));
          }

      -- or finds no room
      pub copy_stops : (row : Row) (er : ApplyError) (cells' : List Cell) → Refused cells cells' w.rest (size child.first) er → Stopped base l (pushed row ∷ frs) used cells' er a
      copy_stops row er cells' r =
          let free = length w.rest in
          subst (λ y. Stopped base l (pushed row ∷ frs) used y er a) (sym r.same)
          (stops base l frs w.os (ended (node w.h w.f) free (no_room (size child.first) free (fr.index ∷ []))) er used w.rest cells a (fr.index ∷ []) w.held
          (ap (λ y. stopped (fault_of y (fr.index ∷ []))) (sym r.is)) refl w.holds w.used_is (list_answer false (lt-leb _ _ r.wants)) (pushed row ∷ frs) refl (omega (arith, way_room)))

-- the node and the patch's next child
abbrev pub child_placed : (k : Task) (v : Walk) (fr : Frame) (w : IsAtStep k v (On fr)) (p : 0 < fr.next.count) → Placed v.cells.now v.used (record { target = fr.target; patch = fr.next.at }) (node w.h w.f) (child k.base k.name fr (frames_of v) v.used v.cells.now k.outcome w p).first
child_placed k v fr w p =
    record {
      front = k.base ++ pre k.name w.os;
      label = label k.name w.os;
      behind = post w.os;
      free = w.rest;
      spot = child_spot k.base k.name fr (frames_of v) v.used v.cells.now k.outcome w p;
    }
