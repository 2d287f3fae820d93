-- A child is done: the node around it goes on behind the child, or is done as well.
use Rattle.std.proofs.Common.{◌≡◌, ℕ, suc, ◌+◌, ◌-◌, ◌<◌, ◌≤◌, Bool, true, false, ltb, List, [], ◌∷◌, ◌++◌, length, sym, refl, ap, ◌∙◌, subst, ap₂, append_assoc, arith, length-append}
use mathlib.Core.Logic.{◌⊎◌, inl, inr}
use Rattle.std.proofs.lemmas.Bool.{ltb-true, ltb-false}
use Rattle.trees.specs.Name.{Name, distinct}
use Rattle.trees.specs.Tree.{Tree, node, Forest, count, size, sizes, height, sound}
use Rattle.trees.specs.Place.{change_at}
use Rattle.trees.specs.Apply.{Walked, ended, done, within_node, apply_within}
use Rattle.cells.specs.declared.types.Cell.{Cell}
use Rattle.cells.specs.Layout.{encode, cell_of, before, Lies, LieAll}
use Rattle.cells.proofs.Changes.{count_change, before_change}
use Rattle.cells.proofs.Layouts.{next, none_left}
use Rattle.patch.specs.declared.frames.Frame.{Frame}
use Rattle.patch.specs.declared.frames.Ends.{Ends}
use Rattle.patch.specs.declared.frames.Row.{Row}
use Rattle.patch.specs.declared.manners.Pairing.TheVariants.{ByName, ByPlace}
use Rattle.patch.specs.Manners.{onto}
use Rattle.patch.specs.Rows.{From, TreesTo, EndsAt, Under, LaidChild, IsLast, longer, onward}
use Rattle.patch.specs.Walk.{Open, resume, label, pre, post, Holds, Past, Fits, IsHeld, Finished, Within}
use Rattle.patch.proofs.Bounds.{sane_change, sane_low}
use Rattle.patch.proofs.Places.{labels_change, before_next, from_below}
use Rattle.patch.proofs.Ontos.{place_past}
use Rattle.patch.proofs.Zippers.{lies_beyond, filled, focus_lies}
use Rattle.patch.proofs.Ends.{trees_join, trees_few, trees_beyond, children_to, sound_to}

-- the child in the focus, and the node around it
pub record Around (base : List Cell) (l : Name) (fr : Frame) (frs : List Frame) (ends : Ends) (used : ℕ) (cells : List Cell) (a : Walked Tree) : Type 0 where
  pub o : Open
  pub os : List Open
  pub levels : ℕ
  pub t : Tree
  pub rest : List Cell
  pub fits : Fits base l os fr o
  pub held : IsHeld base l frs os
  pub depth : levels + suc (suc (length os)) ≡ 16
  pub holds : Holds base l (o ∷ os) t rest cells
  pub sane : sound (suc levels) t ≡ true
  pub target : EndsAt cells ends.target (length base + length (pre l (o ∷ os)) + size t)
  pub patch : EndsAt cells ends.patch o.end
  pub used_is : used + length rest ≡ length cells
  pub comes : a ≡ resume (o ∷ os) (ended t (length rest) done)

module _ (base : List Cell) (l : Name) (fr : Frame) (frs : List Frame) (ends : Ends) (used : ℕ) (cells : List Cell) (a : Walked Tree) (d : Finished base l (fr ∷ frs) ends used cells a) where
  pub around : Around base l fr frs ends used cells a
  around = go d.os d.held d.depth d.holds d.target d.past d.comes
    where
      go : (os : List Open) → IsHeld base l (fr ∷ frs) os → d.levels + suc (length os) ≡ 16 → Holds base l os d.t d.rest cells → EndsAt cells ends.target (length base + length (pre l os) + size d.t) → Past os d.end → a ≡ resume os (ended d.t (length d.rest) done) → Around base l fr frs ends used cells a
      go [] h n holds target past comes = absurd h
      go (o ∷ os) h n holds target past comes =
          record {
            o = o;
            os = os;
            levels = d.levels;
            t = d.t;
            rest = d.rest;
            fits = h.0;
            held = h.1;
            depth = n;
            holds = holds;
            sane = d.sane;
            target = target;
            patch = subst (λ x. EndsAt cells ends.patch x) past d.patch;
            used_is = d.used_is;
            comes = comes;
          }

  abbrev p : Around base l fr frs ends used cells a
  p = around

  abbrev o : Open
  o = p.o

  -- the node's children, with the tree for the child
  abbrev f : Forest
  f = change_at o.j (λ _. p.t) o.children

  abbrev t : Tree
  t = node o.head f

  pub few_left : (0 < fr.row.count) × (0 < fr.next.count) × (fr.index + fr.next.count ≤ 65535)
  few_left = let k = p.fits in (k.here, k.some, omega (arith, k.some, k.as_node.small, k.as_node.few))

  pub many : count f ≡ count o.children
  many = count_change (λ _. p.t) o.children o.j

  -- the node is in the focus, and lies in the cells
  node_holds : Holds base l p.os t p.rest cells
  node_holds =
      p.holds
      ∙ ap (λ x. base ++ x) (ap (λ x. pre l (o ∷ p.os) ++ (encode (label l (o ∷ p.os)) p.t ++ x)) (append_assoc o.back (post p.os) p.rest) ∙ sym (filled base l p.os fr o p.t (post p.os ++ p.rest) p.fits))

  pub node_lies : Lies cells fr.target t
  node_lies = focus_lies base l p.os t p.rest cells fr.target node_holds p.fits.as_node.place

  node_sane : sound (suc o.levels) t ≡ true
  node_sane =
      let b = p.fits.as_node in
      let n : suc p.levels ≡ o.levels = omega (arith, b.depth, p.depth) in
      sane_change o.levels o.head o.children b.sane o.j p.t (ap (λ m. sound m p.t) (sym n) ∙ p.sane)

  pub node_high : height t ≤ 16
  node_high = omega (arith, sane_low o.levels o.head f node_sane, p.fits.as_node.depth)

  -- where the child ends
  pub child_end : length base + length (pre l (o ∷ p.os)) + size p.t ≡ fr.target + 1 + before (suc o.j) f
  child_end =
      let k = p.fits in
      omega (arith, length-append (pre l p.os) (cell_of (label l p.os) (node o.head o.children) ∷ o.front), k.as_node.place, k.far, before_next o.j p.t o.children (from_below k.row k.here))

  -- the child is done, and its rest is still to be passed
  abbrev pub child_passed : LaidChild cells fr t ends.target
  child_passed =
      let k = p.fits in
      record {
        j = o.j;
        row = record { at_is = k.row.at_is ∙ ap (λ n. fr.target + 1 + n) (sym (before_change (λ _. p.t) o.children o.j)); count_is = k.row.count_is ∙ sym many };
        here = k.here;
        target = node_lies;
        high = node_high;
        ends = subst (λ n. EndsAt cells ends.target n) child_end p.target;
      }

  -- the patch's next child lies where the one that was laid ends
  pub patch_end : EndsAt cells ends.patch o.end
  patch_end = p.patch

  patch_others : TreesTo cells o.end (count o.others) (o.end + sizes o.others)
  patch_others =
      let b = p.fits.as_node in
      let P = pre l (o ∷ p.os) ++ (encode (label l (o ∷ p.os)) p.t ++ (post (o ∷ p.os) ++ p.rest)) in
      subst (λ (x : List Cell). TreesTo x o.end (count o.others) (o.end + sizes o.others)) (sym p.holds) (trees_beyond base P o.end (count o.others) (o.end + sizes o.others) (sound_to base o.levels o.end o.others b.patch b.sounds (omega (arith, b.depth))))

  -- the node goes on with a row of its children
  pub goes_up : (row : Row) (j next : ℕ) → From fr.target f j row → ((fr.pairing ≡ ByName → ⊥) → j ≡ suc o.j) → next ≡ o.end → Within base l (onward fr row next) frs used cells a
  goes_up row j next from placed past =
      let k = p.fits in
      let b = k.as_node in
      let i : suc o.i ≡ fr.index + 1 = omega (arith, k.index_is) in
      record {
        os = p.os;
        levels = o.levels;
        h = o.head;
        f = f;
        g = o.others;
        j = j;
        rest = p.rest;
        held = p.held;
        opened = record {
          place = b.place;
          depth = b.depth;
          patch = subst (λ m. LieAll base m o.others) (sym past) b.patch;
          counted = b.counted;
          small = b.small;
          few = b.few;
          sane = node_sane;
          sounds = b.sounds;
          apart = λ e. ap distinct (labels_change o.j p.t o.children) ∙ b.apart e;
          listed = b.listed;
          past = subst (λ m. Past p.os (m + sizes o.others)) (sym past) b.past;
        };
        row = from;
        even = λ e. omega (arith, k.even e, k.here, k.row.count_is, from.count_is, placed e, many);
        holds = node_holds;
        used_is = p.used_is;
        comes = p.comes ∙ ap₂ (λ m i. resume p.os (within_node o.head (onto (apply_within o.levels) m i f o.others (length p.rest)))) (sym k.pairing_is) i;
      }

  -- the patch's next child, where it has one
  pub next_child : (IsLast fr → ⊥) → (u : Tree) × Lies cells o.end u
  next_child n =
      let b = p.fits.as_node in
      let more : 0 < count o.others = more_left (ltb fr.next.count 2) refl in
      let c = next b.patch more in
      (c.first, subst (λ (x : List Cell). Lies x o.end c.first) (sym p.holds) (lies_beyond _ c.here))
    where
      more_left : (b : Bool) → ltb fr.next.count 2 ≡ b → 0 < count o.others
      more_left true e = absurd (n (inl (omega (arith, ltb-true fr.next.count 2 e))))
      more_left false e = omega (arith, ltb-false fr.next.count 2 e, p.fits.as_node.counted)

  -- the node goes on by name
  pub goes_named : (row : Row) (n : Name) → From fr.target f (suc o.j) row ⊎ Under fr.target n f row → (next : ℕ) → fr.pairing ≡ ByName → next ≡ o.end → Within base l (onward fr row next) frs used cells a
  goes_named row n (inl from) next m e = goes_up row (suc o.j) next from (λ x. refl) e
  goes_named row n (inr under) next m e = goes_up row under.j next under.begins (λ x. absurd (x m)) e

  -- it is done as well
  all_laid : IsLast fr → onto (apply_within o.levels) o.pairing (suc o.i) f o.others (length p.rest) ≡ ended f (length p.rest) done
  all_laid (inl n) =
      let k = p.fits in
      let e = none_left o.others (omega (arith, k.as_node.counted)) in
      ap (λ g. onto (apply_within o.levels) o.pairing (suc o.i) f g (length p.rest)) e
  all_laid (inr n) =
      let k = p.fits in
      let no_name : fr.pairing ≡ ByName → ⊥ = λ e. let q : ByPlace ≡ ByName = sym n.0 ∙ e in absurd (let z : ◌≡◌ {A = ℕ} 0 1 = cc in omega arith) in
      ap (λ m. onto (apply_within o.levels) m (suc o.i) f o.others (length p.rest)) (sym k.pairing_is ∙ n.0)
      ∙ place_past (apply_within o.levels) (suc o.i) f o.others (length p.rest) (omega (arith, k.even no_name, k.index_is, n.1, many))

  abbrev pub both : Ends
  both = record { target = longer ends.target (fr.row.count - 1); patch = longer ends.patch (fr.next.count - 1) }

  target_all : EndsAt cells both.target (fr.target + size t)
  target_all =
      let k = p.fits in
      let c = child_passed in
      let row : Row = record { at = fr.target + 1 + before (suc o.j) f; count = fr.row.count - 1 } in
      let behind = children_to node_lies node_high (fr.row.count - 1) (suc o.j) row (record { at_is = omega arith; count_is = omega (arith, k.here, k.row.count_is, many) }) (omega arith) in
      trees_join cells ends.target.at (fr.target + 1 + before (suc o.j) f) (fr.target + size t) ends.target.count (fr.row.count - 1) both.target.count c.ends behind (omega arith)

  patch_all : EndsAt cells both.patch (o.end + sizes o.others)
  patch_all =
      trees_join cells ends.patch.at o.end (o.end + sizes o.others) ends.patch.count (count o.others) both.patch.count p.patch patch_others (omega (arith, p.fits.as_node.counted))

  -- the two rows have no more trees than there are cells
  pub both_few : (both.target.count ≤ length cells) × (both.patch.count ≤ 65535)
  both_few = (
    omega (arith, trees_few cells both.target.at (fr.target + size t) both.target.count target_all, node_lies.within),
    omega (arith, trees_few cells both.patch.at (o.end + sizes o.others) both.patch.count patch_all, p.fits.as_node.patch.within, p.fits.as_node.few),
  )

  pub closes : IsLast fr → Finished base l frs both used cells a
  closes n =
      let b = p.fits.as_node in
      record {
        os = p.os;
        levels = o.levels;
        t = t;
        rest = p.rest;
        held = p.held;
        depth = b.depth;
        holds = node_holds;
        sane = node_sane;
        target = subst (λ x. EndsAt cells both.target (x + size t)) b.place target_all;
        end = o.end + sizes o.others;
        patch = patch_all;
        past = b.past;
        used_is = p.used_is;
        comes = p.comes ∙ ap (λ x. resume p.os (within_node o.head x)) (all_laid n);
      }
