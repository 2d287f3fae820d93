-- What is left once a child that has no partner is passed over.
use Rattle.std.proofs.Common.{◌≡◌, ℕ, ◌-◌, ◌<◌, ◌≤◌, List, [], ◌∷◌, drop, Some, None, Option, sym, refl, ap, ◌∙◌, subst, ap₂, arith}
use Rattle.std.specs.Prelude.{option_map, is_none, if◌then◌else◌, IfSome}
use Rattle.trees.specs.Tree.{Tree, Forest, empty, more, count, size, heights}
use Rattle.cells.specs.Reading.{behind, roots, first_tree}
use Rattle.cells.specs.Views.{tree, forest}
use Rattle.cells.specs.declared.views.Node.{Node}
use Rattle.cells.specs.declared.views.Kids.{Kids}
use Rattle.cells.proofs.Readings.{counted}
use Rattle.cells.proofs.Viewed.{rows, splits}
use Rattle.walks.specs.Pairs.{by_place, pairs_with, pairs, Meets, ShowsFirst, LeavesRest}
use Rattle.walks.specs.declared.pairs.Partners.{Partners}
use Rattle.walks.specs.declared.pairs.Partners.TheVariants.{ByPlace, ByName}
use Rattle.walks.specs.declared.pairs.Pair.{Pair}
use Rattle.walks.specs.declared.pairs.Pairs.{Pairs}
use Rattle.walks.proofs.Meetings.{a_partner, no_partner}

-- a row without its first
pub record Tail (k : Kids) : Type 0 where
  pub row : Kids
  pub is : forest row ≡ behind 1 (forest k)

tail : (k : Kids) → 0 < k.count → Tail k
tail k p =
    let end = size (first_tree (roots k.cells.now)) in
    let s = splits k.count end k.cells.now (drop end k.cells.now) p (rows k) refl refl in
    record {
      row = record { cells = record { ref_ptr = k.cells.ref_ptr; now = drop end k.cells.now }; count = k.count - 1; whole = s.rows.whole; sane = s.rows.sane };
      is = sym (ap (behind 1) s.is);
    }

-- some children are left, and those behind the first have the partners that they had
pub record Past (f : Forest) (theirs : Partners) : Type 0 where
  pub some : 0 < count f
  pub past : pairs_with (behind 1 f) theirs ≡ drop 1 (pairs_with f theirs)

no_pair : {A B : Type 0} {x : B} {xs : List B} → [] ≡ x ∷ xs → A
no_pair {A} {B} {x} {xs} e = absurd (let z : ◌≡◌ {A = ℕ} 0 1 = cc in omega arith)

no_lone : {A : Type 0} {x t u : Tree} {xs ps : List (Tree × Option Tree)} → (x, Some u) ∷ xs ≡ (t, None) ∷ ps → A
no_lone {A} {x} {t} {u} e =
    let q : ◌≡◌ {A = Tree × Option Tree} (x, Some u) (t, None) = cc in
    let r : ◌≡◌ {A = Option Tree} (Some u) None = ap (λ (p : Tree × Option Tree). p.1) q in
    absurd (let z : ◌≡◌ {A = ℕ} 0 1 = cc in omega arith)

past : (f : Forest) (theirs : Partners) (t : Tree) (ps : List (Tree × Option Tree)) → pairs_with f theirs ≡ (t, None) ∷ ps → Past f theirs
past empty (ByPlace row) t ps e = no_pair e
past (more l x f) (ByPlace row) t ps e = go (forest row) e
  where
    go : (g : Forest) → by_place (more l x f) g ≡ (t, None) ∷ ps → Past (more l x f) (ByPlace row)
    go empty e = no_pair e
    go (more k u g) e = no_lone e
past empty (ByName fields) t ps e = no_pair e
past (more l x f) (ByName fields) t ps e = record { some = omega arith; past = refl }

heights_behind : (f : Forest) → heights (behind 1 f) ≤ heights f
heights_behind empty = omega arith
heights_behind (more l t f) = omega arith

-- so the pair is taken away, and that is left
lone_left : (old new : Pairs) (pair : Pair) → pair.theirs ≡ None → ShowsFirst old new (Some pair) → LeavesRest old new (Some pair)
lone_left old new pair e h =
    let a = no_partner old new pair h e in
    let p = past (forest old.ours) old.theirs (tree pair.ours) (drop 1 (pairs old)) a.split in
    let t = tail old.ours (omega (arith, p.some, counted old.ours.count old.ours.cells.now old.ours.whole)) in
    let now : forest old.ours ≡ forest new.ours = ap (λ (p : Pairs). forest p.ours) (sym a.kept) in
    record {
      rest = record { ours = t.row; theirs = old.theirs };
      taken =
          record {
            split = a.split ∙ ap₂ (λ o ps. (tree pair.ours, option_map tree o) ∷ ps) (sym e) (sym p.past ∙ ap (λ f. pairs_with f old.theirs) (sym t.is));
            alike = refl;
            low = omega (arith, ap heights t.is, heights_behind (forest old.ours));
            met = subst (λ o. IfSome o (λ y. Meets old (record { ours = t.row; theirs = old.theirs }) (tree pair.ours) (tree y))) (sym e) tt;
          };
      ours = t.is ∙ ap (behind 1) now ∙ ap (λ o. if is_none o then behind 1 (forest new.ours) else forest new.ours) (sym e);
      theirs = ap (λ (p : Pairs). p.theirs) (sym a.kept);
    }

-- what is shown is taken away, and the rest is left
pub left_rest : (old new : Pairs) (a : Option Pair) → ShowsFirst old new a → LeavesRest old new a
left_rest old new None h = record { rest = new; taken = h; ours = refl; theirs = refl }
left_rest old new (Some pair) h = go pair.theirs refl
  where
    go : (o : Option Node) → pair.theirs ≡ o → LeavesRest old new (Some pair)
    go None e = lone_left old new pair e h
    go (Some y) e =
        record {
          rest = new;
          taken = a_partner old new pair h y e;
          ours = ap (λ o. if is_none o then behind 1 (forest new.ours) else forest new.ours) (sym e);
          theirs = refl;
        }
