-- Sound nodes: their height, and what a change or a further child leaves sound.
use Rattle.std.proofs.Common.{◌≡◌, ℕ, suc, ◌≤◌, true, [], Some, sym, refl, ap, ◌∙◌, arith}
use Rattle.std.proofs.lemmas.Bool.{and_parts, and_from}
use Rattle.names.specs.Names.{same_name}
use Rattle.trees.specs.Name.{Name, all_empty}
use Rattle.trees.specs.declared.head.Head.{Head}
use Rattle.trees.specs.declared.head.Head.TheVariants.{List as list}
use Rattle.trees.specs.Tree.{Tree, node, Forest, empty, more, heights, at, labels, each, fits, sound}
use Rattle.trees.specs.Place.{change_at, add_last}
use Rattle.trees.proofs.Changes.{at_ok, each_change_at, each_last}
use Rattle.cells.proofs.Sounds.{sound_height}
use Rattle.patch.proofs.Places.{labels_change}

module _ (n : ℕ) (h : Head) (f : Forest) (s : sound (suc n) (node h f) ≡ true) where
  pub sane_fits : fits h (labels f) ≡ true
  sane_fits = (and_parts (fits h (labels f)) (each (sound n) f) s).0

  pub sane_each : each (sound n) f ≡ true
  sane_each = (and_parts (fits h (labels f)) (each (sound n) f) s).1

  pub sane_low : heights f ≤ n
  sane_low = omega (arith, sound_height (suc n) (node h f) s)

  pub sane_at : (j : ℕ) {t : Tree} → at j f ≡ Some t → sound n t ≡ true
  sane_at j {t} e = at_ok (sound n) j f t sane_each e

  pub sane_change : (j : ℕ) (t : Tree) → sound n t ≡ true → sound (suc n) (node h (change_at j (λ _. t) f)) ≡ true
  sane_change j t k = and_from _ _ (ap (fits h) (labels_change j t f) ∙ sane_fits) (each_change_at (sound n) j (λ _. t) f sane_each (λ u e q. k))

  -- a list with an element more
  pub sane_last : (l : Name) (u : Tree) → h ≡ list → same_name l [] ≡ true → sound n u ≡ true → sound (suc n) (node h (add_last l u f)) ≡ true
  sane_last l u e q k =
      and_from _ _
      (ap (λ (x : Head). fits x (labels (add_last l u f))) e ∙ all_last f (ap (λ (x : Head). fits x (labels f)) (sym e) ∙ sane_fits))
      (each_last (sound n) l u f sane_each k)
    where
      all_last : (g : Forest) → all_empty (labels g) ≡ true → all_empty (labels (add_last l u g)) ≡ true
      all_last empty a = and_from _ _ q refl
      all_last (more m t g) a = let p = and_parts (same_name m []) (all_empty (labels g)) a in and_from _ _ p.0 (all_last g p.1)
