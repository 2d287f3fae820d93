-- A run that is copied behind the used cells and exchanged into its place.
use Rattle.std.proofs.Common.{◌≡◌, ℕ, ◌+◌, ◌-◌, ◌<◌, ◌≤◌, List, ◌∷◌, ◌++◌, length, take, drop, set, sym, ap, ◌∙◌, ap₂, append_assoc, arith, length-append, length-drop, length-take-le, take_at, drop_at}
use lib.Seq.{set_at, paste}
use Rattle.std.proofs.lemmas.List.{take-append-drop}
use Rattle.cells.specs.declared.types.Cell.{Cell}
use Rattle.std.specs.declared.ops.Range.{Range}
use Rattle.patch.specs.Edits.{Parts, IsRenewed}

module _ {X : Type 0} where
  -- cells by their parts: the copy goes to the first free ones
  pub copied_run : (xs a rest run after : List X) (from used size : ℕ) → xs ≡ a ++ rest → length a ≡ used → drop from xs ≡ run ++ after → length run ≡ size → size ≤ length rest → paste xs used (drop from xs) size ≡ a ++ (run ++ drop size rest)
  copied_run xs a rest run after from used size e la d lr h =
      let t1 : take used xs ≡ a = ap (take used) e ∙ take_at a rest used la in
      let t2 : take size (drop from xs) ≡ run = ap (take size) d ∙ take_at run after size lr in
      let g : xs ≡ (a ++ take size rest) ++ drop size rest = e ∙ ap (λ l. a ++ l) (sym (take-append-drop size rest)) ∙ sym (append_assoc a (take size rest) (drop size rest)) in
      let t3 : drop (used + size) xs ≡ drop size rest = ap (drop (used + size)) g ∙ drop_at (a ++ take size rest) (drop size rest) (used + size) (omega (arith, length-append a (take size rest), length-take-le size rest h)) in
      ap₂ (λ l m. (l ++ m) ++ drop (used + size) xs) t1 t2 ∙ ap (λ l. (a ++ run) ++ l) t3 ∙ append_assoc a run (drop size rest)

-- two runs exchanged, as a call says it
abbrev pub Exchanged : List Cell → List Cell → ℕ → ℕ → ℕ → Type 0
Exchanged xs ys from mid to = (p q r s : List Cell) → xs ≡ p ++ (q ++ (r ++ s)) → length p ≡ from → from + length q ≡ mid → mid + length r ≡ to → ys ≡ p ++ (r ++ (q ++ s))

module _ {cells : List Cell} {target : ℕ} {run old : Range ℕ} {used : ℕ} {p : List Cell} {x : Cell} {f o q rest copied after : List Cell} (s : Parts cells target run old used p x f o q rest copied after) where
  -- how many cells there are
  pub site_length : length cells ≡ used + length rest
  site_length = omega (arith, ap length s.is, length-append p (x ∷ (f ++ (o ++ (q ++ rest)))), length-append f (o ++ (q ++ rest)), length-append o (q ++ rest), length-append q rest, s.target_is, s.at_is, s.end_is, s.used_is)

  -- the node's cell is one of them
  pub site_target : target < length cells
  site_target = omega (arith, site_length, s.at_is, s.end_is, s.used_is)

  module _ (size : ℕ) (sz : size ≡ length copied) (h : size ≤ length rest) (c1 c2 c3 : List Cell) (e1 : c1 ≡ paste cells used (drop run.start cells) size) (e2 : Exchanged c1 c2 old.start used (used + size)) (e3 : Exchanged c2 c3 (old.start + size) (old.end + size) (used + size)) where
    abbrev left : List Cell
    left = drop size rest

    shape : c3 ≡ p ++ (x ∷ (f ++ (copied ++ (q ++ (o ++ left)))))
    shape =
        let P = p ++ (x ∷ f) in
        let a = P ++ (o ++ q) in
        let lP : length P ≡ old.start = omega (arith, length-append p (x ∷ f), s.target_is, s.at_is) in
        let la : length a ≡ used = omega (arith, length-append P (o ++ q), length-append o q, lP, s.end_is, s.used_is) in
        let r1 : cells ≡ a ++ rest = s.is ∙ simp append_assoc in
        let k1 : c1 ≡ P ++ ((o ++ q) ++ (copied ++ left)) = e1 ∙ copied_run cells a rest copied after run.start used size r1 la s.run_is (sym sz) h ∙ append_assoc P (o ++ q) (copied ++ left) in
        let k2 : c2 ≡ P ++ (copied ++ ((o ++ q) ++ left)) = e2 P (o ++ q) copied left k1 lP (omega (arith, length-append o q, s.end_is, s.used_is)) (omega arith) in
        let k3 : c2 ≡ (P ++ copied) ++ (o ++ (q ++ left)) = k2 ∙ simp append_assoc in
        let k4 : c3 ≡ (P ++ copied) ++ (q ++ (o ++ left)) = e3 (P ++ copied) o q left k3 (omega (arith, length-append P copied, lP)) (omega (arith, s.end_is)) (omega (arith, s.used_is)) in
        k4 ∙ simp append_assoc

    pub renewed : (cell : Cell) → IsRenewed (set c3 target cell) cell p f o q rest copied (used + size - (old.end - old.start))
    renewed cell =
        let w : set c3 target cell ≡ p ++ (cell ∷ (f ++ (copied ++ (q ++ (o ++ left))))) = ap (λ l. set l target cell) shape ∙ set_at p x _ cell target s.target_is in
        let ll : length left ≡ length rest - size = length-drop size rest in
        record {
          left = o ++ left;
          is = w;
          fits = omega arith;
          frees = omega (arith, length-append o left);
          used_is = omega (arith, ap length w, length-append o left, length-append p (cell ∷ (f ++ (copied ++ (q ++ (o ++ left))))), length-append f (copied ++ (q ++ (o ++ left))), length-append copied (q ++ (o ++ left)), length-append q (o ++ left), s.target_is, s.at_is, s.end_is, s.used_is);
        }
