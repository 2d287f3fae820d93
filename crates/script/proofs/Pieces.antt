-- A script as the chunks that are its records.
use Rattle.std.specs.Prelude.{Some, None, Option}
use Rattle.std.specs.Iterator.{Yields}
use Rattle.std.specs.Iterator.Adapters.{enumerate_source, enumerate_count, enumerate_steps}
use Rattle.std.specs.Slice.Iter.{chunks_exact_steps, chunks_exact_rest, chunks_exact_size}
use Rattle.std.specs.List.{between, range_with_len, enumerate_from}
use Rattle.std.proofs.Common.{◌≡◌, ℕ, zero, suc, ◌+◌, ◌-◌, ◌*◌, ◌/◌, ◌<◌, true, List, [], ◌∷◌, ◌++◌, length, get_or, take, drop, map, sym, refl, ap, ◌∙◌, subst, ap₂, arith, length-append, length-drop}
use Rattle.std.proofs.lemmas.Bool.{and_parts}
use Rattle.std.proofs.lemmas.List.{take_at, drop_at, drop-drop, length-take-le}
use Rattle.std.proofs.lemmas.List.FromFn.{length-map-range_with_len, get_or-map-range_with_len, length-enumerate_from, get_or-enumerate_from}
use Rattle.std.proofs.lemmas.Iterator.{YieldsList}
use Rattle.std.proofs.lemmas.Iterator.Consumers.{YieldsList-turn, YieldsList-end, YieldsList-from_enumerate}
use Rattle.std.proofs.lemmas.Iterator.Splits.{YieldsList-from_shown_while}
use denote.Ref.{Bor}
use Rattle.script.specs.declared.record.Record.{Record}
use Rattle.script.specs.Records.{fit_record}
use Rattle.script.specs.Scripts.{record_at, records, count, all_fit}
use Rattle.script.proofs.ScriptLaws.{length-records, getD_records}

-- the records of a script as bytes
abbrev pub pieces : List ℕ → List (List ℕ)
pieces script = map (λ i. between (80 * i) (80 * i + 80) script) (range_with_len 0 (length script / 80))

shift : (f g : ℕ → List ℕ) → ((k : ℕ) → f (k + 1) ≡ g k) → (a n : ℕ) → map f (range_with_len (a + 1) n) ≡ map g (range_with_len a n)
shift f g h a zero = refl
shift f g h a (suc n) = ap₂ (λ x xs. x ∷ xs) (h a) (shift f g h (a + 1) n)

piece_behind : (x r : List ℕ) → length x ≡ 80 → (k : ℕ) → between (80 * (k + 1)) (80 * (k + 1) + 80) (x ++ r) ≡ between (80 * k) (80 * k + 80) r
piece_behind x r h k =
    let len : 80 * (k + 1) + 80 - 80 * (k + 1) ≡ 80 * k + 80 - 80 * k = omega arith in
    let at : 80 * (k + 1) ≡ 80 + 80 * k = omega arith in
    ap₂ (λ n m. take n (drop m (x ++ r))) len at ∙ ap (take (80 * k + 80 - 80 * k)) (sym (drop-drop (80 * k) 80 (x ++ r)) ∙ ap (drop (80 * k)) (drop_at x r 80 h))

pieces_cons : (x r : List ℕ) → length x ≡ 80 → pieces (x ++ r) ≡ x ∷ pieces r
pieces_cons x r h =
    let e = length-append x r in
    let more : length (x ++ r) / 80 ≡ suc (length r / 80) = omega arith in
    ap (λ n. map (λ i. between (80 * i) (80 * i + 80) (x ++ r)) (range_with_len 0 n)) more
    ∙ ap₂ (λ y ys. y ∷ ys) (take_at x r 80 h) (shift _ _ (piece_behind x r h) 0 (length r / 80))

-- the chunks of a script are its records
pub YieldsList-from_script : {s : _} (script : List ℕ) → chunks_exact_rest s ≡ script → chunks_exact_size s ≡ 80 → YieldsList chunks_exact_steps (λ x. x.now) s (pieces script)
YieldsList-from_script {s} script is size =
    subst (λ xs. YieldsList chunks_exact_steps (λ x. x.now) s (pieces xs)) is
    (YieldsList-from_shown_while chunks_exact_steps (λ x. x.now) (λ t. pieces (chunks_exact_rest t)) (λ t. chunks_exact_size t ≡ 80)
    (λ t u e h. let l = h.1.0 in length-map-range_with_len (λ i. between (80 * i) (80 * i + 80) (chunks_exact_rest t)) 0 (length (chunks_exact_rest t) / 80) ∙ omega (arith, l))
    (λ t x u e h. (h.0 ∙ e, ap pieces h.1.0 ∙ pieces_cons x.now (chunks_exact_rest u) (h.1.1 ∙ e)))
    s size)

-- the item that comes after n of them
pub item_is : (script : List ℕ) (n i : ℕ) (x : List ℕ) → (n < length (enumerate_from 0 (pieces script))) × ((i, x) ≡ get_or (enumerate_from 0 (pieces script)) n (i, x)) →
    (n < count script) × (i ≡ n) × (x ≡ between (80 * n) (80 * n + 80) script)
item_is script n i x (l, e) =
    let f : ℕ → List ℕ = λ j. between (80 * j) (80 * j + 80) script in
    let long = length-enumerate_from 0 (pieces script) in
    let many = length-map-range_with_len f 0 (count script) in
    let lt : n < count script = omega arith in
    let inside : n < length (pieces script) = omega arith in
    let g = get_or-enumerate_from 0 (pieces script) n (i, x) inside in
    let j : i ≡ 0 + n = ap (λ p. p.0) (e ∙ g) in
    (lt, omega arith, ap (λ p. p.1) (e ∙ g) ∙ get_or-map-range_with_len f 0 (count script) n n x lt (omega arith))

pub length_piece : (script : List ℕ) (n : ℕ) → n < count script → length (between (80 * n) (80 * n + 80) script) ≡ 80
length_piece script n l =
    let d = length-drop (80 * n) script in
    length-take-le (80 * n + 80 - 80 * n) (drop (80 * n) script) (omega arith) ∙ omega arith

module _ {s e : _} {k : _} (script : List ℕ) (same : s ≡ e) (source : enumerate_source e ≡ k) (none : enumerate_count e ≡ 0)
    (is : chunks_exact_rest k ≡ script) (size : chunks_exact_size k ≡ 80) where
  road : YieldsList (enumerate_steps chunks_exact_steps) (λ p. (p.0, p.1.now)) s (enumerate_from 0 (pieces script))
  road =
      YieldsList-from_enumerate
      (YieldsList-from_script script (ap (λ z. chunks_exact_rest (enumerate_source z)) same ∙ ap chunks_exact_rest source ∙ is) (ap (λ z. chunks_exact_size (enumerate_source z)) same ∙ ap chunks_exact_size source ∙ size))
      (ap enumerate_count same ∙ none)

  -- where the next of the numbered chunks comes, and where none is left
  pub turn : (t u : _) (xs : List (ℕ × Bor (List ℕ))) → Yields (enumerate_steps chunks_exact_steps) s xs t → (r : Option (ℕ × Bor (List ℕ))) (i : ℕ) (x : Bor (List ℕ)) →
      r ≡ Some (i, x) → enumerate_steps chunks_exact_steps t r u → (length xs < count script) × (i ≡ length xs) × (x.now ≡ between (80 * length xs) (80 * length xs + 80) script)
  turn t u xs y r i x h next = item_is script (length xs) i x.now (YieldsList-turn road xs t y r u (i, x) h next)

  pub over : (t u : _) (xs : List (ℕ × Bor (List ℕ))) → Yields (enumerate_steps chunks_exact_steps) s xs t → (r : Option (ℕ × Bor (List ℕ))) →
      r ≡ None → enumerate_steps chunks_exact_steps t r u → length xs ≡ count script
  over t u xs y r h next =
      (YieldsList-end road xs t y r u h next).1 ∙ length-enumerate_from 0 (pieces script)
      ∙ length-map-range_with_len (λ i. between (80 * i) (80 * i + 80) script) 0 (count script)
