-- The bytes of names: texts filled up with zeros, and the texts that come back out of them.
use Rattle.std.proofs.Common.{◌≡◌, ℕ, zero, suc, ◌-◌, ◌<◌, ◌≤◌, true, false, ◌&&◌, List, [], ◌∷◌, ◌++◌, length, drop, replicate, Some, sym, refl, ap, ◌∙◌, subst, unwrap_or, arith, length-append}
use Rattle.std.proofs.lemmas.List.{drop-replicate, length-replicate}
use Rattle.std.proofs.lemmas.Grind.{common_steps}
use Rattle.std.proofs.lemmas.Bool.{and_parts, leb-true, le-leb, false≢true}
use Rattle.std.specs.Prelude.{position, ◌==◌, nat_le}
use Rattle.names.specs.Names.{printable, good_name, named, before_zero, padded, tidy_name, HoldsText}

-- a row of zeros with a text written to its front
pub written : (xs : List ℕ) → xs ++ drop (length xs) (replicate 32 0) ≡ padded xs
written xs = ap (λ zs. xs ++ zs) (drop-replicate (length xs) 32 0)

-- printable bytes come back from before the zeros
printed_back : (xs : List ℕ) (n : ℕ) → printable xs ≡ true → before_zero (xs ++ replicate n 0) ≡ xs
printed_back [] zero e = refl
printed_back [] (suc n) e = refl
printed_back (x ∷ xs) n e =
    let p = and_parts (nat_le 33 x && nat_le x 126) (printable xs) e in
    let a = leb-true 33 x (and_parts (nat_le 33 x) (nat_le x 126) p.0).0 in
    let t = printed_back xs n p.1 in
    grind (arith, common_steps, t)

-- the first zero, or the end, is behind the text
first_zero : (bs : List ℕ) → unwrap_or (position (λ b. b == 0) bs) (length bs) ≡ length (before_zero bs)
first_zero [] = refl
first_zero (b ∷ bs) = grind (arith, common_steps, first_zero bs)

pub text_ends : (bs : List ℕ) (n : ℕ) → length bs ≡ n → unwrap_or (position (λ b. b == 0) bs) n ≡ length (before_zero bs)
text_ends bs n e = subst (λ k. unwrap_or (position (λ b. b == 0) bs) k ≡ length (before_zero bs)) e (first_zero bs)

-- a list of another length than 0 has an element
some : (xs : List ℕ) → false ≡ length xs == 0 → 0 < length xs
some [] e = absurd (false≢true e)
some (x ∷ xs) e = omega arith

-- good names are tidy
pub good_tidy : (n : List ℕ) → good_name n ≡ true → tidy_name n ≡ true
good_tidy [] e = refl
good_tidy (x ∷ xs) e = e

-- a row of zeros with a name written to its front holds the name
pub record Filled (xs bs : List ℕ) : Type 0 where
  pub holds : HoldsText bs
  pub named : Some (before_zero bs) ≡ named xs

pub filled : (xs ys : List ℕ) → ys ≡ xs → false ≡ length xs == 0 → length xs ≤ 32 → printable xs ≡ true → Filled xs (ys ++ drop (length xs) (replicate 32 0))
filled xs ys e z b p =
    let a : 0 < length xs = some xs z in
    let w : ys ++ drop (length xs) (replicate 32 0) ≡ padded xs = ap (λ zs. zs ++ drop (length xs) (replicate 32 0)) e ∙ written xs in
    let back : before_zero (ys ++ drop (length xs) (replicate 32 0)) ≡ xs = ap before_zero w ∙ printed_back xs (32 - length xs) p in
    let g : good_name xs ≡ true = rw (le-leb 1 (length xs) a, le-leb (length xs) 32 b, p) refl in
    record {
      holds = (
        w ∙ ap padded (sym back),
        omega (arith, ap length w, length-append xs (replicate (32 - length xs) 0), length-replicate {A = ℕ} (32 - length xs) 0),
        ap tidy_name back ∙ good_tidy xs g,
      );
      named = ap Some back ∙ sym (rw (le-leb 1 (length xs) a, le-leb (length xs) 32 b, p));
    }
