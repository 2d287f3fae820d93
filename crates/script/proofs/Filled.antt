-- What a row is that a closure filled, which calls leave as it was.
use Rattle.std.proofs.Common.{◌≡◌, ℕ, zero, suc, ◌+◌, ◌<◌, List, sym, ap, ◌∙◌, subst, arith, slice_index_or}
use denote.Param.Members.{Mut, Called}
use Rattle.std.specs.Array.{IsFromFnResultFrom}

pub filled : {F : Type 0} (g : Mut F (ℕ × Unit {0}) ℕ) (f : F) (h : ℕ → ℕ) (ys : List ℕ) (i n : ℕ) →
    ((j y : ℕ) (q : F) → Called g f (j, tt) y q → (q ≡ f) × (y ≡ h j)) → IsFromFnResultFrom g f ys i n →
    (j k d : ℕ) → k < n → j ≡ i + k → slice_index_or ys j d ≡ h j
filled g f h ys i zero keeps t j k d l e = absurd (omega arith)
filled g f h ys i (suc n) keeps (q, y, at, called, rest) j zero d l e =
    let here : j ≡ i = omega arith in
    ap (λ m. slice_index_or ys m d) here ∙ at.1 d ∙ (keeps i y q called).1 ∙ sym (ap h here)
filled g f h ys i (suc n) keeps (q, y, at, called, rest) j (suc k) d l e =
    filled g f h ys (i + 1) n keeps (subst (λ z. IsFromFnResultFrom g z ys (i + 1) n) (keeps i y q called).0 rest) j k d (omega arith) (omega arith)
