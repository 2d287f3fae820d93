-- Cells that are copied to the front of others, one after the other.
use Rattle.std.proofs.Common.{◌≡◌, ℕ, ◌+◌, ◌<◌, List, [], ◌∷◌, ◌++◌, length, get_or, take, drop, set, sym, ap, ◌∙◌, append_assoc, arith, length-take-le}
use lib.Seq.{set_at}
use Rattle.std.proofs.lemmas.List.{drop_more, take_more}

-- one more element of a front that is copied from another list
pub front_more : {X : Type 0} (xs us ys ws : List X) (i : ℕ) (z : X) → us ≡ xs → i < length xs → i < length ys → ws ≡ take i xs ++ drop i ys → set ws i (get_or us i z) ≡ take (i + 1) xs ++ drop (i + 1) ys
front_more xs us ys ws i z k a b e =
    let w : ws ≡ take i xs ++ (get_or ys i z ∷ drop (i + 1) ys) = e ∙ ap (λ l. take i xs ++ l) (drop_more ys i z b) in
    ap (λ l. set ws i (get_or l i z)) k ∙ ap (λ l. set l i (get_or xs i z)) w ∙ set_at (take i xs) (get_or ys i z) (drop (i + 1) ys) (get_or xs i z) i (length-take-le i xs (omega arith))
    ∙ sym (ap (λ l. l ++ drop (i + 1) ys) (take_more xs i z a) ∙ append_assoc (take i xs) (get_or xs i z ∷ []) (drop (i + 1) ys))
