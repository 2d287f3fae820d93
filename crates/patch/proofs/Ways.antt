-- The positions of the open nodes, as they are written to the front of a row.
use Rattle.std.proofs.Common.{◌≡◌, ℕ, false, true, ◌+◌, ◌<◌, List, [], ◌∷◌, ◌++◌, map, reverse, length, get_or, take, drop, set, sym, refl, ap, ◌∙◌, ap₂, append_assoc, arith, length-append, take_at, drop_at}
use mathlib.Core.List.{reverse-cons, reverse-append, reverse-reverse}
use lib.Seq.{set_at}
use Rattle.std.proofs.lemmas.List.{map-append, map_push, take_more, drop_more, length-map, length-take-le}
use Rattle.patch.specs.declared.frames.Frame.{Frame}
use Rattle.patch.specs.Walk.{way}

abbrev pub step_at : Frame → ℕ
step_at fr = fr.index

-- the way, from the first frame pushed on
way_of : (frames : List Frame) → way frames ≡ map step_at (reverse frames)
way_of [] = refl
way_of (fr ∷ frs) = ap (λ (x : List ℕ). x ++ (step_at fr ∷ [])) (way_of frs) ∙ sym (ap (map step_at) (reverse-cons fr frs) ∙ map-append step_at (reverse frs) (fr ∷ []))

pub way_is : (items : List Frame) → way (reverse items) ≡ map step_at items
way_is items = way_of (reverse items) ∙ ap (map step_at) (reverse-reverse items)

-- a stack that one more was pushed on, the innermost first
pub pushed : (xs ys : List Frame) (x : Frame) → ys ≡ xs ++ x ∷ [] → reverse ys ≡ x ∷ reverse xs
pushed xs ys x e = ap reverse e ∙ reverse-append xs (x ∷ [])

-- and one that holds none
pub emptied : (items : List Frame) → (0 < length items → false ≡ true) → reverse items ≡ []
emptied [] n = refl
emptied (fr ∷ frs) n = let e = n (omega arith) in absurd (let z : ◌≡◌ {A = ℕ} 0 1 = cc in omega arith)

-- one more position is written
pub way_more : (F items : List Frame) → F ≡ items → (row old : List ℕ) (i : ℕ) (d : Frame) → old ≡ map step_at (take i items) ++ drop i row → i < length F → i < length row
    → set old i (get_or F i d).index ≡ map step_at (take (i + 1) items) ++ drop (i + 1) row
way_more F items same row old i d e h k =
    let n : i < length items = omega (arith, ap length same) in
    let fr = get_or items i d in
    ap₂ (λ (x : List ℕ) (y : Frame). set x i y.index) (e ∙ ap (λ (x : List ℕ). map step_at (take i items) ++ x) (drop_more row i 0 k)) (ap (λ (x : List Frame). get_or x i d) same)
    ∙ set_at (map step_at (take i items)) (get_or row i 0) (drop (i + 1) row) fr.index i (length-map (take i items) step_at ∙ length-take-le i items (omega arith))
    ∙ sym (append_assoc (map step_at (take i items)) (step_at fr ∷ []) (drop (i + 1) row))
    ∙ ap (λ (x : List ℕ). x ++ drop (i + 1) row) (sym (ap (map step_at) (take_more items i d n) ∙ map_push step_at (take i items) fr))

-- the front of a row that the way was written to, and what is behind it
pub row_front : (w old row new : List ℕ) (r : ℕ) → old ≡ row → length w ≡ r → new ≡ w ++ drop r old → take r new ≡ w
row_front w old row new r o l e = ap (take r) e ∙ take_at w (drop r old) r l

pub row_back : (w old row new : List ℕ) (r : ℕ) → old ≡ row → length w ≡ r → new ≡ w ++ drop r old → drop r new ≡ drop r row
row_back w old row new r o l e = ap (drop r) e ∙ drop_at w (drop r old) r l ∙ ap (drop r) o

pub way_length : (frames : List Frame) → length (way frames) ≡ length frames
way_length [] = refl
way_length (fr ∷ frs) = omega (arith, length-append (way frs) ((fr.index) ∷ []), way_length frs)
