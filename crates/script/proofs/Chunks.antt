-- What a test of each chunk of a script says of its records.
use Rattle.std.specs.Prelude.{Some, None, Option, IfSome, IsSomeAnd, IsTrue, MatchBool}
use Rattle.std.specs.Option.{option_map}
use Rattle.std.specs.Iterator.Runs.{Run, IsChunksExactRun, CallKeepsClosure, AllItemsGive, AnyItemGives}
use Rattle.std.specs.Slice.Iter.{chunks_exact_steps}
use Rattle.std.specs.List.{range_with_len, IsSubsliceAt}
use Rattle.std.proofs.Common.{◌≡◌, ℕ, zero, suc, ◌+◌, ◌-◌, ◌*◌, ◌%◌, ◌<◌, ◌≤◌, Bool, true, false, ◌&&◌, List, [], ◌∷◌, length, take, drop, map, sym, refl, ap, ◌∙◌, subst, ap₂, arith}
use Rattle.std.proofs.lemmas.Bool.{and_from, and_right}
use denote.Ref.{Bor}
use denote.Param.Members.{Mut, Called}
use Rattle.script.specs.declared.record.Record.{Record}
use Rattle.script.specs.Records.{record_of, fit_record}
use Rattle.script.specs.Scripts.{record_at, records, count, all_fit, fit}
use Rattle.script.proofs.ScriptLaws.{unfit, is_fit}

-- a chunk that was tested with this answer
abbrev pub Tested : Bool → Bor (List ℕ) → Type 0
Tested b x = length x.now ≡ 80 → b ≡ fit_record (record_of x.now)

module _ (f : ℕ → Record) where
  each_fit : (i n : ℕ) → ((k : ℕ) → i ≤ k → k < i + n → fit_record (f k) ≡ true) → all_fit (map f (range_with_len i n)) ≡ true
  each_fit i zero h = refl
  each_fit i (suc n) h = and_from (fit_record (f i)) _ (h i (omega arith) (omega arith)) (each_fit (i + 1) n (λ k a b. h k (omega arith) (omega arith)))

  one_unfit : (i n j k : ℕ) → j < n → k ≡ i + j → fit_record (f k) ≡ false → all_fit (map f (range_with_len i n)) ≡ false
  one_unfit i zero j k l e h = absurd (omega arith)
  one_unfit i (suc n) zero k l e h = let here : i ≡ k = omega arith in ap (λ m. fit_record (f m) && all_fit (map f (range_with_len (i + 1) n))) here ∙ ap (λ b. b && all_fit (map f (range_with_len (i + 1) n))) h
  one_unfit i (suc n) (suc j) k l e h = and_right (fit_record (f i)) _ (one_unfit (i + 1) n j k (omega arith) (omega arith) h)

if_some : {A : Type 0} {P Q : A → Type 0} (o : Option A) → ((x : A) → P x → Q x) → IfSome o P → IfSome o Q
if_some None h t = tt
if_some (Some x) h t = h x t

some_if : {A : Type 0} {P Q : A → Type 0} (o : Option A) → ((x : A) → P x → Q x) → IsSomeAnd o P → IfSome o Q
some_if None h t = absurd t
some_if (Some x) h t = h x t

item : {A : Type 0} (xs : List A) (k : ℕ) → k < length xs → A
item [] k l = absurd (omega arith)
item (x ∷ xs) k l = x

-- the chunk at the place k is the record there
found : (script : List ℕ) (k : ℕ) (b : Bool) (o : Option (Bor (List ℕ))) (y : Bor (List ℕ)) → option_map (λ z. z) o ≡ Some y →
    IfSome o (λ x. (length x.now ≡ 80) × (k * 80 + 80 ≤ length script) × IsSubsliceAt 80 script (k * 80) x.now) →
    IfSome o (Tested b) → b ≡ fit_record (record_at script k)
found script k b None y e s t = cc
found script k b (Some x) y e (size, end, (same, len_is, each)) t =
    let len : 80 ≡ 80 * k + 80 - 80 * k = omega arith in
    let at : k * 80 ≡ 80 * k = omega arith in
    t size ∙ ap (λ bs. fit_record (record_of bs)) (same ∙ ap₂ (λ n m. take n (drop m script)) len at)

module _ (script : List ℕ) (p : Run (chunks_exact_steps {A = ℕ})) (r : IsChunksExactRun p 80 script) where
  at_place : (k : ℕ) (b : Bool) → k < p.len → IfSome (p.at k) (Tested b) → b ≡ fit_record (record_at script k)
  at_place k b l t =
      let y = item p.items k (subst (λ n. k < n) p.long l) in
      found script k b (p.at k) _ (p.reads k y l) (r.2 k) t

  all_records : IsTrue p.whole → ((k : ℕ) → IfSome (p.at k) (Tested true)) → all_fit (records script) ≡ true
  unfolding records
  all_records w t =
      let len = r.1 w in
      each_fit (record_at script) 0 (count script) (λ k a l. sym (at_place k true (omega (arith, len)) (t k)))

  some_record : (k : ℕ) → k < p.len → IfSome (p.at k) (Tested false) → all_fit (records script) ≡ false
  unfolding records
  some_record k l t =
      let most = r.0 in
      one_unfit (record_at script) 0 (count script) k k (omega (arith, most)) (omega arith) (sym (at_place k false l t))

-- what a closure that tests each chunk says of the script
pub tests_script : {F : Type 0} (g : Mut F (Bor (List ℕ) × Unit {0}) Bool) (f : F) (script : List ℕ) (room n : ℕ) (rest : List ℕ) (b : Bool) (p : Run (chunks_exact_steps {A = ℕ})) →
    CallKeepsClosure g f → ((x : Bor (List ℕ)) (a : Bool) → Called g f (x, tt) a f → Tested a x) →
    n ≡ 80 → rest ≡ script → IsChunksExactRun p n rest →
    MatchBool b (IsTrue p.whole × AllItemsGive p g f true) (AnyItemGives p g f false) →
    length script % 80 ≡ 0 → count script ≤ 800 → 16 * count script ≤ room → b ≡ fit script room
tests_script g f script room n rest true p keeps says size is r given x y z =
    let run : IsChunksExactRun p 80 script = subst (λ m. IsChunksExactRun p m script) size (subst (λ xs. IsChunksExactRun p n xs) is r) in
    sym (is_fit script room x y z (all_records script p run given.0 (λ k. if_some (p.at k) (λ c h. says c true h) (given.1 keeps k))))
tests_script g f script room n rest false p keeps says size is r given x y z =
    let run : IsChunksExactRun p 80 script = subst (λ m. IsChunksExactRun p m script) size (subst (λ xs. IsChunksExactRun p n xs) is r) in
    let some = given keeps in
    sym (unfit script room (some_record script p run some.0 some.1 (some_if (p.at some.0) (λ c h. says c false h) some.2)))
