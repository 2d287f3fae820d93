-- What a call comes to.
use Rattle.std.specs.Prelude.{Ok, Err, Result, MatchResult, IsOkAnd, IsErrAnd}
use Rattle.std.proofs.Common.{◌≡◌, ℕ, List, [], sym, ap, ◌∙◌}
use Rattle.rules.specs.Meaning.{Meaning}
use Rattle.trees.specs.declared.codes.Refusal.{Refusal}
use Rattle.trees.specs.State.{State}
use Rattle.trees.specs.Calls as calls
use Rattle.trees.specs.Play.{step}
use Rattle.script.specs.declared.answer.Value.{Value}
use Rattle.script.specs.declared.answer.Stopped.{Stopped}
use Rattle.script.specs.declared.answer.Fields.{Fields}
use Rattle.script.specs.Answers.{fields_of, shown, bare, reply_of}
use Rattle.shelf.specs.declared.patching.Stop.{Stop}
use Rattle.shelf.specs.Answers.{told}
use Rattle.shelf.specs.Stops.{stopping, IsShort}
use Rattle.shelf.specs.Does.{DoesUnder}
use Rattle.runs.specs.Replies.{Replies}

-- a call is replied to as the theory says where one that is the same does as it says
pub acted : {r : Fields} {a : calls.Answer} {s t : State} {m : Meaning} {c d : calls.Call} → c ≡ d → DoesUnder m d s t a → r ≡ reply_of a → Replies m c s t r
acted {s} {m} e x z = record { state = x.state ∙ sym (ap (λ k. (step m s k).state) e); replied = z ∙ ap reply_of (x.answers ∙ sym (ap (λ k. (step m s k).answer) e)) }

-- the reply to a call that answers with X, which say tells
pub told_reply : {X : Type 0} (say : X → calls.Value) (res : Result X Refusal) (r : Result Value Stopped) →
    MatchResult res (λ x. IsOkAnd r (λ v. v ≡ shown (say x))) (λ e. IsErrAnd r (λ s. s ≡ bare e)) → fields_of r ≡ reply_of (told say [] res)
told_reply say (Ok x) (Ok v) h = ap (λ w. fields_of (Ok w)) h
told_reply say (Ok x) (Err s) h = absurd h
told_reply say (Err e) (Ok v) h = absurd h
told_reply say (Err e) (Err s) h = ap (λ t. fields_of (Err t)) h

-- the reply to a call that lays a patch
pub stopped_reply : (res : Result (Unit {0}) Stop) (q : Result (Unit {0}) Stopped) (r : Result Value Stopped) (row : List ℕ) → IsShort res →
    MatchResult res (λ x. q ≡ Ok x) (λ e. IsErrAnd q (λ s. (w : List ℕ) → IsShort (Err e) → fields_of (Err s) ≡ reply_of (stopping (Err e) w))) →
    MatchResult q (λ x. IsOkAnd r (λ v. v ≡ shown calls.nothing)) (λ e. IsErrAnd r (λ s. s ≡ e)) → fields_of r ≡ reply_of (stopping res row)
stopped_reply (Ok x) (Ok y) (Ok v) row z g h = ap (λ w. fields_of (Ok w)) h
stopped_reply (Ok x) (Ok y) (Err s) row z g h = absurd h
stopped_reply (Ok x) (Err y) r row z g h = cc
stopped_reply (Err e) (Ok y) r row z g h = absurd g
stopped_reply (Err e) (Err y) (Ok v) row z g h = absurd h
stopped_reply (Err e) (Err y) (Err s) row z g h = ap (λ t. fields_of (Err t)) h ∙ g row z
