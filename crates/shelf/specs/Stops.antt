-- What the calls that lay a patch answer.
use Rattle.std.specs.Prelude.{ℕ, ◌<◌, List, Some, None, Ok, Err, Result}
use Rattle.trees.specs.declared.codes.Refusal.{Refusal}
use Rattle.trees.specs.declared.codes.Refusal.TheVariants as refuse
use Rattle.trees.specs.Codes.{kind_number}
use Rattle.trees.specs.Calls.{nothing, Answer}
use Rattle.patch.specs.declared.errors.ApplyError.{ApplyError}
use Rattle.patch.specs.declared.errors.ApplyError.TheVariants.{MismatchedKinds, MismatchedTypes, Room}
use Rattle.patch.specs.declared.walk.Fault as faults
use Rattle.shelf.specs.declared.patching.Stop.{Stop}
use Rattle.shelf.specs.declared.patching.Stop.TheVariants.{Refused, Fault}

-- the refusal and the two numbers of a patch's fault
abbrev pub fault_numbers : ApplyError → Refusal × ℕ × ℕ
fault_numbers (MismatchedKinds e) = (refuse.MismatchedKinds, kind_number e.from, kind_number e.to)
fault_numbers (MismatchedTypes from to) = (refuse.MismatchedTypes, from, to)
fault_numbers (Room from to) = (refuse.Room, from, to)

-- the answer of a walk that stopped
abbrev fault_answer : Refusal × ℕ × ℕ → ℕ → List ℕ → Answer
fault_answer (e, from, to) n row = record { refusal = Some e; from = from; to = to; steps = n; value = nothing; row = row }

-- what a call that lays a patch answers: its result, and the path row as it is afterwards
abbrev pub stopping : Result (Unit {0}) Stop → List ℕ → Answer
stopping (Ok x) row = record { refusal = None; from = 0; to = 0; steps = 0; value = nothing; row = row }
stopping (Err (Refused e)) row = record { refusal = Some e; from = 0; to = 0; steps = 0; value = nothing; row = row }
stopping (Err (Fault x)) row = fault_answer (fault_numbers x.error) x.depth row

-- the cells that a patch needed and found free are told in two bytes each; the types of the other numbers say so
abbrev pub CellsFit : ApplyError → Type 0
CellsFit (MismatchedKinds e) = Unit {0}
CellsFit (MismatchedTypes from to) = Unit {0}
CellsFit (Room from to) = (from < 65536) × (to < 65536)

-- so they are, and the length of the path in one byte
pub record FaultFits (x : faults.Fault) : Type 0 where
  pub cells : CellsFit x.error
  pub steps : x.depth < 256

-- a fault, if the call stopped at one, fits an answer
abbrev pub IsShort : Result (Unit {0}) Stop → Type 0
IsShort (Ok x) = Unit {0}
IsShort (Err (Refused e)) = Unit {0}
IsShort (Err (Fault x)) = FaultFits x
