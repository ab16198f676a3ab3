-- Request 2026-07: the small receiver's gate. In which order it refuses, and when it says yes, is `GateInOrder` (pocket/specs/Order), in words of the grammar and the tree.
use Rattle.std.specs.Prelude.{◌≡◌, List, ℕ, ◌<◌, length, Result}
use Rattle.pocket.specs.declared.DataType.{DataType}
use Rattle.pocket.specs.Gate.{gate_of}
use Rattle.demands.specs.One.{OfObject, Ends}
use Rattle.format.specs.declared.Refusal.{Refusal}
use Rattle.format.specs.Answers.{check_outcome}

-- 1 to 13 for what stands in the object, or 19 at an octet of the object, with field 0
pub data GateRefuses (object : List ℕ) : ℕ → ℕ → ℕ → Type 0 where
  for_object : (number place field : ℕ) → OfObject object number place field → GateRefuses object number place field
  for_offender : (place : ℕ) → place < length object → GateRefuses object 19 place 0

-- gate gives these; nothing is lent to it
abbrev pub GateEnds : Type 0
GateEnds =
    (d : DataType) (object : List ℕ) (answer : Result (Unit {0}) Refusal) → answer ≡ gate_of d object
    → Ends (GateRefuses object) (Unit {0}) (check_outcome answer)
