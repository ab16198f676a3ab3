-- Request 2026-11: how the check and the packer end, and when each answer comes, both ways.
use Rattle.std.specs.Prelude.{◌≡◌, ◌↔◌, List, ℕ, ◌≤◌, ◌<◌, length, Result, Ok, Err}
use Rattle.std.proofs.Math.Option.{some}
use Rattle.octets.specs.Numbers.{Octets}
use Rattle.octets.specs.declared.counts.Octets.{Octets as OctetCount}
use Rattle.octets.specs.Counts.{size_of}
use Rattle.format.specs.declared.Refusal.{Refusal}
use Rattle.format.specs.Answers.{refusal, check_outcome}
use Rattle.format.specs.Meaning.{normal}
use Rattle.fold.specs.Packed.{packed}
use Rattle.fold.specs.Calls.{check_answer, PackClaim}
use Rattle.demands.specs.One.{Ends}
use Rattle.demands.specs.Packing.{Passable}

-- "22, at zero, the check says no": that is, where the proposal isn't accepted, or hasn't that very normal form, or is longer, or what it is held to is no normal form
pub data CheckRefuses (form proposed : List ℕ) : ℕ → ℕ → ℕ → Type 0 where
  says_no : (Passable form proposed → ⊥) → CheckRefuses form proposed 22 0 0

-- the check passes, or gives 22 at 0; nothing is lent to it
abbrev pub CheckEnds : Type 0
CheckEnds =
    (form proposed : List ℕ) (answer : Result (Unit {0}) Refusal) → answer ≡ check_answer form proposed
    → Ends (CheckRefuses form proposed) (Unit {0}) (check_outcome answer)

-- it passes exactly where it should; in every other case it gives 22 at 0, and it never gives another refusal
pub record CheckOrder (form proposed : List ℕ) (answer : Result (Unit {0}) Refusal) : Type 0 where
  pub passes : (answer ≡ Ok tt) ↔ Passable form proposed
  pub fails : (r : Refusal) → (answer ≡ Err r) ↔ ((r ≡ refusal 22 0) × (Passable form proposed → ⊥))

abbrev pub CheckInOrder : Type 0
CheckInOrder = (form proposed : List ℕ) (answer : Result (Unit {0}) Refusal) → answer ≡ check_answer form proposed → CheckOrder form proposed answer

-- the packer: 22 exactly where it is given no normal form; else 15 exactly where the packed object is above the room; else the octets of the packed object; and no other
-- refusal
pub record PackedOrder (object room : List ℕ) (answer : Result OctetCount Refusal) : Type 0 where
  pub twenty_two : (answer ≡ Err (refusal 22 0)) ↔ (normal object ≡ some object → ⊥)
  pub fifteen : (answer ≡ Err (refusal 15 0)) ↔ ((p : List ℕ) × (packed object ≡ some p) × (length room < length p))
  pub octets : (k : OctetCount) → (answer ≡ Ok k) ↔ ((p : List ℕ) × (packed object ≡ some p) × (k ≡ size_of p) × (length p ≤ length room))
  pub given : (normal object ≡ some object) ↔ ((p : List ℕ) × (packed object ≡ some p))

abbrev pub PackInOrder : Type 0
PackInOrder =
    (object room room' : List ℕ) (answer : Result OctetCount Refusal) → Octets object → PackClaim object room room' answer → PackedOrder object room answer
