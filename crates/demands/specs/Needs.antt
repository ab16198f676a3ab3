-- Request 2026-09: what is to be lent to normalise an object. `needs_of` tells it with nothing lent.
use Rattle.std.specs.Prelude.{◌≡◌, ◌↔◌, List, ℕ, ◌≤◌, Some, None, Ok}
use Rattle.octets.specs.declared.counts.Octets.{Octets as OctetCount}
use Rattle.format.specs.Judge.{judge}
use Rattle.format.specs.Calls.{Lent, normal_answer}
use Rattle.survey.specs.Survey.{needed_of, records_sizes}
use Rattle.survey.specs.Makers.{store_octets}

-- an object that needs so much is normalised exactly where so much is lent, to as many octets as it was told to need of a room
abbrev pub NeedsSuffice : Type 0
NeedsSuffice =
    (object : List ℕ) (n : ℕ) (store octets : OctetCount) → Ok (records_sizes n (Some (store_octets store octets))) ≡ needed_of (judge object) → (lent : Lent)
    → (normal_answer lent (judge object) ≡ Ok octets) ↔ ((n ≤ lent.records) × (store.0 ≤ lent.store.0) × (octets.0 ≤ lent.room.0))

-- one whose normal form is too long is normalised in no memory
abbrev pub OverNever : Type 0
OverNever =
    (object : List ℕ) (n : ℕ) → Ok (records_sizes n None) ≡ needed_of (judge object) → (lent : Lent) (octets : OctetCount)
    → normal_answer lent (judge object) ≡ Ok octets → ⊥
