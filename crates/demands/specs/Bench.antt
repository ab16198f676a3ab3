-- The bench cases of document 01 marked P, its listing and the slips seen in other encoders, as what the definitions say and as what the calls answer.
use Rattle.std.specs.Prelude.{◌≡◌, true, List, [], ◌∷◌, map, ℕ, ◌≤◌, take, Result, Ok, Err}
use Rattle.octets.specs.declared.counts.Octets.{Octets as OctetCount}
use Rattle.format.specs.declared.Record.{Record}
use Rattle.format.specs.declared.Refusal.{Refusal}
use Rattle.format.specs.Judge.{judge}
use Rattle.format.specs.Headers.{headers_of}
use Rattle.format.specs.Writer.{tabled}
use Rattle.format.specs.Calls.{Lists, row, places, ReadClaim}
use Rattle.format.specs.Bench.{outcome, cases, listed, slips}
use Rattle.format.specs.Bench.Outcome.{refuses, normally}
use Rattle.format.specs.State.{Memory}
use Rattle.format.specs.declared.Counts.{Counts}
use Rattle.state.specs.Taking.{NormaliseClaim}

-- P1 to P14, one table under one claim: for each object the refusal, or how many records and which normal form; for the octets of a time, that they are accepted
-- as one, which time they mean and its normal octets (format/specs/Bench has the table, as document 01 has it)
abbrev pub BenchTable : Type 0
BenchTable = map (λ c. outcome c.0 c.1) cases ≡ map (λ c. c.2) cases

-- the slips: a name judged before its tokens are replaced, a child held against the object's end, a late 12, attributes in falling order, and names counted in
-- octets
abbrev pub Slips : Type 0
Slips = map (λ c. outcome true c.0) slips ≡ map (λ c. c.1) slips

-- the object whose listing document 01 has whole, and that listing's records
abbrev pub listed_object : List ℕ
listed_object = 0x03 ∷ 0x04 ∷ 0x06 ∷ 0x02 ∷ 0x65 ∷ 0x6E ∷ []

abbrev pub listing : List Record
listing =
    record { tag = 0x03; kind = 0; depth = 1; parent = 0; start = 2; size = 4 } ∷ record { tag = 0x06; kind = 0; depth = 2; parent = 0; start = 4; size = 2 } ∷ []

abbrev pub Listing : Type 0
Listing = listed (judge listed_object) ≡ listing

-- read answers what the table says of an object: its refusal, or its count of records, beside that of its headers, where there are places for them
pub record TableRead (object : List ℕ) (places : ℕ) (answer : Result Counts Refusal) : Type 0 where
  pub refusing : (r : Refusal) → outcome true object ≡ refuses r → answer ≡ Err r
  pub counting : (n : ℕ) (o : List ℕ) → outcome true object ≡ normally n o → n ≤ places → answer ≡ Ok (record { records = n; items = headers_of object })

abbrev pub BenchRead : Type 0
BenchRead =
    (object : List ℕ) (before after : Lists) (answer : Result Counts Refusal) → ReadClaim object before after answer → TableRead object (places before) answer

-- the octets of normalise are those that the table says
abbrev pub BenchNormalise : Type 0
BenchNormalise =
    (object : List ℕ) (memory memory' : Memory) (room room' : List ℕ) (n : OctetCount) → NormaliseClaim object memory memory' room room' (Ok n)
    → (k : ℕ) (o : List ℕ) → outcome true object ≡ normally k o → take n.0 room' ≡ o

-- read with two places or more puts the listing's records into the lists
abbrev pub ListingRead : Type 0
ListingRead =
    (before after : Lists) (answer : Result Counts Refusal) → ReadClaim listed_object before after answer → 2 ≤ places before
    → (answer ≡ Ok (record { records = 2; items = 2 })) × (tabled (row after) 2 0 ≡ listing)
