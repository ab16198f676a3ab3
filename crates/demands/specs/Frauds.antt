-- The frauds of document 01, What the auditor will try: what they would answer, met with a call's claim, is absurd. The general statements that shut them out are
-- those of One, Two and Three; these have inputs of the bench, or any input, and need no premise on octets but where one is named.
use Rattle.std.specs.Prelude.{◌≡◌, List, [], ◌∷◌, ℕ, ◌≤◌, ◌<◌, take, get_or, Ok, Err}
use Rattle.octets.specs.declared.counts.Octets.{Octets as OctetCount}
use Rattle.octets.specs.Counts.{as_octets}
use Rattle.octets.specs.Numbers.{Octets}
use Rattle.format.specs.declared.Record.{Record}
use Rattle.format.specs.declared.Refusal.{Refusal}
use Rattle.format.specs.Tree.{Items, count, records_of}
use Rattle.format.specs.Calls.{Lists, row, places, ReadClaim}
use Rattle.format.specs.State.{Memory}
use Rattle.state.specs.Taking.{WriteClaim, NormaliseClaim}
use Rattle.grammar.specs.Grammar.{Accepts}

-- P9 and P10
abbrev pub p9 : List ℕ
p9 = 0x03 ∷ 0x00 ∷ []

abbrev pub p10 : List ℕ
p10 = 0x03 ∷ 0xFE ∷ 0x00 ∷ 0x04 ∷ 0x06 ∷ 0x02 ∷ 0x65 ∷ 0x6E ∷ []

-- a reader that refuses everything: P9 isn't refused by a reader that has a place
abbrev pub RefusesAll : Type 0
RefusesAll = (before after : Lists) (r : Refusal) → 1 ≤ places before → ReadClaim p9 before after (Err r) → ⊥

-- a normaliser with one fixed output: P9 and P10 have two
abbrev pub OneOutput : Type 0
OneOutput =
    (memory_a memory_a' : Memory) (room_a room_a' : List ℕ) (n : OctetCount) → NormaliseClaim p9 memory_a memory_a' room_a room_a' (Ok n)
    → (memory_b memory_b' : Memory) (room_b room_b' : List ℕ) (m : OctetCount) → NormaliseClaim p10 memory_b memory_b' room_b room_b' (Ok m)
    → take n.0 room_a' ≡ take m.0 room_b' → ⊥

-- one that hands its input back: P10 has another normal form
abbrev pub InputBack : Type 0
InputBack =
    (memory memory' : Memory) (room room' : List ℕ) (n : OctetCount) → NormaliseClaim p10 memory memory' room room' (Ok n) → take n.0 room' ≡ p10 → ⊥

-- a writer that writes nothing
abbrev pub WritesNothing : Type 0
WritesNothing =
    (n : ℕ) (memory : Memory) (bodies' before after : List ℕ) → Octets memory.store → WriteClaim n memory bodies' before after (Ok (as_octets 0)) → ⊥

-- a reader that reads the first child and invents the rest: a record that isn't the one of its number in the object's tree
abbrev pub InventsRecord : Type 0
InventsRecord =
    (object : List ℕ) → Octets object → (before after : Lists) (n items : ℕ) → ReadClaim object before after (Ok (record { records = n; items = items }))
    → (t : Items) → Accepts object t → (i : ℕ) (d : Record) → i < n → (row after i ≡ get_or (records_of t) i d → ⊥) → ⊥

-- an invented record count: one that isn't the number of known items but the token table
abbrev pub InventsCount : Type 0
InventsCount =
    (object : List ℕ) → Octets object → (before after : Lists) (n items : ℕ) → ReadClaim object before after (Ok (record { records = n; items = items }))
    → (t : Items) → Accepts object t → (n ≡ count t → ⊥) → ⊥
