-- The cases that change requests name, as what the calls answer.
use Rattle.std.specs.Prelude.{◌≡◌, List, [], ◌∷◌, ℕ, ◌+◌, ◌*◌, ◌≤◌, length, take, Result, Ok, Err, Bool, true, false}
use Rattle.octets.specs.Numbers.{Octets}
use Rattle.octets.specs.declared.counts.Octets.{Octets as OctetCount}
use Rattle.format.specs.Answers.{refusal, wrong_value}
use Rattle.format.specs.Tree.{Items, without_defaults}
use Rattle.format.specs.Judge.{judge}
use Rattle.format.specs.Judge.Judged.{accepted}
use Rattle.format.specs.Meaning.{means, table_of, meaning_of, normal_of}
use Rattle.format.specs.Calls.{Lists, places, ReadClaim}
use Rattle.format.specs.Same.{same_answer}
use Rattle.format.specs.Bench.{accented}
use Rattle.format.specs.State.{Memory}
use Rattle.format.specs.declared.Counts.{Counts}
use Rattle.format.specs.declared.Refusal.{Refusal}
use Rattle.format.specs.declared.SameRefusal.{SameRefusal}
use Rattle.format.specs.declared.SameRefusal.TheVariants.{First}
use Rattle.state.specs.Taking.{WriteClaim, NormaliseClaim}
use Rattle.xml.specs.Export.{ExportClaim}

-- 2026-01: shown text is counted in characters. A top with a short name of so many letters of two octets each, as an object
abbrev pub named : ℕ → List ℕ
named n = 0x03 ∷ (2 * n + 4) ∷ 0x10 ∷ (2 * n + 2) ∷ 0x01 ∷ (2 * n) ∷ accented n

-- and as records for the writer, over the octets of that name
abbrev pub named_records : ℕ → Lists
named_records n = record {
  tags = 0x03 ∷ 0x10 ∷ 0x01 ∷ [];
  kinds = 0 ∷ 0 ∷ 2 ∷ [];
  depths = 1 ∷ 2 ∷ 3 ∷ [];
  parents = 0 ∷ 0 ∷ 1 ∷ [];
  starts = 0 ∷ 0 ∷ 0 ∷ [];
  sizes = 0 ∷ 0 ∷ (2 * n) ∷ [];
}

abbrev pub named_memory : ℕ → List ℕ → Memory
named_memory n bodies = record { lists = named_records n; bodies = bodies; store = accented n }

-- eight pass: read gives the three records where there are places, normalise gives these octets again, and write doesn't find the records ill-formed
pub record EightPass : Type 0 where
  pub read :
      (before after : Lists) (answer : Result Counts Refusal) → ReadClaim (named 8) before after answer → 3 ≤ places before
      → answer ≡ Ok (record { records = 3; items = 3 })
  pub normalised :
      (memory memory' : Memory) (room room' : List ℕ) (n : OctetCount) → NormaliseClaim (named 8) memory memory' room room' (Ok n) → take n.0 room' ≡ named 8
  pub written : (bodies bodies' before after : List ℕ) → 3 ≤ length bodies → WriteClaim 3 (named_memory 8 bodies) bodies' before after (Err (refusal 16 0)) → ⊥

-- nine fail: 13 at the name's CDATA, and 16 of its records, whatever is lent
pub record NineFail : Type 0 where
  pub read : (before after : Lists) (answer : Result Counts Refusal) → ReadClaim (named 9) before after answer → answer ≡ Err (refusal 13 4)
  pub normalised :
      (memory memory' : Memory) (room room' : List ℕ) (answer : Result OctetCount Refusal) → NormaliseClaim (named 9) memory memory' room room' answer
      → answer ≡ Err (refusal 13 4)
  pub written :
      (bodies bodies' before after : List ℕ) (answer : Result OctetCount Refusal) → WriteClaim 3 (named_memory 9 bodies) bodies' before after answer
      → answer ≡ Err (refusal 16 0)

-- 2026-04: refusal 9 tells the field of a time that is wrong. What the calls answer of an object with one, whatever is lent
pub record TellsField (object : List ℕ) (place field : ℕ) : Type 0 where
  pub read : (before after : Lists) (answer : Result Counts Refusal) → ReadClaim object before after answer → answer ≡ Err (wrong_value place field)
  pub normalised :
      (memory memory' : Memory) (room room' : List ℕ) (answer : Result OctetCount Refusal) → NormaliseClaim object memory memory' room room' answer
      → answer ≡ Err (wrong_value place field)
  pub compared : (other : List ℕ) (answer : Result Bool SameRefusal) → answer ≡ same_answer (judge object) (judge other)
      → answer ≡ Err (First (wrong_value place field))
  pub exported : (before after : List ℕ) (answer : Result OctetCount Refusal) → ExportClaim object before after answer → answer ≡ Err (wrong_value place field)

-- a creation time of a wrong length, whose other fields would be wrong too; with a wrong date and all behind it; with wrong hours; minutes; seconds; and a version of
-- a wrong length
pub record FieldsTold : Type 0 where
  pub length : TellsField (0x03 ∷ 0x07 ∷ 0x81 ∷ 0x05 ∷ 0x61 ∷ 0xA8 ∷ 0x06 ∷ 0x3C ∷ 0x00 ∷ []) 2 1
  pub date : TellsField (0x03 ∷ 0x08 ∷ 0x81 ∷ 0x06 ∷ 0x61 ∷ 0xA8 ∷ 0x0E ∷ 0x3C ∷ 0xF0 ∷ 0x00 ∷ []) 2 2
  pub hours : TellsField (0x03 ∷ 0x08 ∷ 0x81 ∷ 0x06 ∷ 0x61 ∷ 0xA7 ∷ 0xCE ∷ 0x3C ∷ 0xF0 ∷ 0x00 ∷ []) 2 3
  pub minutes : TellsField (0x03 ∷ 0x08 ∷ 0x81 ∷ 0x06 ∷ 0x61 ∷ 0xA7 ∷ 0xCD ∷ 0xFC ∷ 0xF0 ∷ 0x00 ∷ []) 2 4
  pub seconds : TellsField (0x03 ∷ 0x08 ∷ 0x81 ∷ 0x06 ∷ 0x61 ∷ 0xA7 ∷ 0xCD ∷ 0xFB ∷ 0xF0 ∷ 0x00 ∷ []) 2 5
  pub other : TellsField (0x03 ∷ 0x03 ∷ 0x80 ∷ 0x01 ∷ 0x00 ∷ []) 2 0

-- 2026-05: a default is the same as nothing. Of every accepted object: it means what its tree means without its defaults, and its normal form holds none
pub record DefaultsNothing : Type 0 where
  pub means-same : (object : List ℕ) (t : Items) → Octets object → judge object ≡ accepted t → means (table_of t) (without_defaults 0 t) ≡ meaning_of t
  pub left_out : (object : List ℕ) (t : Items) → Octets object → judge object ≡ accepted t → length (normal_of t) ≤ 32_768
      → (u : Items) → judge (normal_of t) ≡ accepted u → without_defaults 0 u ≡ u

-- a programme whose recommendation is of this value, and one without
abbrev pub recommended : ℕ → List ℕ
recommended value = 0x02 ∷ 0x07 ∷ 0x21 ∷ 0x05 ∷ 0x1C ∷ 0x03 ∷ 0x83 ∷ 0x01 ∷ value ∷ []

abbrev pub unrecommended : List ℕ
unrecommended = 0x02 ∷ 0x04 ∷ 0x21 ∷ 0x02 ∷ 0x1C ∷ 0x00 ∷ []

-- "no", which is the default, is read as a record, isn't in the normal form, and is the same as none; "yes" isn't
pub record RecommendationNo : Type 0 where
  pub read :
      (before after : Lists) (answer : Result Counts Refusal) → ReadClaim (recommended 1) before after answer → 4 ≤ places before
      → answer ≡ Ok (record { records = 4; items = 4 })
  pub normalised :
      (memory memory' : Memory) (room room' : List ℕ) (n : OctetCount) → NormaliseClaim (recommended 1) memory memory' room room' (Ok n)
      → take n.0 room' ≡ unrecommended
  pub compared : (answer : Result Bool SameRefusal) → answer ≡ same_answer (judge (recommended 1)) (judge unrecommended) → answer ≡ Ok true
  pub yes-differs : (answer : Result Bool SameRefusal) → answer ≡ same_answer (judge (recommended 2)) (judge unrecommended) → answer ≡ Ok false
