-- Request 2026-13: no accepted object without a token table, of the same meaning, has fewer octets than the normal form, wherever that form fits document 01's
-- limit. The meaning is that after request 2026-05: a default is nothing.
use Rattle.std.specs.Prelude.{◌≡◌, List, [], ◌∷◌, ℕ, ◌≤◌, ◌<◌, length, take, Ok}
use Rattle.std.proofs.Math.Option.{some}
use Rattle.octets.specs.Numbers.{Octets}
use Rattle.octets.specs.declared.counts.Octets.{Octets as OctetCount}
use Rattle.format.specs.Tree.{Items}
use Rattle.format.specs.Judge.{judge}
use Rattle.format.specs.Judge.Judged.{accepted}
use Rattle.format.specs.Meaning.{table_of, meaning, normal}
use Rattle.format.specs.State.{Memory}
use Rattle.state.specs.Taking.{NormaliseClaim}
use Rattle.demands.specs.Requests.{recommended}

-- an accepted object without a token table. One whose token table has no entries counts as such too, so that more is said
pub record Plain (object : List ℕ) : Type 0 where
  pub octets : Octets object
  pub tree : Items
  pub accepts : judge object ≡ accepted tree
  pub no_table : table_of tree ≡ []

-- octets are the shortest such object that means what an object means: they are one, and none has fewer octets
pub record ShortestPlain (object form : List ℕ) : Type 0 where
  pub plain : Plain form
  pub means-same : meaning form ≡ meaning object
  pub least : (other : List ℕ) → Plain other → meaning other ≡ meaning object → length form ≤ length other

-- the normal form is, wherever it fits; the object itself may have a token table
abbrev pub NormalShortest : Type 0
NormalShortest = (object form : List ℕ) → Octets object → normal object ≡ some form → length form ≤ 32_768 → ShortestPlain object form

-- and where it doesn't fit, there is no such object
abbrev pub ElseNone : Type 0
ElseNone = (object form : List ℕ) → normal object ≡ some form → 32_768 < length form → (other : List ℕ) → Plain other → meaning other ≡ meaning object → ⊥

-- so what normalise writes is the shortest, whatever is lent
abbrev pub NormaliseShortest : Type 0
NormaliseShortest =
    (object : List ℕ) → Octets object → (memory memory' : Memory) (room room' : List ℕ) (n : OctetCount)
    → NormaliseClaim object memory memory' room room' (Ok n)
    → ShortestPlain object (take n.0 room')

-- P11 of document 01, with its token seven times: 17 octets, whose token table has "en"
abbrev pub seven_tokens : List ℕ
seven_tokens =
    0x03 ∷ 0x0F ∷ 0x04 ∷ 0x04 ∷ 0x01 ∷ 0x02 ∷ 0x65 ∷ 0x6E ∷ 0x06 ∷ 0x07 ∷ 0x01 ∷ 0x01 ∷ 0x01 ∷ 0x01 ∷ 0x01 ∷ 0x01 ∷ 0x01 ∷ []

-- its normal form, 18 octets, has the text itself
abbrev pub seven_times : List ℕ
seven_times =
    0x03 ∷ 0x10 ∷ 0x06 ∷ 0x0E ∷ 0x65 ∷ 0x6E ∷ 0x65 ∷ 0x6E ∷ 0x65 ∷ 0x6E ∷ 0x65 ∷ 0x6E ∷ 0x65 ∷ 0x6E ∷ 0x65 ∷ 0x6E ∷ 0x65 ∷ 0x6E ∷ []

-- the bound is met: an object without a token table, a programme whose recommendation is "yes", is its own normal form. And it is one of objects without a token
-- table only: an accepted object with one is shorter than its normal form
pub record Sharp : Type 0 where
  pub met : Plain (recommended 2) × (normal (recommended 2) ≡ some (recommended 2))
  pub tabled : (normal seven_tokens ≡ some seven_times) × (length seven_tokens < length seven_times)
