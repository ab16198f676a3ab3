-- Request 2026-09: how many headers at worst. The items that reading counts are the object's headers, by the framing alone (`headers_of`, format/specs/Headers). Which objects
-- they are counted of is in `ReadExactly` and `JudgedExactly` (Two); that they are 0 after a refusal is in `Ends` (One).
use Rattle.std.specs.Prelude.{◌≡◌, List, [], ◌∷◌, ℕ, ◌*◌, ◌≤◌, length, Result, Ok}
use Rattle.format.specs.declared.Record.{Record}
use Rattle.format.specs.declared.Counts.{Counts}
use Rattle.format.specs.Judge.{judge}
use Rattle.format.specs.Headers.{headers_of}
use Rattle.format.specs.Calls.{Lists, places, judge_answer, ReadClaim, ReadAtMostClaim, ReadRecordsClaim}
use Rattle.format.specs.declared.Refusal.{Refusal}

-- the items counted of an object are its headers, at most half as many as its octets, and no fewer than the records counted
pub record CountsHeaders (object : List ℕ) (counts : Counts) : Type 0 where
  pub framed : counts.items ≡ headers_of object
  pub half : 2 * counts.items ≤ length object
  pub records : counts.records ≤ counts.items

-- by each call that counts them
pub record HeadersCounted : Type 0 where
  pub read : (object : List ℕ) (before after : Lists) (counts : Counts) → ReadClaim object before after (Ok counts) → CountsHeaders object counts
  pub read_at_most :
      (object : List ℕ) (most : ℕ) (before after : Lists) (counts : Counts) → ReadAtMostClaim object most before after (Ok counts) → CountsHeaders object counts
  pub read_records :
      (object : List ℕ) (before after : Lists) (slice slice' : List Record) (counts : Counts) → ReadRecordsClaim object before after slice slice' (Ok counts)
      → CountsHeaders object counts
  pub judged : (object : List ℕ) (counts : Counts) → Ok counts ≡ judge_answer (headers_of object) (judge object) → CountsHeaders object counts

-- a top with an unknown element, in which octets lie that could be two items, and CDATA
abbrev pub unknown_inside : List ℕ
unknown_inside = 0x03 ∷ 0x09 ∷ 0x05 ∷ 0x04 ∷ 0x10 ∷ 0x00 ∷ 0x10 ∷ 0x00 ∷ 0x01 ∷ 0x01 ∷ 0x61 ∷ []

-- read counts the unknown element and leaves out what is in it; an answer that counts that too is absurd, whatever is lent
pub record InsidesLeftOut : Type 0 where
  pub read :
      (before after : Lists) (answer : Result Counts Refusal) → ReadClaim unknown_inside before after answer → 2 ≤ places before
      → answer ≡ Ok (record { records = 2; items = 3 })
  pub absurdly : (before after : Lists) (n : ℕ) → ReadClaim unknown_inside before after (Ok (record { records = n; items = 5 })) → ⊥
