-- Request 2026-04: the field of a wrong time, by every call that judges an object, and of both objects of those that judge two.
use Rattle.std.specs.Prelude.{◌≡◌, List, [], ◌∷◌, ℕ, Result, Err, Bool}
use Rattle.octets.specs.declared.counts.Octets.{Octets as OctetCount}
use Rattle.format.specs.declared.Refusal.{Refusal}
use Rattle.format.specs.Answers.{wrong_value}
use Rattle.format.specs.Tree.{Items}
use Rattle.format.specs.Judge.{judge}
use Rattle.format.specs.Judge.Judged.{refused, accepted}
use Rattle.format.specs.Headers.{headers_of}
use Rattle.format.specs.Calls.{judge_answer}
use Rattle.format.specs.Same.{same_answer}
use Rattle.format.specs.State.{Memory}
use Rattle.format.specs.declared.Counts.{Counts}
use Rattle.format.specs.declared.SameRefusal.{SameRefusal}
use Rattle.format.specs.declared.SameRefusal.TheVariants.{Second}
use Rattle.state.specs.Taking.{TakeInClaim}
use Rattle.survey.specs.Survey.{needed_of}
use Rattle.survey.specs.declared.Needs.{Needs}
use Rattle.pocket.specs.declared.DataType.{DataType}
use Rattle.pocket.specs.Gate.{gate_of}
use Rattle.merge.specs.declared.Services.{Services}
use Rattle.merge.specs.Calls.{MergeClaim}
use Rattle.merge.specs.declared.Merged.{Merged}
use Rattle.merge.specs.declared.MergeRefusal.{MergeRefusal}
use Rattle.merge.specs.declared.MergeRefusal.TheVariants.{Basic, Advanced}

-- of an object that is refused so, whatever the refusal: each call says that very refusal, its number, place and field
pub record ToldBy (object : List ℕ) (r : Refusal) : Type 0 where
  pub judged : (answer : Result Counts Refusal) → answer ≡ judge_answer (headers_of object) (judge object) → answer ≡ Err r
  pub taken_in : (most : OctetCount) (m m' : Memory) (answer : Result ℕ Refusal) → TakeInClaim object most m m' answer → answer ≡ Err r
  pub gated : (d : DataType) (answer : Result (Unit {0}) Refusal) → answer ≡ gate_of d object → answer ≡ Err r
  pub needed : (answer : Result Needs Refusal) → answer ≡ needed_of (judge object) → answer ≡ Err r
  pub as_second :
      (first : List ℕ) (t : Items) → judge first ≡ accepted t → (answer : Result Bool SameRefusal) → answer ≡ same_answer (judge first) (judge object)
      → answer ≡ Err (Second r)
  pub as_basic :
      (by : Services) (advanced : List ℕ) (m m' : Memory) (room room' : List ℕ) (answer : Result Merged MergeRefusal)
      → MergeClaim by object advanced m m' room room' answer
      → answer ≡ Err (Basic r)
  pub as_advanced :
      (by : Services) (basic : List ℕ) (t : Items) → judge basic ≡ accepted t → (m m' : Memory) (room room' : List ℕ) (answer : Result Merged MergeRefusal)
      → MergeClaim by basic object m m' room room' answer → answer ≡ Err (Advanced r)

-- `scan` answers as `judge` does (2026-14), so `judged` is said of it too
abbrev pub ToldByAll : Type 0
ToldByAll = (object : List ℕ) (r : Refusal) → judge object ≡ refused r → ToldBy object r

-- and so of the times of `FieldsTold` (Requests), of which length, date, hours, minutes and seconds are wrong, and of a value of another kind
pub record FieldsToldByAll : Type 0 where
  pub length : ToldBy (0x03 ∷ 0x07 ∷ 0x81 ∷ 0x05 ∷ 0x61 ∷ 0xA8 ∷ 0x06 ∷ 0x3C ∷ 0x00 ∷ []) (wrong_value 2 1)
  pub date : ToldBy (0x03 ∷ 0x08 ∷ 0x81 ∷ 0x06 ∷ 0x61 ∷ 0xA8 ∷ 0x0E ∷ 0x3C ∷ 0xF0 ∷ 0x00 ∷ []) (wrong_value 2 2)
  pub hours : ToldBy (0x03 ∷ 0x08 ∷ 0x81 ∷ 0x06 ∷ 0x61 ∷ 0xA7 ∷ 0xCE ∷ 0x3C ∷ 0xF0 ∷ 0x00 ∷ []) (wrong_value 2 3)
  pub minutes : ToldBy (0x03 ∷ 0x08 ∷ 0x81 ∷ 0x06 ∷ 0x61 ∷ 0xA7 ∷ 0xCD ∷ 0xFC ∷ 0xF0 ∷ 0x00 ∷ []) (wrong_value 2 4)
  pub seconds : ToldBy (0x03 ∷ 0x08 ∷ 0x81 ∷ 0x06 ∷ 0x61 ∷ 0xA7 ∷ 0xCD ∷ 0xFB ∷ 0xF0 ∷ 0x00 ∷ []) (wrong_value 2 5)
  pub other : ToldBy (0x03 ∷ 0x03 ∷ 0x80 ∷ 0x01 ∷ 0x00 ∷ []) (wrong_value 2 0)
