-- The reader with no list against `read` (change request 2026-14). Its answer is `judge_answer` of the judgement (format/specs/Calls), with no new definition.
use Rattle.std.specs.Prelude.{◌≡◌, cond, List, ℕ, ◌*◌, ◌≤◌, ◌<◌, eqb, length, Result, Ok, Err}
use Rattle.format.specs.declared.Counts.{Counts}
use Rattle.format.specs.declared.Refusal.{Refusal}
use Rattle.format.specs.Tree.{Items, count}
use Rattle.format.specs.Judge.{Judged, judge}
use Rattle.format.specs.Judge.Judged.{accepted}
use Rattle.format.specs.Headers.{headers_of}
use Rattle.format.specs.Calls.{Lists, places, judge_answer, read_answer, ReadClaim}

-- what scan answers, and read lent so many places
abbrev pub scanned : List ℕ → Result Counts Refusal
scanned object = judge_answer (headers_of object) (judge object)

abbrev pub read_with : ℕ → List ℕ → Result Counts Refusal
read_with n object = read_answer n (headers_of object) (judge object)

-- places for every record that a judgement accepts
abbrev pub Enough : ℕ → Judged → Type 0
Enough n j = (t : Items) → j ≡ accepted t → count t ≤ n

-- for every input, and whatever lists with places enough: what scan answers is what read answers
abbrev pub ScansAsRead : Type 0
ScansAsRead =
    (object : List ℕ) (before after : Lists) (answer : Result Counts Refusal) → Enough (places before) (judge object) → ReadClaim object before after answer → scanned object ≡ answer

-- half as many places as the object has octets are enough, and so are 16,384 for every object
abbrev pub HalfIsEnough : Type 0
HalfIsEnough = (object : List ℕ) (n : ℕ) → length object ≤ 2 * n → Enough n (judge object)

abbrev pub AllAreEnough : Type 0
AllAreEnough = (object : List ℕ) (n : ℕ) → 16_384 ≤ n → Enough n (judge object)

-- a refusal of scan is one of 1 to 13: never 14
pub record OfObject (r : Refusal) : Type 0 where
  pub least : 1 ≤ r.number
  pub most : r.number ≤ 13

abbrev pub ScanRefuses : Type 0
ScanRefuses = (object : List ℕ) (r : Refusal) → scanned object ≡ Err r → OfObject r

-- an answer of read in which 14 gives way to another answer, and nothing else changes
unfoldable pub changed : Result Counts Refusal → Result Counts Refusal → Result Counts Refusal
changed other (Ok counts) = Ok counts
changed other (Err r) = cond (eqb r.number 14) other (Err r)

-- lent however many places, read answers what scan does, but for 14
abbrev pub ScanChanges : Type 0
ScanChanges = (object : List ℕ) (n : ℕ) → scanned object ≡ changed (scanned object) (read_with n object)

abbrev pub OthersStay : Type 0
OthersStay = (object : List ℕ) (n : ℕ) → ((r : Refusal) → read_with n object ≡ Err r → r.number ≡ 14 → ⊥) → scanned object ≡ read_with n object

-- where read answers 14 the object is accepted and has more records than there are places, and scan answers with their number and that of the headers
pub record Fourteen (n : ℕ) (object : List ℕ) (r : Refusal) : Type 0 where
  pub tree : Items
  pub accepts : judge object ≡ accepted tree
  pub beyond : n < count tree
  pub place : r.place ≡ 0
  pub counts : Counts
  pub answers : scanned object ≡ Ok counts
  pub records : counts.records ≡ count tree
  pub headers : counts.items ≡ headers_of object

abbrev pub FourteenMeans : Type 0
FourteenMeans = (object : List ℕ) (n : ℕ) (r : Refusal) → read_with n object ≡ Err r → r.number ≡ 14 → Fourteen n object r
