-- What merging answers, and what lent memory and the room then hold (change request 2026-10).
use Rattle.std.specs.Prelude.{◌≡◌, not, ◌&&◌, ◌||◌, List, [], ◌∷◌, ℕ, leb, Result, Ok, Err}
use Rattle.std.proofs.Math.Option.{Option, none, some}
use Rattle.std.proofs.lemmas.List.Edits.{sets}
use Rattle.octets.specs.declared.counts.Octets.{Octets}
use Rattle.octets.specs.Counts.{as_octets, size_of, octets_within}
use Rattle.format.specs.declared.Refusal.{Refusal}
use Rattle.format.specs.Judge.{Judged, rule, first, judge}
use Rattle.format.specs.Judge.Judged.{refused, accepted}
use Rattle.format.specs.Meaning.{Meaning, meaning_of, encode}
use Rattle.format.specs.Calls.{Lent, roomy}
use Rattle.format.specs.State.{Memory}
use Rattle.state.specs.Taking.{lent_by, loaded_into}
use Rattle.merge.specs.declared.Services.{Services}
use Rattle.merge.specs.declared.Merged.{Merged}
use Rattle.merge.specs.declared.MergeRefusal.{MergeRefusal}
use Rattle.merge.specs.declared.MergeRefusal.TheVariants.{Basic, Advanced, Neither}
use Rattle.merge.specs.declared.MergeOutcome.{MergeOutcome}
use Rattle.merge.specs.Merged.{merged, clash, same_top, twice}
use Rattle.merge.specs.Sizes.{records_in, stored_in}

-- "20, top tags differ, two different default languages, one attribute with two different values, or two CDATA for one element; 21, one object holds the same
-- merging key twice under one parent"
unfoldable pub conflict : Services → (basic advanced : Meaning) → Option Refusal
conflict by m n = first (rule 20 0 (same_top m n && not (clash by m n)) ∷ rule 21 0 (not (twice by m || twice by n)) ∷ [])

-- "then 16, 14, 15 as for edits": 16 can't come (proofs/Fine, merged-ok)
unfoldable pub misfit : Lent → Meaning → Option Refusal
misfit lent m =
    first (rule 14 0 (leb (records_in m) lent.records) ∷ rule 15 0 (octets_within (as_octets (stored_in m)) lent.store && roomy lent.room (encode m)) ∷ [])

-- what merging comes to: an answer that refuses, or the merged meaning
pub data Outcome : Type 0 where
  refuses : Result Merged MergeRefusal → Outcome
  gives : Meaning → Outcome

unfoldable pub unless_refused : Option Refusal → Outcome → Outcome
unless_refused none o = o
unless_refused (some r) o = refuses (Err (Neither r))

-- two accepted objects
unfoldable pub merged_into : Services → Lent → (basic advanced : Meaning) → Outcome
merged_into by lent m n = unless_refused (conflict by m n) (unless_refused (misfit lent (merged by m n)) (gives (merged by m n)))

-- "Refusals, after 1 to 13 for Basic and then for Advanced"
unfoldable pub outcome : Services → Lent → (basic advanced : Judged) → Outcome
outcome by lent (refused r) a = refuses (Err (Basic r))
outcome by lent (accepted t) (refused r) = refuses (Err (Advanced r))
outcome by lent (accepted t) (accepted u) = merged_into by lent (meaning_of t) (meaning_of u)

-- how many records memory has then, and how many octets the room
abbrev pub records_size : ℕ → Octets → Merged
records_size records size = record { records = records; size = size }

unfoldable pub answer_of : Outcome → Result Merged MergeRefusal
answer_of (refuses answer) = answer
answer_of (gives m) = Ok (records_size (records_in m) (size_of (encode m)))

-- the normal form of the merged meaning; nothing where it is refused
unfoldable pub written_of : Outcome → List ℕ
written_of (refuses answer) = []
written_of (gives m) = encode m

-- merge: the room has the normal form of the merged meaning then, and memory is as taking in that normal form leaves it. Where anything is refused both are as
-- they were
pub record MergeClaim (by : Services) (basic advanced : List ℕ) (m m' : Memory) (room room' : List ℕ) (answer : Result Merged MergeRefusal) : Type 0 where
  pub answers : answer ≡ answer_of (outcome by (lent_by m room) (judge basic) (judge advanced))
  pub writes : room' ≡ sets room 0 (written_of (outcome by (lent_by m room) (judge basic) (judge advanced)))
  pub leaves : m' ≡ loaded_into (lent_by m room) (judge (written_of (outcome by (lent_by m room) (judge basic) (judge advanced)))) m

-- ---- document 01's numbers for the answer

-- a refusal of one object alone, 1 Basic, 2 Advanced, or of none alone, 0
abbrev pub refused_as : ℕ → Refusal → MergeOutcome
refused_as which r = record { which = which; number = r.number; place = r.place; field = r.field; records = 0; size = as_octets 0 }

-- number, place and field of a refusal, all 0 where there is none; the records of memory and the octets of the room, both 0 after a refusal
abbrev pub merge_outcome : Result Merged MergeRefusal → MergeOutcome
merge_outcome (Ok m) = record { which = 0; number = 0; place = 0; field = 0; records = m.records; size = m.size }
merge_outcome (Err (Basic r)) = refused_as 1 r
merge_outcome (Err (Advanced r)) = refused_as 2 r
merge_outcome (Err (Neither r)) = refused_as 0 r
