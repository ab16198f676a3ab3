-- Request 2026-10: what was merged can be merged again.
use Rattle.std.specs.Prelude.{◌≡◌, true, false, List, ℕ, take, Result, Ok}
use Rattle.std.proofs.Math.Option.{some}
use Rattle.octets.specs.declared.counts.Octets.{Octets as OctetCount}
use Rattle.octets.specs.Numbers.{Octets}
use Rattle.format.specs.Meaning.{Meaning, meaning}
use Rattle.format.specs.State.{Memory}
use Rattle.state.specs.Taking.{lent_by}
use Rattle.merge.specs.declared.Services.{Services}
use Rattle.merge.specs.Merged.{merged, same_top, twice}
use Rattle.merge.specs.Kept.{empty_top}
use Rattle.merge.specs.Calls.{MergeClaim, records_size}
use Rattle.merge.specs.declared.Merged.{Merged}
use Rattle.merge.specs.declared.MergeRefusal.{MergeRefusal}
use Rattle.demands.specs.Merging.{Suffices}

-- of two meanings that hold no key twice, what they become holds none twice either: not among the elements that became one, nor among those that were added, nor
-- between the two
abbrev pub OnceMerged : Type 0
OnceMerged = (by : Services) (basic advanced : Meaning) → twice by basic ≡ false → twice by advanced ≡ false → twice by (merged by basic advanced) ≡ false

-- so the octets that merge leaves hold no key twice: as an object of a second merge they never meet 21
abbrev pub ResultOnce : Type 0
ResultOnce =
    (by : Services) (basic advanced : List ℕ) → Octets basic → Octets advanced → (m m' : Memory) (room room' : List ℕ) (n : ℕ) (size : OctetCount)
    → MergeClaim by basic advanced m m' room room' (Ok (records_size n size)) → (w : Meaning) → meaning (take size.0 room') ≡ some w → twice by w ≡ false

-- and a second merge of them, with an Advanced object whose top is empty, gives them back, wherever the result fits again
abbrev pub MergeAgain : Type 0
MergeAgain =
    (by : Services) (basic advanced : List ℕ) → Octets basic → Octets advanced → (m m' : Memory) (room room' : List ℕ) (n : ℕ) (size : OctetCount) → Octets room'
    → MergeClaim by basic advanced m m' room room' (Ok (records_size n size))
    → (empty : List ℕ) → Octets empty → (tag : ℕ) (w : Meaning) → meaning (take size.0 room') ≡ some w → meaning empty ≡ some (empty_top tag) → same_top w (empty_top tag) ≡ true
    → (k k' : Memory) (space space' : List ℕ) (answer : Result Merged MergeRefusal) → Suffices (lent_by k space) w
    → MergeClaim by (take size.0 room') empty k k' space space' answer
    → (i : ℕ) × (again : OctetCount) × (answer ≡ Ok (records_size i again)) × (meaning (take again.0 space') ≡ meaning (take size.0 room'))
