-- Request 2026-10: a Basic and an Advanced object merged. What they become is defined in merge/specs; here what that means for whoever calls `merge`. Each statement
-- holds whichever way services are told apart. Beside the call's claim it has at most the premise that what is given is octets.
use Rattle.std.specs.Prelude.{◌≡◌, true, false, ◌↔◌, List, [], ◌∷◌, ℕ, ◌≤◌, ◌<◌, length, take, drop, Result, Ok, Err}
use Rattle.std.proofs.Math.Option.{some}
use Rattle.octets.specs.declared.counts.Octets.{Octets as OctetCount}
use Rattle.octets.specs.Numbers.{Octets}
use Rattle.format.specs.declared.Refusal.{Refusal}
use Rattle.format.specs.Answers.{refusal}
use Rattle.format.specs.Tree.{Items, count}
use Rattle.format.specs.Judge.{judge}
use Rattle.format.specs.Judge.Judged.{refused, accepted}
use Rattle.format.specs.Meaning.{Meaning, meaning_of, meaning, encode, normal}
use Rattle.format.specs.Loaded.{loaded_of}
use Rattle.format.specs.Calls.{Lent}
use Rattle.format.specs.State.{Memory, places_in, lay_tree}
use Rattle.state.specs.Taking.{lent_by}
use Rattle.merge.specs.declared.Services.{Services}
use Rattle.merge.specs.Merged.{merged, clash, same_top, twice}
use Rattle.merge.specs.Kept.{empty_top, Mergeable, InOrder, AnyOrder, Comes}
use Rattle.merge.specs.Sizes.{records_in, stored_in}
use Rattle.merge.specs.Calls.{MergeClaim, records_size}
use Rattle.merge.specs.declared.Merged.{Merged}
use Rattle.merge.specs.declared.MergeRefusal.{MergeRefusal}
use Rattle.merge.specs.declared.MergeRefusal.TheVariants.{Basic, Advanced, Neither}
use Rattle.demands.specs.One.{OfObject, OfCall}

-- ---- how the call ends: merged; or 1 to 13 of Basic or of Advanced, or 20, 21, 14 or 15 at 0, never 16, and then all that was lent is as it was
pub data Ended (basic advanced : List ℕ) (Kept : Type 0) : Result Merged MergeRefusal → Type 0 where
  merges : (n : ℕ) (size : OctetCount) → Ended basic advanced Kept (Ok (records_size n size))
  of_basic : (r : Refusal) → OfObject basic r.number r.place r.field → Kept → Ended basic advanced Kept (Err (Basic r))
  of_advanced : (r : Refusal) → OfObject advanced r.number r.place r.field → Kept → Ended basic advanced Kept (Err (Advanced r))
  of_both : (r : Refusal) → OfCall (20 ∷ 21 ∷ 14 ∷ 15 ∷ []) r.number r.place r.field → Kept → Ended basic advanced Kept (Err (Neither r))

abbrev pub MergeEnds : Type 0
MergeEnds =
    (by : Services) (basic advanced : List ℕ) (m m' : Memory) (room room' : List ℕ) (answer : Result Merged MergeRefusal)
    → MergeClaim by basic advanced m m' room room' answer
    → Ended basic advanced ((m' ≡ m) × (room' ≡ room)) answer

-- ---- and in which order: "after 1 to 13 for Basic and then for Advanced: 20 ..; 21 ..; then 14, 15 as for edits"

-- what is lent suffices for a meaning: places for its records, a store for its texts and values, a room for its normal form, which an object may have too
pub record Suffices (lent : Lent) (w : Meaning) : Type 0 where
  pub records : records_in w ≤ lent.records
  pub store : stored_in w ≤ lent.store.0
  pub room : length (encode w) ≤ lent.room.0
  pub object : length (encode w) ≤ 32_768

pub data Hinders (by : Services) (lent : Lent) (m n : Meaning) : Refusal → Type 0 where
  twenty : (same_top m n ≡ true → clash by m n ≡ false → ⊥) → Hinders by lent m n (refusal 20 0)
  twenty_one : same_top m n ≡ true → clash by m n ≡ false → (twice by m ≡ false → twice by n ≡ false → ⊥) → Hinders by lent m n (refusal 21 0)
  fourteen : Mergeable by m n → lent.records < records_in (merged by m n) → Hinders by lent m n (refusal 14 0)
  fifteen : Mergeable by m n → records_in (merged by m n) ≤ lent.records → (Suffices lent (merged by m n) → ⊥) → Hinders by lent m n (refusal 15 0)

-- each answer exactly when its own condition holds
pub record MergeOrder (by : Services) (basic advanced : List ℕ) (lent : Lent) (answer : Result Merged MergeRefusal) : Type 0 where
  pub of_basic : (r : Refusal) → (answer ≡ Err (Basic r)) ↔ (judge basic ≡ refused r)
  pub of_advanced : (r : Refusal) → (answer ≡ Err (Advanced r)) ↔ ((t : Items) × (judge basic ≡ accepted t) × (judge advanced ≡ refused r))
  pub of_both :
      (r : Refusal)
      → (answer ≡ Err (Neither r))
      ↔ ((t : Items) × (u : Items) × (judge basic ≡ accepted t) × (judge advanced ≡ accepted u) × Hinders by lent (meaning_of t) (meaning_of u) r)

abbrev pub MergeInOrder : Type 0
MergeInOrder =
    (by : Services) (basic advanced : List ℕ) (m m' : Memory) (room room' : List ℕ) (answer : Result Merged MergeRefusal)
    → MergeClaim by basic advanced m m' room room' answer
    → MergeOrder by basic advanced (lent_by m room) answer

-- ---- what is merged

-- the octets that the room then has are an object: accepted, of the merged meaning, and their own normal form (demands 2 and 3); memory holds their tree, as taking
-- them in lays it, and the room behind them is as before. All of Basic is there, in its order, and all of Advanced, and all that is there comes from one of the two
pub record MergedObject (by : Services) (basic advanced : List ℕ) (m m' : Memory) (room room' : List ℕ) (n : ℕ) (size : OctetCount) : Type 0 where
  pub of_basic : Items
  pub of_advanced : Items
  pub accepts_basic : judge basic ≡ accepted of_basic
  pub accepts_advanced : judge advanced ≡ accepted of_advanced
  pub again : Items
  pub accepts : judge (take size.0 room') ≡ accepted again
  pub means-it : meaning_of again ≡ merged by (meaning_of of_basic) (meaning_of of_advanced)
  pub itself : normal (take size.0 room') ≡ some (take size.0 room')
  pub records : n ≡ count again
  pub memory : m' ≡ lay_tree (loaded_of again) m
  pub behind : drop size.0 room' ≡ drop size.0 room
  pub basic-stays : InOrder (meaning_of of_basic) (meaning_of again)
  pub advanced-stays : AnyOrder (meaning_of of_advanced) (meaning_of again)
  pub comes : Comes (meaning_of of_basic) (meaning_of of_advanced) (meaning_of again)

abbrev pub MergeGives : Type 0
MergeGives =
    (by : Services) (basic advanced : List ℕ) → Octets basic → Octets advanced → (m m' : Memory) (room room' : List ℕ) (n : ℕ) (size : OctetCount)
    → MergeClaim by basic advanced m m' room room' (Ok (records_size n size)) → MergedObject by basic advanced m m' room room' n size

-- "Merging with an Advanced object whose top is empty gives Basic's meaning, where Basic holds no key twice and the result fits"
abbrev pub MergeEmpty : Type 0
MergeEmpty =
    (by : Services) (basic advanced : List ℕ) → Octets basic → Octets advanced → (m m' : Memory) (room room' : List ℕ) (answer : Result Merged MergeRefusal)
    → MergeClaim by basic advanced m m' room room' answer → (b : Meaning) (tag : ℕ) → meaning basic ≡ some b → meaning advanced ≡ some (empty_top tag)
    → same_top b (empty_top tag) ≡ true → twice by b ≡ false → Suffices (lent_by m room) b
    → (n : ℕ) × (size : OctetCount) × (answer ≡ Ok (records_size n size)) × (meaning (take size.0 room') ≡ meaning basic)

-- with 16,384 places, and 32,768 octets of store and of room, whatever can be merged is, unless the result has more octets than an object may
abbrev pub MergeAlways : Type 0
MergeAlways =
    (by : Services) (basic advanced : List ℕ) → Octets basic → Octets advanced → (m m' : Memory) (room room' : List ℕ) (answer : Result Merged MergeRefusal)
    → MergeClaim by basic advanced m m' room room' answer → (t u : Items) → judge basic ≡ accepted t → judge advanced ≡ accepted u
    → Mergeable by (meaning_of t) (meaning_of u) → 16_384 ≤ places_in m → 32_768 ≤ length m.store → 32_768 ≤ length room
    → length (encode (merged by (meaning_of t) (meaning_of u))) ≤ 32_768 → (n : ℕ) × (size : OctetCount) × (answer ≡ Ok (records_size n size))
