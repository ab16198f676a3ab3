-- Demand 1. Any octets, lent lists and room may be given; the caller is never asked to have checked them. Each call ends with an answer, or one numbered
-- refusal and a place, by the order in document 01. A refusal leaves all lent memory untouched.
--
-- No statement here has a premise but the call's claim: what is given and lent is any list whatever. That each call ends is Rattle's own check of its code.
use Rattle.std.specs.Prelude.{◌≡◌, Bool, true, false, ◌↔◌, ◌⊎◌, List, [], ◌∷◌, ℕ, ◌+◌, ◌≤◌, ◌<◌, min, length, take, drop, Result, Ok, Err}
use Rattle.std.proofs.lemmas.List.Edits.{sets}
use Rattle.octets.specs.declared.counts.Octets.{Octets as OctetCount}
use Rattle.octets.specs.Counts.{size_of}
use Rattle.octets.specs.Numbers.{among}
use Rattle.octets.specs.Puts.{Puts}
use Rattle.octets.specs.declared.PutError.{PutError}
use Rattle.octets.specs.declared.PutError.TheVariants.{NoRoom, Invalid}
use Rattle.format.specs.declared.Record.{Record}
use Rattle.format.specs.declared.Refusal.{Refusal}
use Rattle.format.specs.declared.Outcome.{Outcome}
use Rattle.format.specs.declared.SameOutcome.{SameOutcome}
use Rattle.format.specs.Answers.{refusal, read_outcome, write_outcome, same_outcome}
use Rattle.format.specs.Tree.{Items, count, records_of}
use Rattle.format.specs.Tree.Items.{end, item}
use Rattle.format.specs.Judge.{Judged, judge}
use Rattle.format.specs.Judge.Judged.{refused, accepted}
use Rattle.format.specs.Headers.{headers_of}
use Rattle.format.specs.Meaning.{means, encode, normal_of}
use Rattle.format.specs.Writer.{at_top, ruled, tabled}
use Rattle.format.specs.Loaded.{store_of}
use Rattle.format.specs.Calls.{Lists, row, places, Lent, judge_answer, ReadClaim, ReadAtMostClaim, ReadRecordsClaim}
use Rattle.format.specs.Same.{same_answer}
use Rattle.format.specs.State.{Memory, places_in}
use Rattle.format.specs.declared.Counts.{Counts}
use Rattle.format.specs.declared.SameRefusal.{SameRefusal}
use Rattle.format.specs.declared.SameRefusal.TheVariants.{First, Second}
use Rattle.state.specs.Taking.{lent_by, WriteClaim, NormaliseClaim}

-- ---- an answer, or one numbered refusal with a place and a field; and a refusal leaves all lent memory untouched

-- a refusal for what stands in the object: a number from 1 to 13, and the offset of one of its octets; 0 for 1, and where the object is empty. Its field is at most 5,
-- and above 0 only with 9 (change request 2026-04)
pub record OfObject (object : List ℕ) (number place field : ℕ) : Type 0 where
  pub least : 1 ≤ number
  pub most : number ≤ 13
  pub inside : 0 < length object → place < length object
  pub empty : length object ≡ 0 → place ≡ 0
  pub one : number ≡ 1 → place ≡ 0
  pub few : field ≤ 5
  pub nine : 0 < field → number ≡ 9

-- a refusal for what is lent or given: one of the numbers that the call has for that, at place 0, with field 0
pub data OfCall (numbers : List ℕ) : ℕ → ℕ → ℕ → Type 0 where
  of_call : (number : ℕ) → among number numbers ≡ true → OfCall numbers number 0 0

pub data Refuses (object numbers : List ℕ) : ℕ → ℕ → ℕ → Type 0 where
  for_object : (number place field : ℕ) → OfObject object number place field → Refuses object numbers number place field
  for_call : (number place field : ℕ) → OfCall numbers number place field → Refuses object numbers number place field

-- how a call ends, in document 01's numbers: with an answer, which has no refusal's number, no place, no field, and counts; or with a number, a place and a field
-- for which there is a reason, both counts 0, and all that was lent kept
pub data Ends (Reason : ℕ → ℕ → ℕ → Type 0) (Kept : Type 0) : Outcome → Type 0 where
  answered : (n items : ℕ) → Ends Reason Kept (record { number = 0; place = 0; field = 0; count = n; items = items })
  refused_at :
      (number place field : ℕ) → Reason number place field → Kept
      → Ends Reason Kept (record { number = number; place = place; field = field; count = 0; items = 0 })

-- the same of two objects with nothing lent: which of them is refused is told too
pub data SameEnds (a b : List ℕ) : SameOutcome → Type 0 where
  answered : (same : Bool) → SameEnds a b (record { same = same; which = 0; number = 0; place = 0; field = 0 })
  first_at : (number place field : ℕ) → OfObject a number place field → SameEnds a b (record { same = false; which = 1; number = number; place = place; field = field })
  second_at : (number place field : ℕ) → OfObject b number place field → SameEnds a b (record { same = false; which = 2; number = number; place = place; field = field })

-- judge gives 1 to 13; nothing is lent to it
abbrev pub JudgeEnds : Type 0
JudgeEnds =
    (object : List ℕ) (answer : Result Counts Refusal) → answer ≡ judge_answer (headers_of object) (judge object)
    → Ends (OfObject object) (Unit {0}) (read_outcome answer)

-- read gives 1 to 13, and 14
abbrev pub ReadEnds : Type 0
ReadEnds =
    (object : List ℕ) (before after : Lists) (answer : Result Counts Refusal) → ReadClaim object before after answer
    → Ends (Refuses object (14 ∷ [])) (after ≡ before) (read_outcome answer)

-- read_at_most, whose caller may say fewer places, likewise
abbrev pub ReadAtMostEnds : Type 0
ReadAtMostEnds =
    (object : List ℕ) (most : ℕ) (before after : Lists) (answer : Result Counts Refusal) → ReadAtMostClaim object most before after answer
    → Ends (Refuses object (14 ∷ [])) (after ≡ before) (read_outcome answer)

-- read_records likewise
abbrev pub ReadRecordsEnds : Type 0
ReadRecordsEnds =
    (object : List ℕ) (before after : Lists) (slice slice' : List Record) (answer : Result Counts Refusal)
    → ReadRecordsClaim object before after slice slice' answer
    → Ends (Refuses object (14 ∷ [])) ((after ≡ before) × (slice' ≡ slice)) (read_outcome answer)

-- write gives 15 and 16
abbrev pub WriteEnds : Type 0
WriteEnds =
    (n : ℕ) (memory : Memory) (bodies' before after : List ℕ) (answer : Result OctetCount Refusal) → WriteClaim n memory bodies' before after answer
    → Ends (OfCall (15 ∷ 16 ∷ [])) ((after ≡ before) × (bodies' ≡ memory.bodies)) (write_outcome answer)

-- normalise gives 1 to 13, 14 and 15
abbrev pub NormaliseEnds : Type 0
NormaliseEnds =
    (object : List ℕ) (memory memory' : Memory) (room room' : List ℕ) (answer : Result OctetCount Refusal)
    → NormaliseClaim object memory memory' room room' answer
    → Ends (Refuses object (14 ∷ 15 ∷ [])) ((memory' ≡ memory) × (room' ≡ room)) (write_outcome answer)

-- same gives 1 to 13 of either object; nothing is lent to it
abbrev pub SameCallEnds : Type 0
SameCallEnds = (a b : List ℕ) (answer : Result Bool SameRefusal) → answer ≡ same_answer (judge a) (judge b) → SameEnds a b (same_outcome answer)

-- ---- by the order in document 01. The order within an object is that of the definition `judge` (format/specs/Judge); these say how its refusals, 14, 15 and 16
-- stand to one another

-- 1 exactly when the object is empty or above 32,768 octets, whatever else it is; its place is 0
abbrev pub OneExactly : Type 0
OneExactly = (object : List ℕ) (place : ℕ) → (judge object ≡ refused (refusal 1 place)) ↔ ((place ≡ 0) × ((length object ≡ 0) ⊎ (32_768 < length object)))

-- read of octets with so many headers: 1 to 13 exactly when the object is refused so; 14 exactly when it is accepted and has more records than there are places; else
-- its records, and as the items judged those headers (change request 2026-09)
pub record ReadOrder (judged : Judged) (places headers : ℕ) (answer : Result Counts Refusal) : Type 0 where
  pub of_object : (r : Refusal) → r.number ≤ 13 → (answer ≡ Err r) ↔ (judged ≡ refused r)
  pub fourteen : (answer ≡ Err (refusal 14 0)) ↔ ((t : Items) × (judged ≡ accepted t) × (places < count t))
  pub records :
      (n items : ℕ)
      → (answer ≡ Ok (record { records = n; items = items })) ↔ ((t : Items) × (judged ≡ accepted t) × (n ≡ count t) × (items ≡ headers) × (n ≤ places))

abbrev pub ReadInOrder : Type 0
ReadInOrder =
    (object : List ℕ) (before after : Lists) (answer : Result Counts Refusal) → ReadClaim object before after answer
    → ReadOrder (judge object) (places before) (headers_of object) answer

-- read_at_most: no more places than its caller says
abbrev pub ReadAtMostInOrder : Type 0
ReadAtMostInOrder =
    (object : List ℕ) (most : ℕ) (before after : Lists) (answer : Result Counts Refusal) → ReadAtMostClaim object most before after answer
    → ReadOrder (judge object) (min most (places before)) (headers_of object) answer

-- read_records: the slice's places count too
abbrev pub ReadRecordsInOrder : Type 0
ReadRecordsInOrder =
    (object : List ℕ) (before after : Lists) (slice slice' : List Record) (answer : Result Counts Refusal)
    → ReadRecordsClaim object before after slice slice' answer
    → ReadOrder (judge object) (min (length slice) (places before)) (headers_of object) answer

-- each item's body is the part of the octets that begins at the item's offset
abbrev pub LiesIn : List ℕ → Items → Type 0
LiesIn octets end = Unit {0}
LiesIn octets (item tag at body inside after) =
    (at + length body ≤ length octets) × (take (length body) (drop at octets) ≡ body) × LiesIn octets inside × LiesIn octets after

-- the n records of lent memory are a well-formed tree: there is one, and no more of them than places; they are the records of the tree, so that kinds, reading order,
-- parents and depths agree; each body lies in the lent octets; and each item keeps rules 4 and 6 to 13, as a known item other than 0x04 without token octets, of which
-- only elements that hold items hold any
pub record GivenTree (n : ℕ) (memory : Memory) (t : Items) : Type 0 where
  pub some : 0 < n
  pub placed : n ≤ places_in memory
  pub records : tabled (row memory.lists) n 0 ≡ records_of t
  pub lies : LiesIn memory.store t
  pub rules : ruled at_top t ≡ true

-- write: 16 exactly when the records aren't a well-formed tree; 15 exactly when they are and its normal form is above the room or above 32,768; else its octets
pub record WriteOrder (n : ℕ) (memory : Memory) (room : OctetCount) (answer : Result OctetCount Refusal) : Type 0 where
  pub sixteen : (answer ≡ Err (refusal 16 0)) ↔ ((t : Items) → GivenTree n memory t → ⊥)
  pub fifteen : (answer ≡ Err (refusal 15 0)) ↔ ((t : Items) × GivenTree n memory t × (min room.0 32_768 < length (encode (means [] t))))
  pub octets : (k : OctetCount) → (answer ≡ Ok k) ↔ ((t : Items) × GivenTree n memory t × (k ≡ size_of (encode (means [] t))) × (k.0 ≤ min room.0 32_768))

abbrev pub WriteInOrder : Type 0
WriteInOrder =
    (n : ℕ) (memory : Memory) (bodies' before after : List ℕ) (answer : Result OctetCount Refusal) → WriteClaim n memory bodies' before after answer
    → WriteOrder n memory (size_of before) answer

-- what is lent suffices for an accepted object: places for its records, a store for its texts and values, a room for its normal form, which isn't above 32,768
pub record Suffices (lent : Lent) (t : Items) : Type 0 where
  pub records : count t ≤ lent.records
  pub store : length (store_of t) ≤ lent.store.0
  pub room : length (normal_of t) ≤ lent.room.0
  pub object : length (normal_of t) ≤ 32_768

-- else 14 where the places don't suffice, and 15 where they do and something else doesn't
pub data Lacks (lent : Lent) (t : Items) : Refusal → Type 0 where
  fourteen : lent.records < count t → Lacks lent t (refusal 14 0)
  fifteen : count t ≤ lent.records → (Suffices lent t → ⊥) → Lacks lent t (refusal 15 0)

-- normalise: 1 to 13 exactly when the object is refused so; 14 and 15 exactly when it is accepted and that is lacking; else the octets of its normal form
pub record NormaliseOrder (judged : Judged) (lent : Lent) (answer : Result OctetCount Refusal) : Type 0 where
  pub of_object : (r : Refusal) → r.number ≤ 13 → (answer ≡ Err r) ↔ (judged ≡ refused r)
  pub lacking : (r : Refusal) → 14 ≤ r.number → (answer ≡ Err r) ↔ ((t : Items) × (judged ≡ accepted t) × Lacks lent t r)
  pub octets : (k : OctetCount) → (answer ≡ Ok k) ↔ ((t : Items) × (judged ≡ accepted t) × (k ≡ size_of (normal_of t)) × Suffices lent t)

abbrev pub NormaliseInOrder : Type 0
NormaliseInOrder =
    (object : List ℕ) (memory memory' : Memory) (room room' : List ℕ) (answer : Result OctetCount Refusal)
    → NormaliseClaim object memory memory' room room' answer
    → NormaliseOrder (judge object) (lent_by memory room) answer

-- same: the first object's refusal exactly when it has one; the second's exactly when it has one and the first is accepted
pub record SameOrder (judged_a judged_b : Judged) (answer : Result Bool SameRefusal) : Type 0 where
  pub of_first : (r : Refusal) → (answer ≡ Err (First r)) ↔ (judged_a ≡ refused r)
  pub of_second : (r : Refusal) → (answer ≡ Err (Second r)) ↔ ((t : Items) × (judged_a ≡ accepted t) × (judged_b ≡ refused r))

abbrev pub SameInOrder : Type 0
SameInOrder = (a b : List ℕ) (answer : Result Bool SameRefusal) → answer ≡ same_answer (judge a) (judge b) → SameOrder (judge a) (judge b) answer

-- ---- the leaves that put octets into lent octets. They have no number of document 01, but one answer for each way to end

-- octets that are to stand in lent octets from a place on: they stand there, and the answer is the place behind them; or they have no room, or aren't valid, and
-- the lent octets are as they were. The three exclude each other
pub data PutEnds (valid : Bool) (octets : List ℕ) (at : ℕ) (before after : List ℕ) : Result ℕ PutError → Type 0 where
  put : valid ≡ true → at + length octets ≤ length before → after ≡ sets before at octets → PutEnds valid octets at before after (Ok (at + length octets))
  lacks_room : valid ≡ true → length before < at + length octets → after ≡ before → PutEnds valid octets at before after (Err NoRoom)
  not_valid : valid ≡ false → after ≡ before → PutEnds valid octets at before after (Err Invalid)

-- octets: write_header, put_number. values: Time::put, Bearer::put, put_normal. And those whose octets are always valid: copy_into of octets, expand of text, every
-- call of show, put_item_name and put_item_value of xml
abbrev pub PutCallEnds : Type 0
PutCallEnds =
    (valid : Bool) (octets : List ℕ) (at : ℕ) (before after : List ℕ) (answer : Result ℕ PutError) → Puts valid octets at before after answer
    → PutEnds valid octets at before after answer
