-- What each public call on objects and records answers, and what each lent list then holds (document 01, Records and meaning, Refusal numbers). On a refusal that is
-- what it held before; on success what is handed out is laid over it. The calls that compare are lent nothing: specs/Same has their answers.
use Rattle.std.specs.Prelude.{◌≡◌, Bool, cond, ◌&&◌, List, [], ◌∷◌, ◌++◌, ℕ, suc, ◌+◌, min, leb, ltb, length, take, drop, get_or, set, Result, Ok, Err}
use Rattle.std.proofs.Math.Option.{Option, none, some}
use Rattle.octets.specs.declared.counts.Octets.{Octets as OctetCount, Octets}
use Rattle.octets.specs.Counts.{as_octets, size_of, octets_within}
use Rattle.format.specs.declared.Record.{Record}
use Rattle.octets.specs.declared.Span.{Span}
use Rattle.format.specs.declared.Counts.{Counts}
use Rattle.format.specs.Answers.{refusal}
use Rattle.format.specs.Tree.{Items, count, records_of}
use Rattle.format.specs.Judge.{Judged, judge}
use Rattle.format.specs.Judge.Judged.{refused, accepted}
use Rattle.format.specs.Headers.{headers_of}
use Rattle.format.specs.Meaning.{means, encode, normal_of}
use Rattle.format.specs.Writer.{rebuilt}
use Rattle.format.specs.Loaded.{store_of}
use Rattle.format.specs.declared.Refusal.{Refusal}

-- the record list as the core keeps it: a list of numbers for each field
pub record Lists : Type 0 where
  pub tags : List ℕ
  pub kinds : List ℕ
  pub depths : List ℕ
  pub parents : List ℕ
  pub starts : List ℕ
  pub sizes : List ℕ

-- the shortest list gives the places
unfoldable pub places : Lists → ℕ
places l = min (length l.tags) (min (length l.kinds) (min (length l.depths) (min (length l.parents) (min (length l.starts) (length l.sizes)))))

-- the record of a number
abbrev pub row : Lists → ℕ → Record
row l i =
    record { tag = get_or l.tags i 0; kind = get_or l.kinds i 0; depth = get_or l.depths i 0; parent = get_or l.parents i 0; start = get_or l.starts i 0; size = get_or l.sizes i 0 }

-- one record put at its number
abbrev pub put : ℕ → Record → Lists → Lists
put i r l =
    record { tags = set l.tags i r.tag; kinds = set l.kinds i r.kind; depths = set l.depths i r.depth; parents = set l.parents i r.parent; starts = set l.starts i r.start; sizes = set l.sizes i r.size }

-- and whole or not at all: where one list has no such place, every list stays as it was
unfoldable pub put_whole : ℕ → Record → Lists → Lists
put_whole i r l = cond (ltb i (places l)) (put i r l) l

-- records laid over what the lists hold, from a number on; what lies beyond stays
unfoldable pub lay : ℕ → List Record → Lists → Lists
lay i [] l = l
lay i (r ∷ rs) l = lay (suc i) rs (put i r l)

-- what is counted where octets with so many headers are accepted: records by the tree, items judged by the framing (change request 2026-09)
abbrev pub counts_of : (headers : ℕ) → Items → Counts
counts_of h t = record { records = count t; items = h }

-- judging alone, with no list lent, octets with so many headers: the refusal of the judgement, else what is counted
unfoldable pub judge_answer : (headers : ℕ) → Judged → Result Counts Refusal
judge_answer h (refused r) = Err r
judge_answer h (accepted t) = Ok (counts_of h t)

-- taking in and editing, by what they come to: the refusal, else how many records the tree has that memory then holds
unfoldable pub edit_answer : Judged → Result ℕ Refusal
edit_answer (refused r) = Err r
edit_answer (accepted t) = Ok (count t)

-- read: the refusal of the judgement, else 14 where there are fewer places than records, else the records
unfoldable pub read_answer : (places headers : ℕ) → Judged → Result Counts Refusal
read_answer n h (refused r) = Err r
read_answer n h (accepted t) = cond (leb (count t) n) (Ok (counts_of h t)) (Err (refusal 14 0))

-- the records that are handed out
unfoldable pub read_records : ℕ → Judged → List Record
read_records n (refused r) = []
read_records n (accepted t) = cond (leb (count t) n) (records_of t) []

pub record ReadClaim (object : List ℕ) (before after : Lists) (answer : Result Counts Refusal) : Type 0 where
  pub answers : answer ≡ read_answer (places before) (headers_of object) (judge object)
  pub leaves : after ≡ lay 0 (read_records (places before) (judge object)) before

-- read_at_most: the same with no more places than the caller says
pub record ReadAtMostClaim (object : List ℕ) (most : ℕ) (before after : Lists) (answer : Result Counts Refusal) : Type 0 where
  pub answers : answer ≡ read_answer (min most (places before)) (headers_of object) (judge object)
  pub leaves : after ≡ lay 0 (read_records (min most (places before)) (judge object)) before

-- read_records: the same with a slice of records too, whose length counts among the places; the records stand in it before what lay behind them
pub record ReadRecordsClaim (object : List ℕ) (before after : Lists) (slice slice' : List Record) (answer : Result Counts Refusal) : Type 0 where
  pub answers : answer ≡ read_answer (min (length slice) (places before)) (headers_of object) (judge object)
  pub leaves : after ≡ lay 0 (read_records (min (length slice) (places before)) (judge object)) before
  pub fills : slice' ≡ read_records (min (length slice) (places before)) (judge object) ++ drop (length (read_records (min (length slice) (places before)) (judge object))) slice

-- span: where the body of a record lies; the part of length 0 at the object's start for a number that the lists don't have or a span outside the object
unfoldable pub span_of : (object starts sizes : List ℕ) → ℕ → Span
span_of object starts sizes i =
    let inside = ltb i (min (length starts) (length sizes)) && leb (get_or starts i 0 + get_or sizes i 0) (length object) in
    cond inside (record { start = get_or starts i 0; size = get_or sizes i 0 }) (record { start = 0; size = 0 })

-- body: that part of the object
unfoldable pub body_at : List ℕ → Span → List ℕ
body_at object s = take s.size (drop s.start object)

-- 15: the octets don't fit the room or are more than an object may have
unfoldable pub roomy : OctetCount → List ℕ → Bool
roomy room o = octets_within (size_of o) (as_octets (min room.0 32_768))

-- write: 16 where there are more records than places or they aren't a well-formed tree, else 15, else the octets of its normal form
unfoldable pub tree_given : ℕ → Lists → List ℕ → Option Items
tree_given n l lent = cond (leb n (places l)) (rebuilt (row l) n lent) none

unfoldable pub write_answer : OctetCount → Option Items → Result Octets Refusal
write_answer room none = Err (refusal 16 0)
write_answer room (some t) = cond (roomy room (encode (means [] t))) (Ok (size_of (encode (means [] t)))) (Err (refusal 15 0))

unfoldable pub write_octets : OctetCount → Option Items → List ℕ
write_octets room none = []
write_octets room (some t) = cond (roomy room (encode (means [] t))) (encode (means [] t)) []

-- what is lent to normalise: how many places for records, and how many octets of a store for texts and values and of a room
pub record Lent : Type 0 where
  pub records : ℕ
  pub store : OctetCount
  pub room : OctetCount

unfoldable pub stored_within : Lent → Items → Bool
stored_within lent t = octets_within (size_of (store_of t)) lent.store && roomy lent.room (normal_of t)

-- an accepted object that fits all that is lent
unfoldable pub fits_lent : Lent → Items → Bool
fits_lent lent t = leb (count t) lent.records && stored_within lent t

-- 14 where the places don't suffice, 15 where the store or the room doesn't
unfoldable pub misfit : Lent → Items → Result Octets Refusal
misfit lent t = cond (leb (count t) lent.records) (Err (refusal 15 0)) (Err (refusal 14 0))

-- normalise: the refusal of the judgement, else 14, else 15, else the octets of the normal form
unfoldable pub normal_answer : Lent → Judged → Result Octets Refusal
normal_answer lent (refused r) = Err r
normal_answer lent (accepted t) = cond (fits_lent lent t) (Ok (size_of (normal_of t))) (misfit lent t)

-- what a judgement hands out where it accepts an object that fits, and nothing otherwise
unfoldable pub handed : {A : Type 0} → Lent → (Items → List A) → Judged → List A
handed lent f (refused r) = []
handed lent f (accepted t) = cond (fits_lent lent t) (f t) []
