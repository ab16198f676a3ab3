-- Only one answer: two answers that meet a call's claim, with what is lent as they leave it, are the same (document 01, What the auditor will try). Each public
-- call's `ensures` is its claim, and each is named over one of these statements, so nothing is left open in what a call answers and leaves.
use Rattle.std.specs.Prelude.{◌≡◌, Bool, List, ℕ, Result}
use Rattle.octets.specs.declared.counts.Octets.{Octets as OctetCount}
use Rattle.octets.specs.Puts.{Puts}
use Rattle.octets.specs.declared.PutError.{PutError}
use Rattle.text.specs.Tokens.{Entries}
use Rattle.text.specs.Index.{Indexes}
use Rattle.text.specs.Weighing.{Marks, Widths, Shows}
use Rattle.format.specs.declared.Record.{Record}
use Rattle.format.specs.Calls.{Lists, ReadClaim, ReadAtMostClaim, ReadRecordsClaim}
use Rattle.format.specs.State.{Memory}
use Rattle.format.specs.declared.Counts.{Counts}
use Rattle.format.specs.declared.Refusal.{Refusal}
use Rattle.state.specs.Taking.{WriteClaim, NormaliseClaim, TakeInClaim, WriteStateClaim}
use Rattle.edits.specs.Tree.{Edit}
use Rattle.edits.specs.Calls.{EditClaim}
use Rattle.merge.specs.declared.Services.{Services}
use Rattle.merge.specs.Calls.{MergeClaim}
use Rattle.merge.specs.declared.Merged.{Merged}
use Rattle.merge.specs.declared.MergeRefusal.{MergeRefusal}
use Rattle.fold.specs.Calls.{PackClaim}
use Rattle.xml.specs.Export.{ExportClaim}
use Rattle.spi_c.specs.Claims.{ReadsC, SizesC, ScansC, SpansC, WritesC, NormalisesC, TakesInC, EditsC, WritesStateC, GatesC, SameC, ExportsC, ChecksPackedC, PacksC, MergesC}

-- every call whose claim is one equation for its answer, and RecordsMut::put of format, whose equation is for the lists that it is lent; no other of them is lent
-- anything to write.
-- octets: read_header, item_at, header_size, read_number. text: check, is_token, is_table, is_covered, weigh, expanded_size. values: is_attribute, known_kind,
-- is_default, Time::take, valid, canonical, local, size, Bearer::take, valid, size, fits_kind, wrong_field, normal_size. format: Records::places, at,
-- RecordsMut::as_records, places, at_or, kind_of, refuse, Outcome::from of each answer, SameOutcome::from. tags: is_top, is_allowed, latest_of, stage_after,
-- is_within_depth, is_short, has_bit, with_bit, listed_as, holds_items, holds_text. judge: judge. scan: scan. recording: open, step. reader: span, body.
-- records: is_well_formed. survey: survey, needs_of, find_item, find_first, table_of, written_as. pocket: gate, data_type. compare: same, is_normal,
-- same_texts, same_bodies, same_octets, same_attribute, same_attributes, same_cdata, same_child, same_children, find_counted, next_child. state: Memory::of,
-- held, framed_size, item_adds, added_by. fold: check. merge: MergeOutcome::from. merging: find_conflict. spi_c: spi_check_text.
-- For body and table_of, which hand back a part of the caller's octets, the equation is for what the part holds
abbrev pub OneAnswer : Type 1
OneAnswer = (A : Type 0) (claimed one other : A) → one ≡ claimed → other ≡ claimed → one ≡ other

-- read
abbrev pub OneRead : Type 0
OneRead =
    (object : List ℕ) (before one other : Lists) (answer answer' : Result Counts Refusal)
    → ReadClaim object before one answer → ReadClaim object before other answer'
    → (answer ≡ answer') × (one ≡ other)

-- read_at_most
abbrev pub OneReadAtMost : Type 0
OneReadAtMost =
    (object : List ℕ) (most : ℕ) (before one other : Lists) (answer answer' : Result Counts Refusal)
    → ReadAtMostClaim object most before one answer → ReadAtMostClaim object most before other answer'
    → (answer ≡ answer') × (one ≡ other)

-- read_records
abbrev pub OneReadRecords : Type 0
OneReadRecords =
    (object : List ℕ) (before one other : Lists) (slice one_slice other_slice : List Record) (answer answer' : Result Counts Refusal)
    → ReadRecordsClaim object before one slice one_slice answer → ReadRecordsClaim object before other slice other_slice answer'
    → (answer ≡ answer') × (one ≡ other) × (one_slice ≡ other_slice)

-- write
abbrev pub OneWrite : Type 0
OneWrite =
    (n : ℕ) (memory : Memory) (one_bodies other_bodies before one other : List ℕ) (answer answer' : Result OctetCount Refusal)
    → WriteClaim n memory one_bodies before one answer → WriteClaim n memory other_bodies before other answer'
    → (answer ≡ answer') × (one_bodies ≡ other_bodies) × (one ≡ other)

-- normalise
abbrev pub OneNormalise : Type 0
OneNormalise =
    (object : List ℕ) (memory one_memory other_memory : Memory) (room one_room other_room : List ℕ) (answer answer' : Result OctetCount Refusal)
    → NormaliseClaim object memory one_memory room one_room answer → NormaliseClaim object memory other_memory room other_room answer'
    → (answer ≡ answer') × (one_memory ≡ other_memory) × (one_room ≡ other_room)

-- take_in
abbrev pub OneTakeIn : Type 0
OneTakeIn =
    (object : List ℕ) (most : OctetCount) (before one other : Memory) (answer answer' : Result ℕ Refusal)
    → TakeInClaim object most before one answer → TakeInClaim object most before other answer'
    → (answer ≡ answer') × (one ≡ other)

-- replace_text, remove, insert
abbrev pub OneEdit : Type 0
OneEdit =
    (e : Edit) (n : ℕ) (before one other : Memory) (answer answer' : Result ℕ Refusal)
    → EditClaim e n before one answer → EditClaim e n before other answer'
    → (answer ≡ answer') × (one ≡ other)

-- write_state
abbrev pub OneWriteState : Type 0
OneWriteState =
    (n : ℕ) (m : Memory) (before one other : List ℕ) (answer answer' : Result OctetCount Refusal)
    → WriteStateClaim n m before one answer → WriteStateClaim n m before other answer'
    → (answer ≡ answer') × (one ≡ other)

-- export
abbrev pub OneExport : Type 0
OneExport =
    (object before one other : List ℕ) (answer answer' : Result OctetCount Refusal)
    → ExportClaim object before one answer → ExportClaim object before other answer'
    → (answer ≡ answer') × (one ≡ other)

-- merge
abbrev pub OneMerge : Type 0
OneMerge =
    (by : Services) (basic advanced : List ℕ) (memory one_memory other_memory : Memory) (room one_room other_room : List ℕ)
    (answer answer' : Result Merged MergeRefusal)
    → MergeClaim by basic advanced memory one_memory room one_room answer → MergeClaim by basic advanced memory other_memory room other_room answer'
    → (answer ≡ answer') × (one_memory ≡ other_memory) × (one_room ≡ other_room)

-- pack
abbrev pub OnePack : Type 0
OnePack =
    (object before one other : List ℕ) (answer answer' : Result OctetCount Refusal)
    → PackClaim object before one answer → PackClaim object before other answer'
    → (answer ≡ answer') × (one ≡ other)

-- octets: write_header, put_number, copy_into. text: expand. values: Time::put, Bearer::put, put_normal. show: every call. xml: put_item_name, put_item_value
abbrev pub OnePut : Type 0
OnePut =
    (valid : Bool) (octets : List ℕ) (at : ℕ) (before one other : List ℕ) (answer answer' : Result ℕ PutError)
    → Puts valid octets at before one answer → Puts valid octets at before other answer'
    → (answer ≡ answer') × (one ≡ other)

-- tokens_of: its claim is an equation for each bit of the mask
abbrev pub OneMarks : Type 0
OneMarks = (octets : List ℕ) (one other : ℕ) → Marks one octets → Marks other octets → one ≡ other

-- widths_of: an equation for each of the 32 places
abbrev pub OneWidths : Type 0
OneWidths = (entries : Entries) (one other : List ℕ) → Widths 32 entries one → Widths 32 entries other → one ≡ other

-- characters_of: likewise
abbrev pub OneShows : Type 0
OneShows = (entries : Entries) (one other : List ℕ) → Shows 32 entries one → Shows 32 entries other → one ≡ other

-- index_of
abbrev pub OneIndex : Type 0
OneIndex = (entries : Entries) (one other : List ℕ) → Indexes entries one → Indexes entries other → one ≡ other

-- spi_read, spi_span, spi_write, spi_normalise, spi_take_in, the three edits, spi_write_state, spi_same, spi_gate, spi_export, spi_check_packed, spi_pack: the one number that each answers, and what is lent
-- as above
abbrev pub OneReadC : Type 0
OneReadC =
    (object : List ℕ) (before one other : Lists) (answer answer' : ℕ) → ReadsC object before one answer → ReadsC object before other answer'
    → (answer ≡ answer') × (one ≡ other)

-- spi_sizes
abbrev pub OneSizesC : Type 0
OneSizesC = (object : List ℕ) (answer answer' : ℕ) → SizesC object answer → SizesC object answer' → answer ≡ answer'

abbrev pub OneSpanC : Type 0
OneSpanC = (object starts sizes : List ℕ) (number answer answer' : ℕ) → SpansC object starts sizes number answer → SpansC object starts sizes number answer' → answer ≡ answer'

abbrev pub OneWriteC : Type 0
OneWriteC =
    (n : ℕ) (memory : Memory) (one_bodies other_bodies before one other : List ℕ) (answer answer' : ℕ)
    → WritesC n memory one_bodies before one answer → WritesC n memory other_bodies before other answer'
    → (answer ≡ answer') × (one_bodies ≡ other_bodies) × (one ≡ other)

abbrev pub OneNormaliseC : Type 0
OneNormaliseC =
    (object : List ℕ) (memory one_memory other_memory : Memory) (room one_room other_room : List ℕ) (answer answer' : ℕ)
    → NormalisesC object memory one_memory room one_room answer → NormalisesC object memory other_memory room other_room answer'
    → (answer ≡ answer') × (one_memory ≡ other_memory) × (one_room ≡ other_room)

abbrev pub OneTakeInC : Type 0
OneTakeInC =
    (object : List ℕ) (before one other : Memory) (answer answer' : ℕ) → TakesInC object before one answer → TakesInC object before other answer'
    → (answer ≡ answer') × (one ≡ other)

abbrev pub OneEditC : Type 0
OneEditC =
    (e : Edit) (n : ℕ) (before one other : Memory) (answer answer' : ℕ) → EditsC e n before one answer → EditsC e n before other answer'
    → (answer ≡ answer') × (one ≡ other)

abbrev pub OneWriteStateC : Type 0
OneWriteStateC =
    (n : ℕ) (m : Memory) (before one other : List ℕ) (answer answer' : ℕ) → WritesStateC n m before one answer → WritesStateC n m before other answer'
    → (answer ≡ answer') × (one ≡ other)

abbrev pub OneScanC : Type 0
OneScanC = (object : List ℕ) (answer answer' : ℕ) → ScansC object answer → ScansC object answer' → answer ≡ answer'

abbrev pub OneGateC : Type 0
OneGateC = (object : List ℕ) (number : ℕ) (answer answer' : ℕ) → GatesC object number answer → GatesC object number answer' → answer ≡ answer'

abbrev pub OneSameC : Type 0
OneSameC = (a b : List ℕ) (answer answer' : ℕ) → SameC a b answer → SameC a b answer' → answer ≡ answer'

abbrev pub OneExportC : Type 0
OneExportC =
    (object before one other : List ℕ) (answer answer' : ℕ) → ExportsC object before one answer → ExportsC object before other answer'
    → (answer ≡ answer') × (one ≡ other)

abbrev pub OneCheckPackedC : Type 0
OneCheckPackedC = (form proposed : List ℕ) (answer answer' : ℕ) → ChecksPackedC form proposed answer → ChecksPackedC form proposed answer' → answer ≡ answer'

abbrev pub OnePackC : Type 0
OnePackC =
    (object before one other : List ℕ) (answer answer' : ℕ) → PacksC object before one answer → PacksC object before other answer'
    → (answer ≡ answer') × (one ≡ other)

abbrev pub OneMergeC : Type 0
OneMergeC =
    (by : Services) (basic advanced : List ℕ) (memory one_memory other_memory : Memory) (room one_room other_room : List ℕ) (answer answer' : ℕ)
    → MergesC by basic advanced memory one_memory room one_room answer → MergesC by basic advanced memory other_memory room other_room answer'
    → (answer ≡ answer') × (one_memory ≡ other_memory) × (one_room ≡ other_room)
