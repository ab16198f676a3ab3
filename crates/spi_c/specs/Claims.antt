-- What each call for C answers, and what each lent list then holds: the claims of format's calls, with the answer as one number.
use Rattle.std.specs.Prelude.{◌≡◌, Bool, true, false, List, ℕ, min, length, Result, Ok, Err}
use Rattle.std.proofs.lemmas.List.Edits.{sets}
use Rattle.octets.specs.declared.counts.Octets.{Octets as OctetCount}
use Rattle.octets.specs.Counts.{as_octets, size_of}
use Rattle.format.specs.Answers.{read_outcome, edit_outcome, write_outcome, same_outcome, check_outcome}
use Rattle.format.specs.Judge.{judge, Judged}
use Rattle.format.specs.Headers.{headers_of}
use Rattle.format.specs.Calls.{Lists, places, judge_answer, read_answer, ReadClaim, span_of, write_answer, normal_answer, edit_answer}
use Rattle.format.specs.Same.{same_answer}
use Rattle.format.specs.State.{Memory, tree_in, tree_held}
use Rattle.format.specs.declared.Refusal.{Refusal}
use Rattle.state.specs.Taking.{lent_by, NormaliseClaim, taken_in, Leaves, WriteClaim, WriteStateClaim}
use Rattle.edits.specs.Tree.{Edit}
use Rattle.edits.specs.Calls.{edited_in}
use Rattle.pocket.specs.Table.{data_type}
use Rattle.pocket.specs.Gate.{gate_of}
use Rattle.fold.specs.Packed.{packed as folded_object}
use Rattle.fold.specs.Calls.{check_answer, pack_answer, PackClaim}
use Rattle.merge.specs.declared.Services.{Services}
use Rattle.merge.specs.declared.Services.TheVariants.{ByTag, ByBearers}
use Rattle.merge.specs.Calls.{outcome, answer_of, MergeClaim, merge_outcome}
use Rattle.xml.specs.Export.{export_of, export_answer, export_octets}
use Rattle.survey.specs.Survey.{needed_of}
use Rattle.survey.specs.declared.Needs.{Needs}
use Rattle.spi_c.specs.Packed.{packed_outcome, packed_same, packed_merge, packed_span, packed_sizes}

pub record ReadsC (object : List ℕ) (before after : Lists) (a : ℕ) : Type 0 where
  pub answers : a ≡ packed_outcome (read_outcome (read_answer (places before) (headers_of object) (judge object)))
  pub leaves : ReadClaim object before after (read_answer (places before) (headers_of object) (judge object))

-- reading with no list (change request 2026-14)
pub record ScansC (object : List ℕ) (a : ℕ) : Type 0 where
  pub answers : a ≡ packed_outcome (read_outcome (judge_answer (headers_of object) (judge object)))

-- what an object needs; nothing where it is refused (change request 2026-09)
unfoldable pub packed_needs : Result Needs Refusal → ℕ
packed_needs (Err r) = 0
packed_needs (Ok needs) = packed_sizes needs.sizes

pub record SizesC (object : List ℕ) (a : ℕ) : Type 0 where
  pub answers : a ≡ packed_needs (needed_of (judge object))

pub record SpansC (object starts sizes : List ℕ) (number a : ℕ) : Type 0 where
  pub answers : a ≡ packed_span (span_of object starts sizes number)

pub record WritesC (n : ℕ) (m : Memory) (bodies' before after : List ℕ) (a : ℕ) : Type 0 where
  pub answers : a ≡ packed_outcome (write_outcome (write_answer (size_of before) (tree_in n m)))
  pub leaves : WriteClaim n m bodies' before after (write_answer (size_of before) (tree_in n m))

pub record NormalisesC (object : List ℕ) (m m' : Memory) (room room' : List ℕ) (a : ℕ) : Type 0 where
  pub answers : a ≡ packed_outcome (write_outcome (normal_answer (lent_by m room) (judge object)))
  pub leaves : NormaliseClaim object m m' room room' (normal_answer (lent_by m room) (judge object))

pub record SameC (a b : List ℕ) (answer : ℕ) : Type 0 where
  pub answers : answer ≡ packed_same (same_outcome (same_answer (judge a) (judge b)))

-- a tree that is to lie in lent memory: the number of its records, or the refusal, and what memory then holds
pub record LeavesC (outcome : Judged) (m m' : Memory) (a : ℕ) : Type 0 where
  pub answers : a ≡ packed_outcome (edit_outcome (edit_answer outcome))
  pub leaves : Leaves outcome m m' (edit_answer outcome)

-- an object is taken in to be edited, so its normal form has no more octets than an object may have
abbrev pub TakesInC : (object : List ℕ) (m m' : Memory) (a : ℕ) → Type 0
TakesInC object m m' a = LeavesC (taken_in (as_octets 32_768) m (judge object)) m m' a

abbrev pub EditsC : (e : Edit) (n : ℕ) (m m' : Memory) (a : ℕ) → Type 0
EditsC e n m m' a = LeavesC (edited_in m e (tree_held n m)) m m' a

pub record WritesStateC (n : ℕ) (m : Memory) (before after : List ℕ) (a : ℕ) : Type 0 where
  pub answers : a ≡ packed_outcome (write_outcome (write_answer (size_of before) (tree_held n m)))
  pub leaves : WriteStateClaim n m before after (write_answer (size_of before) (tree_held n m))

pub record GatesC (object : List ℕ) (number : ℕ) (a : ℕ) : Type 0 where
  pub answers : a ≡ packed_outcome (check_outcome (gate_of (data_type number) object))

-- of the room for XML, which has no limit of its own, as many octets count as an answer can tell: 2^40 less one
abbrev pub room_for : List ℕ → OctetCount
room_for room = as_octets (min (length room) 0xFF_FFFF_FFFF)

pub record ExportsC (object before after : List ℕ) (a : ℕ) : Type 0 where
  pub answers : a ≡ packed_outcome (write_outcome (export_answer (room_for before) (export_of object (judge object))))
  pub leaves : after ≡ sets before 0 (export_octets (room_for before) (export_of object (judge object)))

-- the check of a packed object, and the plain packer (request 2026-11)
pub record ChecksPackedC (normal packed : List ℕ) (a : ℕ) : Type 0 where
  pub answers : a ≡ packed_outcome (check_outcome (check_answer normal packed))

pub record PacksC (object before after : List ℕ) (a : ℕ) : Type 0 where
  pub answers : a ≡ packed_outcome (write_outcome (pack_answer (size_of before) (folded_object object)))
  pub leaves : PackClaim object before after (pack_answer (size_of before) (folded_object object))

-- merging two objects (request 2026-10); by what services are told apart is a flag
abbrev pub services_of : (bearers : Bool) → Services
services_of true = ByBearers
services_of false = ByTag

pub record MergesC (by : Services) (basic advanced : List ℕ) (m m' : Memory) (room room' : List ℕ) (a : ℕ) : Type 0 where
  pub answers : a ≡ packed_merge (merge_outcome (answer_of (outcome by (lent_by m room) (judge basic) (judge advanced))))
  pub leaves : MergeClaim by basic advanced m m' room room' (answer_of (outcome by (lent_by m room) (judge basic) (judge advanced)))
