-- What answers are not. A number that meets a call's claim is read back as the call's outcome, so that each wrong outcome that is refuted of a call below (reader,
-- writer and compare, proofs/Wrong and its kin) is refuted of the call for C; and wrong ways to pack an outcome, refuted by computation.
use Rattle.std.specs.Prelude.{true, false, Some, None, Ok, Err}
use mathlib.Core.Path.{◌≡◌, refl, ap, ◌∙◌}
use mathlib.Core.List.{List}
use Prim.Native.Nat.{ℕ, ◌+◌, ◌<◌}
use native.Mathlib.Omega.{arith}
use lib.ListN.{get_or}
use Rattle.octets.specs.Counts.{as_octets, size_of}
use Rattle.octets.specs.Numbers.{Octets}
use Rattle.format.specs.Answers.{refusal, wrong_value, read_outcome, edit_outcome, write_outcome, same_outcome, check_outcome}
use Rattle.format.specs.Headers.{headers_of}
use Rattle.format.specs.declared.Refusal.{Refusal}
use Rattle.format.specs.Judge.{judge}
use Rattle.format.specs.Judge.Judged.{refused}
use Rattle.survey.specs.Survey.{needed_of}
use Rattle.survey.specs.Makers.{store_octets}
use Rattle.format.specs.Calls.{Lists, places, judge_answer, read_answer, span_of, write_answer, normal_answer, edit_answer}
use Rattle.format.specs.Same.{same_answer}
use Rattle.format.specs.State.{Memory, tree_in, tree_held}
use Rattle.format.specs.declared.SameRefusal.TheVariants.{First, Second}
use Rattle.state.specs.Taking.{lent_by, taken_in}
use Rattle.edits.specs.Tree.{Edit}
use Rattle.edits.specs.Calls.{edited_in}
use Rattle.edits.specs.Runs.{BringsOctets}
use Rattle.pocket.specs.Table.{data_type}
use Rattle.pocket.specs.Gate.{gate_of}
use Rattle.fold.specs.Packed.{packed as folded_object}
use Rattle.fold.specs.Calls.{check_answer, pack_answer}
use Rattle.merge.specs.declared.Services.{Services}
use Rattle.merge.specs.Calls.{outcome, answer_of, merge_outcome, records_size}
use Rattle.merge.specs.declared.MergeRefusal.TheVariants.{Basic, Advanced, Neither}
use Rattle.xml.specs.Export.{export_of, export_answer}
use Rattle.spi_c.specs.Packed.{packed, packed_outcome, outcome_in, packed_same, same_in, packed_merge, merge_in, packed_span, packed_sizes, span_in}
use Rattle.spi_c.specs.Claims.{ReadsC, ScansC, SpansC, WritesC, NormalisesC, TakesInC, EditsC, WritesStateC, GatesC, SameC, room_for, ExportsC, ChecksPackedC, PacksC, packed_needs, SizesC, MergesC}
use Rattle.spi_c.proofs.Packing.{span-back}
use Rattle.spi_c.proofs.Told.{told_back, told-same-back, told-merge-back, read_told, scan-told, write-told, normal-told, taken-told, edit-told, same-told, gate-told, export-told, check-told, pack-told, merge-told}
use Rattle.spi_c.proofs.Calls.{span_small}

-- ---- each call's number, read back
pub read_back : (object : List ℕ) (before after : Lists) (a : ℕ) → ReadsC object before after a → outcome_in a ≡ read_outcome (read_answer (places before) (headers_of object) (judge object))
read_back object before after a c = ap outcome_in c.answers ∙ told_back (read_told (places before) object)

pub span-back-of : (object starts sizes : List ℕ) (i a : ℕ) → get_or starts i 0 < 0x1_0000 → get_or sizes i 0 < 0x1_0000 → SpansC object starts sizes i a → span_in a ≡ span_of object starts sizes i
span-back-of object starts sizes i a f g c = ap span_in c.answers ∙ span-back (span_of object starts sizes i) (span_small object starts sizes i f g (span_of object starts sizes i) refl)

pub write-back : (n : ℕ) (m : Memory) (bodies' before after : List ℕ) (a : ℕ) → WritesC n m bodies' before after a
    → outcome_in a ≡ write_outcome (write_answer (size_of before) (tree_in n m))
write-back n m bodies' before after a c = ap outcome_in c.answers ∙ told_back (write-told (size_of before) (tree_in n m))

pub normalise-back : (object : List ℕ) (m m' : Memory) (room room' : List ℕ) (a : ℕ) → NormalisesC object m m' room room' a
    → outcome_in a ≡ write_outcome (normal_answer (lent_by m room) (judge object))
normalise-back object m m' room room' a c = ap outcome_in c.answers ∙ told_back (normal-told (lent_by m room) object)

pub take-in-back : (object : List ℕ) → Octets object → (m m' : Memory) (a : ℕ) → TakesInC object m m' a
    → outcome_in a ≡ edit_outcome (edit_answer (taken_in (as_octets 32_768) m (judge object)))
take-in-back object os m m' a c = ap outcome_in c.answers ∙ told_back (taken-told (as_octets 32_768) m object os)

pub edit-back : (e : Edit) (n : ℕ) (m m' : Memory) → Octets m.store → BringsOctets e → (a : ℕ) → EditsC e n m m' a
    → outcome_in a ≡ edit_outcome (edit_answer (edited_in m e (tree_held n m)))
edit-back e n m m' os b a c = ap outcome_in c.answers ∙ told_back (edit-told e n m os b)

pub write-state-back : (n : ℕ) (m : Memory) (before after : List ℕ) (a : ℕ) → WritesStateC n m before after a → outcome_in a ≡ write_outcome (write_answer (size_of before) (tree_held n m))
write-state-back n m before after a c = ap outcome_in c.answers ∙ told_back (write-told (size_of before) (tree_held n m))

pub same_back : (a b : List ℕ) (n : ℕ) → SameC a b n → same_in n ≡ same_outcome (same_answer (judge a) (judge b))
same_back a b n c = ap same_in c.answers ∙ told-same-back (same-told a b)

pub scan-back : (object : List ℕ) (a : ℕ) → ScansC object a → outcome_in a ≡ read_outcome (judge_answer (headers_of object) (judge object))
scan-back object a c = ap outcome_in c.answers ∙ told_back (scan-told object)

pub gate-back : (object : List ℕ) (number a : ℕ) → GatesC object number a → outcome_in a ≡ check_outcome (gate_of (data_type number) object)
gate-back object number a c = ap outcome_in c.answers ∙ told_back (gate-told (data_type number) object)

pub export-back : (object before after : List ℕ) (a : ℕ) → ExportsC object before after a → outcome_in a ≡ write_outcome (export_answer (room_for before) (export_of object (judge object)))
export-back object before after a c = ap outcome_in c.answers ∙ told_back (export-told object (room_for before) (omega arith))

pub check-packed-back : (normal proposed : List ℕ) (a : ℕ) → ChecksPackedC normal proposed a → outcome_in a ≡ check_outcome (check_answer normal proposed)
check-packed-back normal proposed a c = ap outcome_in c.answers ∙ told_back (check-told normal proposed)

pub pack-back : (object before after : List ℕ) (a : ℕ) → PacksC object before after a → outcome_in a ≡ write_outcome (pack_answer (size_of before) (folded_object object))
pack-back object before after a c = ap outcome_in c.answers ∙ told_back (pack-told (size_of before) (folded_object object))

pub merge-back : (by : Services) (basic advanced : List ℕ) → Octets basic → Octets advanced → (m m' : Memory) (room room' : List ℕ) (a : ℕ)
    → MergesC by basic advanced m m' room room' a → merge_in a ≡ merge_outcome (answer_of (outcome by (lent_by m room) (judge basic) (judge advanced)))
merge-back by basic advanced os ps m m' room room' a c = ap merge_in c.answers ∙ told-merge-back (merge-told by (lent_by m room) basic advanced os ps)

-- ---- what an object needs: of one that is refused, something; store and normal form exchanged; nothing told where the normal form is too long
pub needs-refused : (object : List ℕ) (r : Refusal) → judge object ≡ refused r → SizesC object 2 → ⊥
unfolding packed_needs needed_of
needs-refused object r h c = let e : ◌≡◌ {A = ℕ} 2 0 = c.answers ∙ ap (λ j. packed_needs (needed_of j)) h in omega arith

pub sizes-exchanged : packed_sizes (Some (store_octets (as_octets 5) (as_octets 6))) ≡ packed_sizes (Some (store_octets (as_octets 6) (as_octets 5))) → ⊥
unfolding packed_sizes packed_span
sizes-exchanged e = omega arith

pub too-long-untold : packed_sizes None ≡ 0 → ⊥
unfolding packed_sizes
too-long-untold e = omega arith

-- ---- a refusal told by its place alone, as if it were a count; a count told as a refusal
pub refusal-unnumbered : packed_outcome (read_outcome (Err (refusal 13 412))) ≡ 412 → ⊥
unfolding packed_outcome packed
refusal-unnumbered e = omega arith

pub count-refused : packed_outcome (read_outcome (Ok (record { records = 7; items = 9 }))) ≡ packed 7 0 0 0 → ⊥
unfolding packed_outcome packed
count-refused e = omega arith

-- ---- the items left out; told beside the records in one count
pub items-left-out : packed_outcome (read_outcome (Ok (record { records = 7; items = 9 }))) ≡ 7 → ⊥
unfolding packed_outcome packed
items-left-out e = omega arith

pub items-added :
    packed_outcome (read_outcome (Ok (record { records = 7; items = 9 }))) ≡ packed_outcome (read_outcome (Ok (record { records = 16; items = 0 }))) → ⊥
unfolding packed_outcome packed
items-added e = omega arith

-- ---- the first object named for the second; a refusal told as two meanings; different told as same
pub first-named : packed_same (same_outcome (Err (Second (refusal 2 0)))) ≡ packed_same (same_outcome (Err (First (refusal 2 0)))) → ⊥
unfolding packed_same packed
first-named e = omega arith

pub refusal-different : packed_same (same_outcome (Err (First (refusal 2 0)))) ≡ packed_same (same_outcome (Ok false)) → ⊥
unfolding packed_same packed
refusal-different e = omega arith

pub same-different : packed_same (same_outcome (Ok true)) ≡ packed_same (same_outcome (Ok false)) → ⊥
unfolding packed_same packed
same-different e = omega arith

-- ---- of merging: Basic named for Advanced, or for both together; the records of memory left out, or told as octets of the room
pub basic-named : packed_merge (merge_outcome (Err (Advanced (refusal 2 0)))) ≡ packed_merge (merge_outcome (Err (Basic (refusal 2 0)))) → ⊥
unfolding packed_merge packed
basic-named e = omega arith

pub both-named : packed_merge (merge_outcome (Err (Neither (refusal 20 0)))) ≡ packed_merge (merge_outcome (Err (Basic (refusal 20 0)))) → ⊥
unfolding packed_merge packed
both-named e = omega arith

pub records-left-out : packed_merge (merge_outcome (Ok (records_size 3 (as_octets 8)))) ≡ 8 → ⊥
unfolding packed_merge packed
records-left-out e = omega arith

pub records-as-octets : packed_merge (merge_outcome (Ok (records_size 3 (as_octets 8)))) ≡ packed_merge (merge_outcome (Ok (records_size 8 (as_octets 3)))) → ⊥
unfolding packed_merge packed
records-as-octets e = omega arith

-- ---- the field of a time left out; the field told as part of the place
pub field-left-out : packed_outcome (read_outcome (Err (wrong_value 412 3))) ≡ packed_outcome (read_outcome (Err (refusal 9 412))) → ⊥
unfolding packed_outcome packed
field-left-out e = omega arith

pub field-in-place : packed_same (same_outcome (Err (First (wrong_value 412 3)))) ≡ packed_same (same_outcome (Err (First (refusal 9 (412 + 3))))) → ⊥
unfolding packed_same packed
field-in-place e = omega arith

-- ---- start and size changed round; the end told for the size
pub span-turned : packed_span (record { start = 4; size = 2 }) ≡ packed_span (record { start = 2; size = 4 }) → ⊥
unfolding packed_span
span-turned e = omega arith

pub span-end-told : packed_span (record { start = 4; size = 2 }) ≡ packed_span (record { start = 4; size = 6 }) → ⊥
unfolding packed_span
span-end-told e = omega arith
