-- An example recording and every cut of it, computed: an object with two records, one with a size of 0, one whose body is cut, and the first again. The same
-- lines come from the second program.
use Rattle.std.specs.Prelude.{Err}
use mathlib.Core.Path.{◌≡◌, refl}
use mathlib.Core.Bool.{true, false}
use mathlib.Core.List.{List, [], ◌∷◌, map}
use Prim.Native.Nat.{ℕ}
use native.Mathlib.Omega.{arith}
use lib.ListN.{take}
use Rattle.format.specs.Answers.{refusal}
use Rattle.format.specs.Calls.{read_answer}
use Rattle.format.specs.Same.{same_octets}
use Rattle.show.specs.Digits.{tens, decimal}
use Rattle.show.specs.Lines.{ascii, line}
use Rattle.recording.specs.declared.Next.{Next}
use Rattle.recording.specs.Recording.{mark, announced, whole, stopped, preceded, walk, objects_at, refused_with, recording_of}
use Rattle.recording.specs.Lines.{ok_line, placed, bad_line, answer_line, file_line, answer_lines, end_line, listing, replay, by_read}
use Rattle.recording.specs.Calls.{open_of, short_of, step_of}
use Rattle.octets.specs.Numbers.{among, value, digits}
use Rattle.octets.specs.Header.{header_size, body_size}
use Rattle.text.specs.Text.{layout, token, character, single, goes_on, utf8, text}
use Rattle.text.specs.Tokens.{cut, entries, filled, is_table, entry, or_itself, stands, expanded, present, covers, covered, shown_length}
use Rattle.values.specs.Table.{rows, kind_in, known, attribute}
use Rattle.values.specs.Values.{fits}
use Rattle.format.specs.Tree.{find, kind_of, count, records}
use Rattle.format.specs.Judge.{is_known, is_items, is_tokens, is_text, is_value, wrong_in, is_top, allowed, latest, stage_after, limit, not_above, shown, of_top, rule, value_rule, first, kind_rules, item_rules, own, late, late_before, late_after, broken, within, waits, next, unless, followed, joined, by_kind, items, outermost, judge}

pub example : List ℕ
example = 0x53 ∷ 0x50 ∷ 0x52 ∷ 0x00 ∷ 0x01 ∷ 0x00 ∷ 0x06 ∷ 0x03 ∷ 0x04 ∷ 0x06 ∷ 0x02 ∷ 0x65 ∷ 0x6E ∷ 0x00 ∷ 0x00 ∷ 0x00 ∷ 0x03 ∷ 0x03 ∷ 0x02 ∷ 0xFF ∷ 0x00 ∷ 0x06 ∷ 0x03 ∷ 0x04 ∷ 0x06 ∷ 0x02 ∷ 0x65 ∷ 0x6E ∷ []

pub cuts : map (λ n. replay by_read (take n example)) (0 ∷ 1 ∷ 2 ∷ 3 ∷ 4 ∷ 5 ∷ 6 ∷ 7 ∷ 8 ∷ 9 ∷ 10 ∷ 11 ∷ 12 ∷ 13 ∷ 14 ∷ 15 ∷ 16 ∷ 17 ∷ 18 ∷ 19 ∷ 20 ∷ 21 ∷ 22 ∷ 23 ∷ 24 ∷ 25 ∷ 26 ∷ 27 ∷ 28 ∷ [])
    ≡ map ascii (
    "refused 24 0\n"
    ∷ "refused 24 0\n"
    ∷ "refused 24 0\n"
    ∷ "refused 24 0\n"
    ∷ "refused 24 0\n"
    ∷ ""
    ∷ "refused 24 5\n"
    ∷ "refused 24 5\n"
    ∷ "refused 24 5\n"
    ∷ "refused 24 5\n"
    ∷ "refused 24 5\n"
    ∷ "refused 24 5\n"
    ∷ "refused 24 5\n"
    ∷ "1 ok 2\n"
    ∷ "1 ok 2\nrefused 24 13\n"
    ∷ "1 ok 2\n2 1 0\n"
    ∷ "1 ok 2\n2 1 0\nrefused 24 15\n"
    ∷ "1 ok 2\n2 1 0\nrefused 24 15\n"
    ∷ "1 ok 2\n2 1 0\nrefused 24 15\n"
    ∷ "1 ok 2\n2 1 0\nrefused 24 15\n"
    ∷ "1 ok 2\n2 1 0\n3 3 0\n"
    ∷ "1 ok 2\n2 1 0\n3 3 0\nrefused 24 20\n"
    ∷ "1 ok 2\n2 1 0\n3 3 0\nrefused 24 20\n"
    ∷ "1 ok 2\n2 1 0\n3 3 0\nrefused 24 20\n"
    ∷ "1 ok 2\n2 1 0\n3 3 0\nrefused 24 20\n"
    ∷ "1 ok 2\n2 1 0\n3 3 0\nrefused 24 20\n"
    ∷ "1 ok 2\n2 1 0\n3 3 0\nrefused 24 20\n"
    ∷ "1 ok 2\n2 1 0\n3 3 0\nrefused 24 20\n"
    ∷ "1 ok 2\n2 1 0\n3 3 0\n4 ok 2\n"
    ∷ [])
unfolding among value digits header_size body_size layout token character single goes_on utf8 text cut entries filled is_table entry or_itself stands expanded present covers covered shown_length rows kind_in known attribute fits find kind_of count records is_known is_items is_tokens is_text is_value wrong_in is_top allowed latest stage_after limit not_above shown of_top rule value_rule first kind_rules item_rules own late late_before late_after broken within waits next unless followed joined by_kind items outermost judge mark announced whole stopped preceded walk objects_at refused_with recording_of ok_line placed bad_line answer_line file_line answer_lines end_line listing read_answer same_octets tens decimal ascii line example
cuts = refl

-- ---- lines: the field stands behind every 9, also where it is 0, and behind no other number
pub lines-told :
    (ok_line 1 16 ∷ bad_line 2 (refusal 6 4) ∷ bad_line 3 (record { number = 9; place = 412; field = 2 }) ∷ bad_line 4 (refusal 9 7) ∷ bad_line 5 (record { number = 10; place = 7; field = 2 }) ∷ file_line (refusal 24 412) ∷ [])
    ≡ map ascii ("1 ok 16\n" ∷ "2 6 4\n" ∷ "3 9 412 2\n" ∷ "4 9 7 0\n" ∷ "5 10 7\n" ∷ "refused 24 412\n" ∷ [])
unfolding tens decimal ascii line ok_line placed bad_line file_line
lines-told = refl

-- ---- another mark, another version, and one that says 1 the other way round
pub marks : map open_of ((0x53 ∷ 0x50 ∷ 0x51 ∷ 0x00 ∷ 0x01 ∷ []) ∷ (0x53 ∷ 0x50 ∷ 0x52 ∷ 0x00 ∷ 0x02 ∷ []) ∷ (0x53 ∷ 0x50 ∷ 0x52 ∷ 0x01 ∷ 0x00 ∷ []) ∷ (0x53 ∷ 0x50 ∷ 0x51 ∷ 0x00 ∷ []) ∷ [])
    ≡ Err (refusal 23 0) ∷ Err (refusal 23 0) ∷ Err (refusal 23 0) ∷ Err (refusal 24 0) ∷ []
unfolding open_of mark same_octets
marks = refl

-- ---- wrong answers of step: the size the other way round; an object that isn't whole; an end where a recording is cut; a cut where more may follow
pub size-backwards : step_of (0x01 ∷ 0x00 ∷ 0x61 ∷ []) 0 true ≡ Next.Object 2 1 → ⊥
unfolding step_of short_of announced whole value
size-backwards h = let z : ◌≡◌ {A = ℕ} 0 1 = cc in omega arith

pub object-early : step_of (0x00 ∷ 0x02 ∷ 0x61 ∷ []) 0 false ≡ Next.Object 2 2 → ⊥
unfolding step_of short_of announced whole value
object-early h = let z : ◌≡◌ {A = ℕ} 0 1 = cc in omega arith

pub ends-in-size : step_of (0x00 ∷ []) 0 true ≡ Next.End → ⊥
unfolding step_of short_of announced whole value
ends-in-size h = let z : ◌≡◌ {A = ℕ} 0 1 = cc in omega arith

pub cut-early : step_of (0x00 ∷ []) 0 false ≡ Next.Cut → ⊥
unfolding step_of short_of announced whole value
cut-early h = let z : ◌≡◌ {A = ℕ} 0 1 = cc in omega arith

-- a size of 0 is an object, with no octets
pub empty-object : step_of (0x00 ∷ 0x00 ∷ []) 0 true ≡ Next.Object 2 0
unfolding step_of short_of announced whole value
empty-object = refl
