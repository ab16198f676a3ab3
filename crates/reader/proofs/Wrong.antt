-- Wrong answers of the calls, refuted at an input: what a slip in the definitions or in the code would answer.
use Rattle.std.specs.Prelude.{Result, Ok, Err}
use mathlib.Core.Path.{◌≡◌, refl, sym, ap, ◌∙◌}
use mathlib.Core.List.{List, [], ◌∷◌}
use Prim.Native.Nat.{ℕ}
use native.Mathlib.Omega.{arith}
use lib.ListN.{get_or}
use Rattle.octets.specs.Numbers.{among, value}
use Rattle.octets.specs.Header.{header_size, body_size}
use Rattle.octets.proofs.Tests.{never}
use Rattle.text.specs.Text.{layout, token, character, single, goes_on, utf8, text}
use Rattle.text.specs.Tokens.{entry, or_itself, stands, expanded, present, covers, covered, shown_length}
use Rattle.values.specs.Table.{rows, kind_in, known, attribute}
use Rattle.values.specs.Times.{bits, long_flag, offset_flag, time_of, in_range, is_time, wrong_part, wrong_time}
use Rattle.values.specs.Values.{fits, wrong_field}
use Rattle.format.specs.declared.Record.{Record}
use Rattle.format.specs.Answers.{refusal, wrong_value, read_outcome}
use Rattle.format.specs.Tree.{Items, kind_of, count, records}
use Rattle.format.specs.Tree.Items.{end, item}
use Rattle.format.specs.Judge.{is_known, is_items, is_tokens, is_text, is_value, wrong_in, is_top, allowed, latest, stage_after, limit, not_above, shown, of_top, rule, value_rule, first, kind_rules, item_rules, own, late, late_before, late_after, broken, within, waits, next, unless, followed, joined, by_kind, items, outermost, judge}
use Rattle.format.specs.Judge.Judged.{refused, accepted}
use Rattle.format.specs.Headers.{headers_in, headers_of}
use Rattle.format.specs.Calls.{Lists, places, put, lay, read_answer, read_records, ReadClaim, ReadAtMostClaim, span_of, body_at}
use Rattle.format.specs.Lent.{six}
use Rattle.format.specs.declared.Counts.{Counts}
use Rattle.format.specs.declared.Refusal.{Refusal}

-- an element of four octets, and in it one of two (the listing of document 01)
abbrev pub object : List ℕ
object = 0x03 ∷ 0x04 ∷ 0x06 ∷ 0x02 ∷ 0x65 ∷ 0x6E ∷ []

abbrev pub tree : Items
tree = item 0x03 2 (0x06 ∷ 0x02 ∷ 0x65 ∷ 0x6E ∷ []) (item 0x06 4 (0x65 ∷ 0x6E ∷ []) end end) end

pub judged : judge object ≡ accepted tree
unfolding among value header_size body_size layout token character single goes_on utf8 text entry or_itself stands expanded present covers covered shown_length rows kind_in known attribute fits is_known is_items is_tokens is_text is_value wrong_in is_top allowed latest stage_after limit not_above shown of_top rule value_rule first kind_rules item_rules own late late_before late_after broken within waits next unless followed joined by_kind items outermost judge
judged = refl

headed : headers_of object ≡ 2
unfolding headers_in value header_size body_size rows kind_in known attribute is_items
headed = refl

-- a creation time with wrong hours and minutes
abbrev mistimed : List ℕ
mistimed = 0x03 ∷ 0x06 ∷ 0x81 ∷ 0x04 ∷ 0x30 ∷ 0xD4 ∷ 0x06 ∷ 0x3C ∷ []

mistimed-judged : judge mistimed ≡ refused (wrong_value 2 3)
unfolding among value header_size body_size rows kind_in known attribute bits long_flag offset_flag time_of in_range is_time wrong_part wrong_time fits wrong_field is_known is_items is_tokens is_text is_value wrong_in is_top allowed latest stage_after rule value_rule first kind_rules item_rules own late late_before late_after broken within waits next unless followed joined by_kind items outermost judge
mistimed-judged = refl

-- six lists of so many places, and a last one that may be shorter
abbrev ones : List ℕ
ones = 9 ∷ []

abbrev twos : List ℕ
twos = 9 ∷ 9 ∷ []

abbrev threes : List ℕ
threes = 9 ∷ 9 ∷ 9 ∷ []

abbrev pub one : Lists
one = six ones ones ones ones ones ones

abbrev uneven : Lists
uneven = six twos twos twos twos twos ones

abbrev pub two : Lists
two = six twos twos twos twos twos twos

abbrev three : Lists
three = six threes threes threes threes threes threes

abbrev pub top : Record
top = record { tag = 0x03; kind = 0; depth = 1; parent = 0; start = 2; size = 4 }

abbrev pub inner : Record
inner = record { tag = 0x06; kind = 0; depth = 2; parent = 0; start = 4; size = 2 }

-- what is answered and left, by places
module _ (after : Lists) (r : Result Counts Refusal) where
  with-one : ReadClaim object one after r → (r ≡ Err (refusal 14 0)) × (after ≡ one)
  unfolding read_answer read_records places lay count
  with-one c = (rw judged at c.answers, rw judged at c.leaves)

  with-uneven : ReadClaim object uneven after r → r ≡ Err (refusal 14 0)
  unfolding read_answer places count
  with-uneven c = rw judged at c.answers

  with_two : ReadClaim object two after r → (r ≡ Ok (record { records = 2; items = 2 })) × (after ≡ put 1 inner (put 0 top two))
  unfolding read_answer read_records places lay count records kind_of attribute
  with_two c = (rw (judged, headed) at c.answers, rw judged at c.leaves)

  with-three : ReadClaim object three after r → after ≡ put 1 inner (put 0 top three)
  unfolding read_records places lay count records kind_of attribute
  with-three c = rw judged at c.leaves

-- ---- read: records where there are too few places for them; the longest list for the places; the refusal at the object's end; one record written and then
-- refused
pub read-without-place : (after : Lists) → ReadClaim object one after (Ok (record { records = 2; items = 2 })) → ⊥
read-without-place after c = let h = (with-one after (Ok (record { records = 2; items = 2 })) c).0 in never (cc h)

pub read-longest : (after : Lists) → ReadClaim object uneven after (Ok (record { records = 2; items = 2 })) → ⊥
read-longest after c = let h = with-uneven after (Ok (record { records = 2; items = 2 })) c in never (cc h)

pub read-refused-at-end : (after : Lists) → ReadClaim object one after (Err (refusal 14 6)) → ⊥
read-refused-at-end after c = let z : ◌≡◌ {A = ℕ} 6 0 = ap (λ a. (read_outcome a).place) (with-one after (Err (refusal 14 6)) c).0 in omega arith

pub read-begun : (r : Result Counts Refusal) → ReadClaim object one (put 0 top one) r → ⊥
read-begun r c = let z : ◌≡◌ {A = ℕ} 3 9 = ap (λ l. get_or l.tags 0 0) (with-one (put 0 top one) r c).1 in omega arith

-- the field of a time left out
pub read-without-field : (after : Lists) → ReadClaim mistimed two after (Err (refusal 9 2)) → ⊥
unfolding read_answer
read-without-field after c =
    let h : Err (refusal 9 2) ≡ Err (wrong_value 2 3) = rw mistimed-judged at c.answers in
    let z : ◌≡◌ {A = ℕ} 0 3 = ap (λ a. (read_outcome a).field) h in
    omega arith

-- the top alone, in the count or in the lists; the place of the tag for the start; the number of the record itself for its parent; a place behind the records
-- that is cleared
pub read-top-counted : (after : Lists) → ReadClaim object two after (Ok (record { records = 1; items = 2 })) → ⊥
read-top-counted after c = let z : ◌≡◌ {A = ℕ} 1 2 = ap (λ a. (read_outcome a).count) (with_two after (Ok (record { records = 1; items = 2 })) c).0 in omega arith

pub read-top-alone : (r : Result Counts Refusal) → ReadClaim object two (put 0 top two) r → ⊥
read-top-alone r c = let z : ◌≡◌ {A = ℕ} 9 6 = ap (λ l. get_or l.tags 1 0) (with_two (put 0 top two) r c).1 in omega arith

pub read-tag-place : (after : Lists) (r : Result Counts Refusal) → get_or after.starts 1 0 ≡ 2 → ReadClaim object two after r → ⊥
read-tag-place after r e c = let z : ◌≡◌ {A = ℕ} 4 2 = sym (ap (λ l. get_or l.starts 1 0) (with_two after r c).1) ∙ e in omega arith

pub read-own-parent : (after : Lists) (r : Result Counts Refusal) → get_or after.parents 1 0 ≡ 1 → ReadClaim object two after r → ⊥
read-own-parent after r e c = let z : ◌≡◌ {A = ℕ} 0 1 = sym (ap (λ l. get_or l.parents 1 0) (with_two after r c).1) ∙ e in omega arith

pub read-cleared : (after : Lists) (r : Result Counts Refusal) → get_or after.kinds 2 0 ≡ 0 → ReadClaim object three after r → ⊥
read-cleared after r e c = let z : ◌≡◌ {A = ℕ} 9 0 = sym (ap (λ l. get_or l.kinds 2 0) (with-three after r c)) ∙ e in omega arith

-- the items judged are left out, or only the outermost one is told
pub read-items-untold : (after : Lists) → ReadClaim object two after (Ok (record { records = 2; items = 0 })) → ⊥
read-items-untold after c = let z : ◌≡◌ {A = ℕ} 0 2 = ap (λ a. (read_outcome a).items) (with_two after (Ok (record { records = 2; items = 0 })) c).0 in omega arith

pub read-inner-untold : (after : Lists) → ReadClaim object two after (Ok (record { records = 2; items = 1 })) → ⊥
read-inner-untold after c = let z : ◌≡◌ {A = ℕ} 1 2 = ap (λ a. (read_outcome a).items) (with_two after (Ok (record { records = 2; items = 1 })) c).0 in omega arith

-- ---- read_at_most: more records than the caller allows; a limit that the lists don't have the places for; the records left in spite of the refusal
module _ (after : Lists) (r : Result Counts Refusal) where
  with-limit : ReadAtMostClaim object 1 two after r → (r ≡ Err (refusal 14 0)) × (after ≡ two)
  unfolding read_answer read_records places lay count
  with-limit c = (rw judged at c.answers, rw judged at c.leaves)

  with-wide-limit : ReadAtMostClaim object 2 one after r → r ≡ Err (refusal 14 0)
  unfolding read_answer places count
  with-wide-limit c = rw judged at c.answers

pub limit-unheeded : (after : Lists) → ReadAtMostClaim object 1 two after (Ok (record { records = 2; items = 2 })) → ⊥
limit-unheeded after c = let h = (with-limit after (Ok (record { records = 2; items = 2 })) c).0 in never (cc h)

pub limit-for-places : (after : Lists) → ReadAtMostClaim object 2 one after (Ok (record { records = 2; items = 2 })) → ⊥
limit-for-places after c = let h = with-wide-limit after (Ok (record { records = 2; items = 2 })) c in never (cc h)

pub limit-overrun : (r : Result Counts Refusal) → ReadAtMostClaim object 1 two (put 1 inner (put 0 top two)) r → ⊥
limit-overrun r c = let z : ◌≡◌ {A = ℕ} 3 9 = ap (λ l. get_or l.tags 0 0) (with-limit (put 1 inner (put 0 top two)) r c).1 in omega arith

-- ---- span: a size with one octet too many; nothing where a body ends with the object; a span past its end; a number that only one of the lists has
pub span-longer : span_of object (2 ∷ 4 ∷ []) (4 ∷ 2 ∷ []) 1 ≡ record { start = 4; size = 3 } → ⊥
unfolding span_of
span-longer h = let z : ◌≡◌ {A = ℕ} 2 3 = ap (λ s. s.size) h in omega arith

pub span-at-end : span_of object (2 ∷ 4 ∷ []) (4 ∷ 2 ∷ []) 1 ≡ record { start = 0; size = 0 } → ⊥
unfolding span_of
span-at-end h = let z : ◌≡◌ {A = ℕ} 2 0 = ap (λ s. s.size) h in omega arith

pub span-past : span_of object (2 ∷ 5 ∷ []) (4 ∷ 2 ∷ []) 1 ≡ record { start = 5; size = 2 } → ⊥
unfolding span_of
span-past h = let z : ◌≡◌ {A = ℕ} 0 2 = ap (λ s. s.size) h in omega arith

pub span-of-one-list : span_of object (2 ∷ 4 ∷ 6 ∷ []) (4 ∷ 2 ∷ []) 2 ≡ record { start = 6; size = 0 } → ⊥
unfolding span_of
span-of-one-list h = let z : ◌≡◌ {A = ℕ} 0 6 = ap (λ s. s.start) h in omega arith

-- ---- body: from the item's tag on; the whole object for a number that the lists don't have
pub body-with-header : body_at object (span_of object (2 ∷ 4 ∷ []) (4 ∷ 2 ∷ []) 1) ≡ 0x06 ∷ 0x02 ∷ [] → ⊥
unfolding body_at span_of
body-with-header h = let z : ◌≡◌ {A = ℕ} 0x65 0x06 = ap (λ l. get_or l 0 0) h in omega arith

pub body-unlisted : body_at object (span_of object (2 ∷ []) (4 ∷ []) 1) ≡ object → ⊥
unfolding body_at span_of
body-unlisted h = let z : ◌≡◌ {A = ℕ} 0 3 = ap (λ l. get_or l 0 0) h in omega arith
