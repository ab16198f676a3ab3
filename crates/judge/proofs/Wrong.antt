-- Wrong answers of `judge` and `judge_inside`, each refuted at closed octets by what its contract says.
use Rattle.std.specs.Prelude.{Ok, Err}
use mathlib.Core.Path.{◌≡◌, refl, sym, ap, ◌∙◌}
use mathlib.Core.List.{List, [], ◌∷◌}
use Prim.Native.Nat.{ℕ, ◌-◌}
use native.Mathlib.Omega.{arith}
use Rattle.octets.specs.Numbers.{among, value}
use Rattle.octets.specs.Header.{header_size, body_size}
use Rattle.text.specs.Text.{layout, token, character, single, goes_on, utf8, text}
use Rattle.text.specs.Tokens.{cut, entries, filled, is_table, entry, or_itself, stands, expanded, present, covers, covered, starts, shown_length}
use Rattle.values.specs.Table.{rows, kind_in, known, attribute}
use Rattle.values.specs.Times.{bits, long_flag, offset_flag, offset_octet, time_of, in_range, is_time, wrong_part, wrong_time}
use Rattle.values.specs.Values.{width, fits, wrong_field}
use Rattle.format.specs.declared.Refusal.{Refusal}
use Rattle.format.specs.declared.Counts.{Counts}
use Rattle.format.specs.Answers.{refusal, wrong_value, read_outcome}
use Rattle.format.specs.Tree.{count}
use Rattle.format.specs.Judge.{is_known, is_items, is_tokens, is_text, is_value, wrong_in, is_top, allowed, latest, stage_after, limit, not_above, shown, of_top, rule, value_rule, first, kind_rules, item_rules, own, late, late_before, late_after, broken, within, waits, next, unless, followed, joined, by_kind, items, outermost, judge}
use Rattle.format.specs.Headers.{headers_in, headers, headers_of}
use Rattle.format.specs.Calls.{judge_answer}
use Rattle.judge.specs.Inside.{beginning, judge_inside}

-- the top alone
abbrev top : List ℕ
top = 0x03 ∷ 0x00 ∷ []

-- a top with a token table and a language that uses it
abbrev tabled : List ℕ
tabled = 0x03 ∷ 0x09 ∷ 0x04 ∷ 0x04 ∷ 0x01 ∷ 0x02 ∷ 0x65 ∷ 0x6E ∷ 0x06 ∷ 0x01 ∷ 0x01 ∷ []

-- a service whose attribute runs past it, but not past the object
abbrev passing : List ℕ
passing = 0x03 ∷ 0x06 ∷ 0x28 ∷ 0x02 ∷ 0x80 ∷ 0x02 ∷ 0x00 ∷ 0x01 ∷ []

-- an attribute of the top with a token that the table after it doesn't have
abbrev waiting : List ℕ
waiting = 0x03 ∷ 0x07 ∷ 0x82 ∷ 0x01 ∷ 0x01 ∷ 0x04 ∷ 0x02 ∷ 0x02 ∷ 0x00 ∷ []

-- a creation time with wrong hours and minutes
abbrev mistimed : List ℕ
mistimed = 0x03 ∷ 0x06 ∷ 0x81 ∷ 0x04 ∷ 0x30 ∷ 0xD4 ∷ 0x06 ∷ 0x3C ∷ []

record Answers : Type 0 where
  of_top : judge_answer (headers_of top) (judge top) ≡ Ok (record { records = 1; items = 1 })
  of_tabled : judge_answer (headers_of tabled) (judge tabled) ≡ Ok (record { records = 2; items = 3 })
  of_passing : judge_answer (headers_of passing) (judge passing) ≡ Err (refusal 3 4)
  of_waiting : judge_answer (headers_of waiting) (judge waiting) ≡ Err (refusal 12 2)
  of_mistimed : judge_answer (headers_of mistimed) (judge mistimed) ≡ Err (wrong_value 2 3)

answers : Answers
unfolding among value header_size body_size layout token character single goes_on utf8 text cut entries filled is_table entry or_itself stands expanded present covers covered starts shown_length rows kind_in known attribute bits long_flag offset_flag offset_octet time_of in_range is_time wrong_part wrong_time width fits wrong_field count is_known is_items is_tokens is_text is_value wrong_in is_top allowed latest stage_after limit not_above shown of_top rule value_rule first kind_rules item_rules own late late_before late_after broken within waits next unless followed joined by_kind items outermost judge headers_in judge_answer
answers = record { of_top = refl; of_tabled = refl; of_passing = refl; of_waiting = refl; of_mistimed = refl }

differ : (r : Refusal) (c : Counts) → Err r ≡ Ok c → ⊥
differ r c h = let z : ◌≡◌ {A = ℕ} 0 1 = cc in omega arith

-- every object is refused
pub all-refused : (r : Refusal) → Err r ≡ judge_answer (headers_of top) (judge top) → ⊥
all-refused r h = differ r (record { records = 1; items = 1 }) (h ∙ answers.of_top)

-- the token table counts as a record
pub table_counted : Ok (record { records = 3; items = 3 }) ≡ judge_answer (headers_of tabled) (judge tabled) → ⊥
table_counted h = let z : ◌≡◌ {A = ℕ} 3 2 = ap (λ a. (read_outcome a).count) (h ∙ answers.of_tabled) in omega arith

-- it isn't among the items judged, or its entry is
pub table-not-judged : Ok (record { records = 2; items = 2 }) ≡ judge_answer (headers_of tabled) (judge tabled) → ⊥
table-not-judged h = let z : ◌≡◌ {A = ℕ} 2 3 = ap (λ a. (read_outcome a).items) (h ∙ answers.of_tabled) in omega arith

pub entry-judged : Ok (record { records = 2; items = 4 }) ≡ judge_answer (headers_of tabled) (judge tabled) → ⊥
entry-judged h = let z : ◌≡◌ {A = ℕ} 4 3 = ap (λ a. (read_outcome a).items) (h ∙ answers.of_tabled) in omega arith

-- a child's length is held against the object's end
pub child-passes : (c : Counts) → Ok c ≡ judge_answer (headers_of passing) (judge passing) → ⊥
child-passes c h = differ (refusal 3 4) c (sym (h ∙ answers.of_passing))

-- the late rule is forgotten
pub late-forgotten : (c : Counts) → Ok c ≡ judge_answer (headers_of waiting) (judge waiting) → ⊥
late-forgotten c h = differ (refusal 12 2) c (sym (h ∙ answers.of_waiting))

-- the field is forgotten, or the last that is wrong is told
pub field-forgotten : Err (refusal 9 2) ≡ judge_answer (headers_of mistimed) (judge mistimed) → ⊥
field-forgotten h = let z : ◌≡◌ {A = ℕ} 0 3 = ap (λ a. (read_outcome a).field) (h ∙ answers.of_mistimed) in omega arith

pub last-field-told : Err (wrong_value 2 4) ≡ judge_answer (headers_of mistimed) (judge mistimed) → ⊥
last-field-told h = let z : ◌≡◌ {A = ℕ} 4 3 = ap (λ a. (read_outcome a).field) (h ∙ answers.of_mistimed) in omega arith

-- ---- judge_inside

-- a short name whose CDATA is a token octet, and an element with nothing in it
abbrev token_in_name : List ℕ
token_in_name = 0x01 ∷ 0x01 ∷ 0x01 ∷ []

abbrev element : List ℕ
element = 0x29 ∷ 0x00 ∷ []

record InsideAnswers : Type 0 where
  of_token : judge_answer (headers 0x10 token_in_name) (judge_inside 0x10 2 token_in_name) ≡ Err (refusal 12 0)
  of_deep : judge_answer (headers 0x28 element) (judge_inside 0x28 16 element) ≡ Err (refusal 7 0)
  of_none : judge_answer (headers 0x28 []) (judge_inside 0x28 2 []) ≡ Ok (record { records = 0; items = 0 })

inside-answers : InsideAnswers
unfolding among value header_size body_size layout token character single goes_on utf8 text cut entries filled is_table entry or_itself stands expanded present covers covered starts shown_length rows kind_in known attribute fits count is_known is_items is_tokens is_text is_value wrong_in is_top allowed latest stage_after limit not_above shown of_top rule value_rule first kind_rules item_rules own late late_before late_after broken within waits next unless followed joined by_kind items beginning judge_inside headers_in judge_answer
inside-answers = record { of_token = refl; of_deep = refl; of_none = refl }

-- a token without a table
pub token-accepted : (c : Counts) → Ok c ≡ judge_answer (headers 0x10 token_in_name) (judge_inside 0x10 2 token_in_name) → ⊥
token-accepted c h = differ (refusal 12 0) c (sym (h ∙ inside-answers.of_token))

-- the depth is forgotten
pub depth-forgotten : (c : Counts) → Ok c ≡ judge_answer (headers 0x28 element) (judge_inside 0x28 16 element) → ⊥
depth-forgotten c h = differ (refusal 7 0) c (sym (h ∙ inside-answers.of_deep))

-- no items are refused, as an object of no octets is
pub none-refused : (r : Refusal) → Err r ≡ judge_answer (headers 0x28 []) (judge_inside 0x28 2 []) → ⊥
none-refused r h = differ r (record { records = 0; items = 0 }) (h ∙ inside-answers.of_none)

-- ---- levels_in

-- a level more than rule 7 has
pub level-more : 16 - 1 ≡ 16 → ⊥
level-more h = omega arith

-- levels below the last depth
pub levels-below : 16 - 17 ≡ 1 → ⊥
levels-below h = omega arith
