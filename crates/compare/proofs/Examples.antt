-- Pairs of objects and objects with their answers, which an independent program gave, or change request 2026-05 of its defaults: what `same` and `is_normal` say
-- of them, computed.
use Rattle.std.specs.Prelude.{Result, Ok, Err}
use mathlib.Core.Path.{◌≡◌, refl}
use mathlib.Core.Bool.{Bool, true, false}
use mathlib.Core.List.{List, [], ◌∷◌, map}
use Prim.Native.Nat.{ℕ}
use Rattle.octets.specs.Numbers.{among, value, digits}
use Rattle.octets.specs.Header.{header_size, body_size, length_field, framed}
use Rattle.text.specs.Text.{layout, token, character, single, goes_on, utf8, text}
use Rattle.text.specs.Tokens.{cut, entries, filled, is_table, entry, or_itself, stands, expanded, present, covers, covered, starts, shown_length}
use Rattle.values.specs.Table.{rows, kind_in, known, attribute, defaults, default_in}
use Rattle.values.specs.Times.{bits, long_flag, offset_flag, offset_octet, time_of, in_range, is_time, wrong_part, wrong_time, sign, time_octets}
use Rattle.values.specs.Bearers.{ensemble_flag, long_sid_flag, ensemble_of, bearer_of, is_bearer, ensemble_bit, ensemble_octets, bearer_octets}
use Rattle.values.specs.Values.{width, fits, wrong_field, meant, octets_of, is_default}
use Rattle.format.specs.Tree.{find, kind_of, count, records}
use Rattle.format.specs.Judge.{is_known, is_items, is_tokens, is_text, is_value, wrong_in, is_top, allowed, latest, stage_after, limit, not_above, shown, of_top, rule, value_rule, first, kind_rules, item_rules, own, late, late_before, late_after, broken, within, waits, next, unless, followed, joined, by_kind, items, outermost, judge}
use Rattle.format.specs.Meaning.{opens, is_child, value_in, counted, attributes_in, cdata_in, leaf_octets, means, table_in, table_of, maybe, rising, encode}
use Rattle.format.specs.Answers.{refusal, wrong_value}
use Rattle.format.specs.Same.{same_octets, same_value, same_maybe, same_attributes, same_meaning, same_answer, has_normal, is_normal}
use Rattle.format.specs.declared.SameRefusal.{SameRefusal}
use Rattle.format.specs.declared.SameRefusal.TheVariants.{First, Second}

-- P9
abbrev pub top : List ℕ
top = 0x03 ∷ 0x00 ∷ []

-- P10
abbrev pub long-form : List ℕ
long-form = 0x03 ∷ 0xFE ∷ 0x00 ∷ 0x04 ∷ 0x06 ∷ 0x02 ∷ 0x65 ∷ 0x6E ∷ []

-- P11
abbrev pub by_token : List ℕ
by_token = 0x03 ∷ 0x09 ∷ 0x04 ∷ 0x04 ∷ 0x01 ∷ 0x02 ∷ 0x65 ∷ 0x6E ∷ 0x06 ∷ 0x01 ∷ 0x01 ∷ []

-- the normal form of both
abbrev pub language : List ℕ
language = 0x03 ∷ 0x04 ∷ 0x06 ∷ 0x02 ∷ 0x65 ∷ 0x6E ∷ []

-- a version, then a time
abbrev pub rising-order : List ℕ
rising-order = 0x03 ∷ 0x0A ∷ 0x80 ∷ 0x02 ∷ 0x00 ∷ 0x01 ∷ 0x81 ∷ 0x04 ∷ 0x30 ∷ 0xD4 ∷ 0x00 ∷ 0x00 ∷ []

-- the same time with minus 0, then the version
abbrev pub falling-minus-zero : List ℕ
falling-minus-zero = 0x03 ∷ 0x0B ∷ 0x81 ∷ 0x05 ∷ 0x30 ∷ 0xD4 ∷ 0x10 ∷ 0x00 ∷ 0x20 ∷ 0x80 ∷ 0x02 ∷ 0x00 ∷ 0x01 ∷ []

-- another time
abbrev pub with-seconds : List ℕ
with-seconds = 0x03 ∷ 0x0C ∷ 0x80 ∷ 0x02 ∷ 0x00 ∷ 0x01 ∷ 0x81 ∷ 0x06 ∷ 0x30 ∷ 0xD4 ∷ 0x0B ∷ 0x1E ∷ 0x3C ∷ 0x00 ∷ []

-- a bearer
abbrev pub carried : List ℕ
carried = 0x03 ∷ 0x09 ∷ 0x28 ∷ 0x07 ∷ 0x29 ∷ 0x05 ∷ 0x80 ∷ 0x03 ∷ 0x05 ∷ 0xC1 ∷ 0x23 ∷ []

-- the same with reserved bits
abbrev pub carried-reserved : List ℕ
carried-reserved = 0x03 ∷ 0x09 ∷ 0x28 ∷ 0x07 ∷ 0x29 ∷ 0x05 ∷ 0x80 ∷ 0x03 ∷ 0xA5 ∷ 0xC1 ∷ 0x23 ∷ []

-- a name without CDATA
abbrev pub no-cdata : List ℕ
no-cdata = 0x03 ∷ 0x02 ∷ 0x10 ∷ 0x00 ∷ []

-- a name with an empty one
abbrev pub empty-cdata : List ℕ
empty-cdata = 0x03 ∷ 0x04 ∷ 0x10 ∷ 0x02 ∷ 0x01 ∷ 0x00 ∷ []

-- the first with an unknown element and an unknown attribute
abbrev pub with-unknown : List ℕ
with-unknown = 0x03 ∷ 0x09 ∷ 0x7F ∷ 0x02 ∷ 0x78 ∷ 0x78 ∷ 0x10 ∷ 0x03 ∷ 0x99 ∷ 0x01 ∷ 0x7A ∷ []

-- a name by two tokens, of which one stands for nothing
abbrev pub tokens : List ℕ
tokens = 0x03 ∷ 0x10 ∷ 0x04 ∷ 0x06 ∷ 0x01 ∷ 0x02 ∷ 0x61 ∷ 0x62 ∷ 0x02 ∷ 0x00 ∷ 0x10 ∷ 0x06 ∷ 0x01 ∷ 0x04 ∷ 0x01 ∷ 0x63 ∷ 0x02 ∷ 0x01 ∷ []

-- the same name
abbrev pub no-tokens : List ℕ
no-tokens = 0x03 ∷ 0x09 ∷ 0x10 ∷ 0x07 ∷ 0x01 ∷ 0x05 ∷ 0x61 ∷ 0x62 ∷ 0x63 ∷ 0x61 ∷ 0x62 ∷ []

-- a body past the end
abbrev pub cut_short : List ℕ
cut_short = 0x03 ∷ 0x01 ∷ []

-- a time with wrong hours and minutes
abbrev pub mistimed : List ℕ
mistimed = 0x03 ∷ 0x06 ∷ 0x81 ∷ 0x04 ∷ 0x30 ∷ 0xD4 ∷ 0x06 ∷ 0x3C ∷ []

-- a schedule with a programme
abbrev pub unsaid : List ℕ
unsaid = 0x02 ∷ 0x04 ∷ 0x21 ∷ 0x02 ∷ 0x1C ∷ 0x00 ∷ []

-- the same with the recommendation "no", which is its default
abbrev pub said-no : List ℕ
said-no = 0x02 ∷ 0x07 ∷ 0x21 ∷ 0x05 ∷ 0x1C ∷ 0x03 ∷ 0x83 ∷ 0x01 ∷ 0x01 ∷ []

-- with the recommendation "yes"
abbrev pub said-yes : List ℕ
said-yes = 0x02 ∷ 0x07 ∷ 0x21 ∷ 0x05 ∷ 0x1C ∷ 0x03 ∷ 0x83 ∷ 0x01 ∷ 0x02 ∷ []

-- with the broadcast "on-air", which is its default, and then the recommendation "yes"
abbrev pub on-air-yes : List ℕ
on-air-yes = 0x02 ∷ 0x0A ∷ 0x21 ∷ 0x08 ∷ 0x1C ∷ 0x06 ∷ 0x84 ∷ 0x01 ∷ 0x01 ∷ 0x83 ∷ 0x01 ∷ 0x02 ∷ []

abbrev Pair : Type 0
Pair = List ℕ × List ℕ × (Result Bool SameRefusal)

abbrev pairs : List Pair
pairs =
    (top, long-form, (Ok false))
    ∷ (long-form, by_token, (Ok true))
    ∷ (by_token, language, (Ok true))
    ∷ (rising-order, falling-minus-zero, (Ok true))
    ∷ (rising-order, with-seconds, (Ok false))
    ∷ (carried, carried-reserved, (Ok true))
    ∷ (no-cdata, empty-cdata, (Ok false))
    ∷ (with-unknown, no-cdata, (Ok true))
    ∷ (tokens, no-tokens, (Ok true))
    ∷ (no-tokens, tokens, (Ok true))
    ∷ (tokens, empty-cdata, (Ok false))
    ∷ (cut_short, top, Err (First (refusal 3 0)))
    ∷ (top, cut_short, Err (Second (refusal 3 0)))
    ∷ (top, mistimed, Err (Second (wrong_value 2 3)))
    ∷ (said-no, unsaid, (Ok true))
    ∷ (unsaid, said-no, (Ok true))
    ∷ (said-no, said-no, (Ok true))
    ∷ (said-no, said-yes, (Ok false))
    ∷ (said-yes, unsaid, (Ok false))
    ∷ (on-air-yes, said-yes, (Ok true))
    ∷ (on-air-yes, said-no, (Ok false)) ∷ []

abbrev Form : Type 0
Form = List ℕ × Bool

abbrev forms : List Form
forms =
    (top, true)
    ∷ (long-form, false)
    ∷ (by_token, false)
    ∷ (language, true)
    ∷ (rising-order, true)
    ∷ (falling-minus-zero, false)
    ∷ (with-seconds, true)
    ∷ (carried, true)
    ∷ (carried-reserved, false)
    ∷ (no-cdata, true)
    ∷ (empty-cdata, true)
    ∷ (with-unknown, false)
    ∷ (tokens, false)
    ∷ (no-tokens, true)
    ∷ (cut_short, false)
    ∷ (unsaid, true)
    ∷ (said-no, false)
    ∷ (said-yes, true)
    ∷ (on-air-yes, false) ∷ []

pub record Computed : Type 0 where
  pub compared : map (λ c. same_answer (judge c.0) (judge c.1)) pairs ≡ map (λ c. c.2) pairs
  pub formed : map (λ c. is_normal c.0) forms ≡ map (λ c. c.1) forms

pub computed : Computed
unfolding among value digits header_size body_size length_field framed layout token character single goes_on utf8 text cut entries filled is_table entry or_itself stands expanded present covers covered starts shown_length rows kind_in known attribute defaults default_in bits long_flag offset_flag offset_octet time_of in_range is_time wrong_part wrong_time sign time_octets ensemble_flag long_sid_flag ensemble_of bearer_of is_bearer ensemble_bit ensemble_octets bearer_octets width fits wrong_field meant octets_of is_default find kind_of count records is_known is_items is_tokens is_text is_value wrong_in is_top allowed latest stage_after limit not_above shown of_top rule value_rule first kind_rules item_rules own late late_before late_after broken within waits next unless followed joined by_kind items outermost judge opens is_child value_in counted attributes_in cdata_in leaf_octets means table_in table_of maybe rising encode same_octets same_value same_maybe same_attributes same_meaning same_answer has_normal is_normal
computed = record { compared = refl; formed = refl }
