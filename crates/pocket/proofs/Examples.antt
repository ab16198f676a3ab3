-- The gate at closed inputs, and wrong answers of the calls.
use Rattle.std.specs.Prelude.{Result, Ok, Err}
use mathlib.Core.Path.{◌≡◌, refl, sym, ap, ◌∙◌}
use mathlib.Core.List.{[], ◌∷◌}
use Prim.Native.Nat.{ℕ}
use native.Mathlib.Omega.{arith}
use Rattle.octets.proofs.Tests.{never}
use Rattle.octets.specs.Numbers.{among, value}
use Rattle.octets.specs.Header.{header_size, body_size}
use Rattle.text.specs.Text.{layout, token, character, single, goes_on, utf8, text}
use Rattle.text.specs.Tokens.{cut, entries, filled, is_table, entry, or_itself, stands, expanded, present, covers, covered, starts, shown_length}
use Rattle.values.specs.Table.{rows as known-rows, attribute, kind_in, known}
use Rattle.values.specs.Values.{width, fits, wrong_field}
use Rattle.format.specs.Judge.{is_known, is_items, is_tokens, is_text, is_value, wrong_in, is_top, allowed, latest, stage_after, limit, not_above, shown, of_top, rule, value_rule, first, kind_rules, item_rules, own, late, late_before, late_after, broken, within, waits, next, unless, followed, joined, by_kind, items, outermost, judge}
use Rattle.format.specs.Answers.{refusal, wrong_value, check_outcome}
use Rattle.format.specs.declared.Refusal.{Refusal}
use Rattle.survey.specs.First.{or_else, picks, place_in, place_at, in_rows, sought_by, sought_as, sought_in}
use Rattle.pocket.specs.declared.DataType.TheVariants.{Service, Programme, Group, Untabled}
use Rattle.pocket.specs.Table.{data_type}
use Rattle.pocket.specs.Gate.{offends, gate_answer, gate_of}

pub record Computed : Type 0 where
  -- an ensemble (A.1) and a service directly in the top (A.2), with the token table, the default language and CDATA
  pub passes_service : gate_of Service (0x03 ∷ 0x18 ∷ 0x04 ∷ 0x04 ∷ 0x01 ∷ 0x02 ∷ 0x61 ∷ 0x62 ∷ 0x06 ∷ 0x02 ∷ 0x65 ∷ 0x6E ∷ 0x26 ∷ 0x05 ∷ 0x10 ∷ 0x03 ∷ 0x01 ∷ 0x01 ∷ 0x41 ∷ 0x28 ∷ 0x05 ∷ 0x29 ∷ 0x00 ∷ 0x01 ∷ 0x01 ∷ 0x42 ∷ []) ≡ Ok tt
  -- a programme with its time, of which A.3 has the attributes time and duration
  pub passes_programme : gate_of Programme (0x02 ∷ 0x11 ∷ 0x21 ∷ 0x0F ∷ 0x1C ∷ 0x0D ∷ 0x81 ∷ 0x03 ∷ 0x00 ∷ 0x00 ∷ 0x01 ∷ 0x19 ∷ 0x06 ∷ 0x2C ∷ 0x04 ∷ 0x81 ∷ 0x02 ∷ 0x0E ∷ 0x10 ∷ []) ≡ Ok tt
  -- a group
  pub passes_group : gate_of Group (0x02 ∷ 0x12 ∷ 0x20 ∷ 0x10 ∷ 0x80 ∷ 0x02 ∷ 0x00 ∷ 0x01 ∷ 0x23 ∷ 0x0A ∷ 0x84 ∷ 0x02 ∷ 0x00 ∷ 0x02 ∷ 0x17 ∷ 0x04 ∷ 0x82 ∷ 0x02 ∷ 0x00 ∷ 0x01 ∷ []) ≡ Ok tt
  -- the other top: 19 at 0. PI and GI share the top, not what is in it
  pub other_top : gate_of Service (0x02 ∷ 0x00 ∷ []) ≡ Err (refusal 19 0)
  pub programme_top : gate_of Programme (0x03 ∷ 0x00 ∷ []) ≡ Err (refusal 19 0)
  pub group_top : gate_of Group (0x03 ∷ 0x00 ∷ []) ≡ Err (refusal 19 0)
  pub groups_in_programme : gate_of Programme (0x02 ∷ 0x02 ∷ 0x20 ∷ 0x00 ∷ []) ≡ Err (refusal 19 2)
  pub schedule_in_group : gate_of Group (0x02 ∷ 0x02 ∷ 0x21 ∷ 0x00 ∷ []) ≡ Err (refusal 19 2)
  -- no table: each top offends, and 1 to 13 still come first
  pub untabled_top : gate_of Untabled (0x03 ∷ 0x00 ∷ []) ≡ Err (refusal 19 0)
  pub untabled_refused : gate_of Untabled (0x03 ∷ 0x01 ∷ 0x80 ∷ []) ≡ Err (refusal 2 2)
  -- an element that the table has, in another one: the bearer of a service in a location, a medium name in the schedule
  pub service_bearer : gate_of Programme (0x02 ∷ 0x08 ∷ 0x21 ∷ 0x06 ∷ 0x1C ∷ 0x04 ∷ 0x19 ∷ 0x02 ∷ 0x29 ∷ 0x00 ∷ []) ≡ Err (refusal 19 8)
  pub name_in_schedule : gate_of Programme (0x02 ∷ 0x04 ∷ 0x21 ∷ 0x02 ∷ 0x11 ∷ 0x00 ∷ []) ≡ Err (refusal 19 4)
  -- an attribute that annex E has and annex A has not: the version of a service, the id of a programme; and the first of two offenders
  pub other_version : gate_of Service (0x03 ∷ 0x06 ∷ 0x28 ∷ 0x04 ∷ 0x80 ∷ 0x02 ∷ 0x00 ∷ 0x01 ∷ []) ≡ Err (refusal 19 4)
  pub programme_id : gate_of Programme (0x02 ∷ 0x07 ∷ 0x21 ∷ 0x05 ∷ 0x1C ∷ 0x03 ∷ 0x80 ∷ 0x01 ∷ 0x78 ∷ []) ≡ Err (refusal 19 6)
  pub first_of_two : gate_of Programme (0x02 ∷ 0x07 ∷ 0x21 ∷ 0x05 ∷ 0x82 ∷ 0x01 ∷ 0x78 ∷ 0x18 ∷ 0x00 ∷ []) ≡ Err (refusal 19 4)
  -- the place is the tag's, whatever the size of the headers before it
  pub long_headers : gate_of Service (0x03 ∷ 0xFE ∷ 0x00 ∷ 0x07 ∷ 0x26 ∷ 0xFF ∷ 0x00 ∷ 0x00 ∷ 0x02 ∷ 0x16 ∷ 0x00 ∷ []) ≡ Err (refusal 19 9)
  -- an unknown element isn't looked into, and an unknown attribute doesn't offend
  pub inside_unknown : gate_of Service (0x03 ∷ 0x07 ∷ 0xA0 ∷ 0x01 ∷ 0x78 ∷ 0x55 ∷ 0x02 ∷ 0x16 ∷ 0x00 ∷ []) ≡ Ok tt
  -- a refused object that also offends: 1 to 13 win
  pub cut_short : gate_of Service (0x03 ∷ 0x03 ∷ 0x16 ∷ 0x00 ∷ 0x16 ∷ []) ≡ Err (refusal 2 4)
  pub top_inside : gate_of Service (0x02 ∷ 0x04 ∷ 0x28 ∷ 0x02 ∷ 0x02 ∷ 0x00 ∷ []) ≡ Err (refusal 4 4)

pub computed : Computed
unfolding among value header_size body_size layout token character single goes_on utf8 text cut entries filled is_table entry or_itself stands expanded present covers covered starts shown_length attribute kind_in known width fits wrong_field is_known is_items is_tokens is_text is_value wrong_in is_top allowed latest stage_after limit not_above shown of_top rule value_rule first kind_rules item_rules own late late_before late_after broken within waits next unless followed joined by_kind items outermost judge known-rows or_else picks place_in place_at in_rows sought_by sought_as sought_in offends gate_answer gate_of
computed = record { passes_service = refl; passes_programme = refl; passes_group = refl; other_top = refl; programme_top = refl; group_top = refl; groups_in_programme = refl; schedule_in_group = refl; untabled_top = refl; untabled_refused = refl; service_bearer = refl; name_in_schedule = refl; other_version = refl; programme_id = refl; first_of_two = refl; long_headers = refl; inside_unknown = refl; cut_short = refl; top_inside = refl }

-- ---- gate

number : Result (Unit {0}) Refusal → ℕ
number (Ok x) = 0
number (Err r) = r.number

place : Result (Unit {0}) Refusal → ℕ
place (Ok x) = 0
place (Err r) = r.place

-- yes where an attribute isn't in the table
pub offender-passed : gate_of Service (0x03 ∷ 0x06 ∷ 0x28 ∷ 0x04 ∷ 0x80 ∷ 0x02 ∷ 0x00 ∷ 0x01 ∷ []) ≡ Ok tt → ⊥
unfolding number
offender-passed e = let z : ◌≡◌ {A = ℕ} 19 0 = ap number (sym computed.other_version ∙ e) in omega arith

-- the place of the body for the tag's
pub body-placed : gate_of Service (0x03 ∷ 0x06 ∷ 0x28 ∷ 0x04 ∷ 0x80 ∷ 0x02 ∷ 0x00 ∷ 0x01 ∷ []) ≡ Err (refusal 19 6) → ⊥
unfolding place
body-placed e = let z : ◌≡◌ {A = ℕ} 4 6 = ap place (sym computed.other_version ∙ e) in omega arith

-- ---- data_type

-- a number that names none
pub number-taken : data_type 3 ≡ Service → ⊥
unfolding data_type
number-taken e = let w : Untabled ≡ Service = e in never (cc)

-- PI and GI mixed up
pub numbers-swapped : data_type 1 ≡ Group → ⊥
unfolding data_type
numbers-swapped e = let w : Programme ≡ Group = e in never (cc)

-- ---- an answer as an Outcome

-- a refusal without its number, which is yes
pub refusal-unnumbered : check_outcome (Err (refusal 19 4)) ≡ record { number = 0; place = 4; field = 0; count = 0; items = 0 } → ⊥
refusal-unnumbered e = let z : ◌≡◌ {A = ℕ} 19 0 = ap (λ o. o.number) e in omega arith

-- the field of a time left out
pub field-left-out : check_outcome (Err (wrong_value 4 2)) ≡ record { number = 9; place = 4; field = 0; count = 0; items = 0 } → ⊥
field-left-out e = let z : ◌≡◌ {A = ℕ} 2 0 = ap (λ o. o.field) e in omega arith
