-- Wrong answers of `find_conflict`, refuted by computing the definitions.
use Rattle.std.specs.Prelude.{Result, Ok, Err}
use mathlib.Core.Path.{◌≡◌, refl, sym, ap, ◌∙◌}
use mathlib.Core.List.{List, [], ◌∷◌}
use Prim.Native.Nat.{ℕ}
use Rattle.octets.specs.Numbers.{among, value, digits}
use Rattle.octets.specs.Header.{header_size, body_size}
use Rattle.text.specs.Text.{layout, token, character, single, goes_on, utf8, text}
use Rattle.text.specs.Tokens.{cut, entries, filled, is_table, entry, or_itself, stands, expanded, present, covers, covered, starts, shown_length}
use Rattle.values.specs.Table.{rows, kind_in, known, attribute, defaults, default_in}
use Rattle.values.specs.Times.{bits, long_flag, offset_flag, offset_octet, time_of, in_range, is_time, wrong_part, wrong_time, sign, time_octets}
use Rattle.values.specs.Bearers.{ensemble_flag, long_sid_flag, ensemble_of, bearer_of, is_bearer, ensemble_bit, ensemble_octets, bearer_octets}
use Rattle.values.specs.Values.{width, fits, wrong_field, meant, octets_of, is_default}
use Rattle.format.specs.Tree.{find}
use Rattle.format.specs.Judge.{is_known, is_items, is_tokens, is_text, is_value, wrong_in, is_top, allowed, latest, stage_after, limit, not_above, shown, of_top, rule, value_rule, first, kind_rules, item_rules, own, late, late_before, late_after, broken, within, waits, next, unless, followed, joined, by_kind, items, outermost, judge}
use Rattle.format.specs.Meaning.{opens, is_child, value_in, counted, attributes_in, cdata_in, leaf_octets, means, table_in, table_of}
use Rattle.format.specs.Same.{same_octets, same_value, same_maybe}
use Rattle.merge.specs.Keys.{merges, key_attribute, has_bearer, bearers_in, same_service, same_key, partners, has_partner}
use Rattle.merge.specs.Merged.{apart, any_apart, both_there, other_language, clashing, clash, same_top, twice}
use Rattle.merge.specs.Calls.{conflict}
use Rattle.octets.proofs.Tests.{never}
use Rattle.format.specs.Answers.{refusal}
use Rattle.format.specs.declared.Refusal.{Refusal}
use Rattle.merge.specs.declared.Services.TheVariants.{ByTag, ByBearers}
use Rattle.merge.specs.declared.MergeRefusal.{MergeRefusal}
use Rattle.merge.specs.declared.MergeRefusal.TheVariants.{Basic, Advanced, Neither}
use Rattle.merging.specs.Calls.{as_conflict, conflict_answer}

-- two services in each object, by their bearers partners
abbrev two : List ℕ
two = 0x03 ∷ 0x1C ∷ 0x28 ∷ 0x0C ∷ 0x29 ∷ 0x05 ∷ 0x80 ∷ 0x03 ∷ 0x00 ∷ 0x01 ∷ 0x01 ∷ 0x10 ∷ 0x03 ∷ 0x01 ∷ 0x01 ∷ 0x41 ∷ 0x28 ∷ 0x0C ∷ 0x29 ∷ 0x05 ∷ 0x80 ∷ 0x03 ∷ 0x00 ∷ 0x02 ∷ 0x02 ∷ 0x10 ∷ 0x03 ∷ 0x01 ∷ 0x01 ∷ 0x42 ∷ []

abbrev two_more : List ℕ
two_more = 0x03 ∷ 0x20 ∷ 0x28 ∷ 0x0E ∷ 0x29 ∷ 0x05 ∷ 0x80 ∷ 0x03 ∷ 0x00 ∷ 0x02 ∷ 0x02 ∷ 0x13 ∷ 0x05 ∷ 0x1B ∷ 0x03 ∷ 0x01 ∷ 0x01 ∷ 0x62 ∷ 0x28 ∷ 0x0E ∷ 0x29 ∷ 0x05 ∷ 0x80 ∷ 0x03 ∷ 0x00 ∷ 0x01 ∷ 0x01 ∷ 0x13 ∷ 0x05 ∷ 0x1B ∷ 0x03 ∷ 0x01 ∷ 0x01 ∷ 0x61 ∷ []

record Computed : Type 0 where
  by_bearers : conflict_answer ByBearers (judge two) (judge two_more) ≡ Ok tt
  by_tag : conflict_answer ByTag (judge two) (judge two_more) ≡ Err (Neither (refusal 21 0))
  equal_texts : conflict_answer ByTag (judge (0x02 ∷ 0x03 ∷ 0x01 ∷ 0x01 ∷ 0x61 ∷ [])) (judge (0x02 ∷ 0x03 ∷ 0x01 ∷ 0x01 ∷ 0x61 ∷ [])) ≡ Err (Neither (refusal 20 0))
  orders : conflict_answer ByTag (judge (0x02 ∷ 0x08 ∷ 0x06 ∷ 0x02 ∷ 0x65 ∷ 0x6E ∷ 0x21 ∷ 0x00 ∷ 0x21 ∷ 0x00 ∷ [])) (judge (0x02 ∷ 0x04 ∷ 0x06 ∷ 0x02 ∷ 0x64 ∷ 0x65 ∷ [])) ≡ Err (Neither (refusal 20 0))
  defaults-apart : conflict_answer ByTag (judge (0x02 ∷ 0x07 ∷ 0x21 ∷ 0x05 ∷ 0x1C ∷ 0x03 ∷ 0x83 ∷ 0x01 ∷ 0x01 ∷ [])) (judge (0x02 ∷ 0x07 ∷ 0x21 ∷ 0x05 ∷ 0x1C ∷ 0x03 ∷ 0x83 ∷ 0x01 ∷ 0x02 ∷ [])) ≡ Ok tt
  advanced-cut : conflict_answer ByTag (judge (0x03 ∷ 0x00 ∷ [])) (judge (0x03 ∷ [])) ≡ Err (Advanced (refusal 2 0))

computed : Computed
unfolding among value digits header_size body_size layout token character single goes_on utf8 text cut entries filled is_table entry or_itself stands expanded present covers covered starts shown_length rows kind_in known attribute defaults default_in bits long_flag offset_flag offset_octet time_of in_range is_time wrong_part wrong_time sign time_octets ensemble_flag long_sid_flag ensemble_of bearer_of is_bearer ensemble_bit ensemble_octets bearer_octets width fits wrong_field meant octets_of is_default find is_known is_items is_tokens is_text is_value wrong_in is_top allowed latest stage_after limit not_above shown of_top rule value_rule first kind_rules item_rules own late late_before late_after broken within waits next unless followed joined by_kind items outermost judge opens is_child value_in counted attributes_in cdata_in leaf_octets means table_in table_of same_octets same_value same_maybe merges key_attribute has_bearer bearers_in same_service same_key partners has_partner apart any_apart both_there other_language clashing clash same_top twice conflict as_conflict conflict_answer
computed = record { by_bearers = refl; by_tag = refl; equal_texts = refl; orders = refl; defaults-apart = refl; advanced-cut = refl }

-- services told apart by their bearers where their tag was asked for, or by their tag where their bearers were
pub bearers-for-tag : conflict_answer ByTag (judge two) (judge two_more) ≡ Ok tt → ⊥
bearers-for-tag h = let z = sym h ∙ computed.by_tag in never (cc)

pub tag-for-bearers : (r : Refusal) → conflict_answer ByBearers (judge two) (judge two_more) ≡ Err (Neither r) → ⊥
tag-for-bearers r h = let z = sym h ∙ computed.by_bearers in never (cc)

-- two equal CDATA passed
pub equal-passed : conflict_answer ByTag (judge (0x02 ∷ 0x03 ∷ 0x01 ∷ 0x01 ∷ 0x61 ∷ [])) (judge (0x02 ∷ 0x03 ∷ 0x01 ∷ 0x01 ∷ 0x61 ∷ [])) ≡ Ok tt → ⊥
equal-passed h = let z = sym h ∙ computed.equal_texts in never (cc)

number_in : Result (Unit {0}) MergeRefusal → ℕ
number_in (Ok u) = 0
number_in (Err (Basic r)) = r.number
number_in (Err (Advanced r)) = r.number
number_in (Err (Neither r)) = r.number

-- 21 told before 20
pub twice-first : conflict_answer ByTag (judge (0x02 ∷ 0x08 ∷ 0x06 ∷ 0x02 ∷ 0x65 ∷ 0x6E ∷ 0x21 ∷ 0x00 ∷ 0x21 ∷ 0x00 ∷ [])) (judge (0x02 ∷ 0x04 ∷ 0x06 ∷ 0x02 ∷ 0x64 ∷ 0x65 ∷ [])) ≡ Err (Neither (refusal 21 0)) → ⊥
unfolding number_in
twice-first h = let z : ◌≡◌ {A = ℕ} 21 20 = ap number_in (sym h ∙ computed.orders) in never (cc)

-- a default and another value told as two values
pub default-clashes : (r : Refusal) → conflict_answer ByTag (judge (0x02 ∷ 0x07 ∷ 0x21 ∷ 0x05 ∷ 0x1C ∷ 0x03 ∷ 0x83 ∷ 0x01 ∷ 0x01 ∷ [])) (judge (0x02 ∷ 0x07 ∷ 0x21 ∷ 0x05 ∷ 0x1C ∷ 0x03 ∷ 0x83 ∷ 0x01 ∷ 0x02 ∷ [])) ≡ Err (Neither r) → ⊥
default-clashes r h = let z = sym h ∙ computed.defaults-apart in never (cc)

-- Advanced's refusal told of Basic
pub told-of-basic : conflict_answer ByTag (judge (0x03 ∷ 0x00 ∷ [])) (judge (0x03 ∷ [])) ≡ Err (Basic (refusal 2 0)) → ⊥
told-of-basic h = let z = sym h ∙ computed.advanced-cut in never (cc)
