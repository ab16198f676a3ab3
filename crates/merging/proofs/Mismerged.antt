-- Wrong answers of `merge`, refuted by computing its claim at two objects: Basic has a schedule, Advanced the default language.
use Rattle.std.specs.Prelude.{Result, Ok, Err}
use mathlib.Core.Path.{◌≡◌, refl, sym, ap, ◌∙◌}
use mathlib.Core.List.{List, [], ◌∷◌}
use Prim.Native.Nat.{ℕ, min}
use native.Mathlib.Omega.{arith}
use lib.ListN.{length, get_or}
use lib.Seq.{sets}
use Rattle.octets.specs.Counts.{as_octets}
use Rattle.octets.specs.Numbers.{among, value, digits}
use Rattle.octets.specs.Header.{header_size, body_size, length_field, framed}
use Rattle.text.specs.Text.{layout, token, character, single, goes_on, utf8, text}
use Rattle.text.specs.Tokens.{cut, entries, filled, is_table, entry, or_itself, stands, expanded, present, covers, covered, starts, shown_length}
use Rattle.values.specs.Table.{rows, kind_in, known, attribute, defaults, default_in}
use Rattle.values.specs.Times.{bits, long_flag, offset_flag, offset_octet, time_of, in_range, is_time, wrong_part, wrong_time, sign, time_octets}
use Rattle.values.specs.Bearers.{ensemble_flag, long_sid_flag, ensemble_of, bearer_of, is_bearer, ensemble_bit, ensemble_octets, bearer_octets}
use Rattle.values.specs.Values.{width, fits, wrong_field, meant, octets_of, is_default}
use Rattle.format.specs.Tree.{find}
use Rattle.format.specs.Judge.{is_known, is_items, is_tokens, is_text, is_value, wrong_in, is_top, allowed, latest, stage_after, limit, not_above, shown, of_top, rule, value_rule, first, kind_rules, item_rules, own, late, late_before, late_after, broken, within, waits, next, unless, followed, joined, by_kind, items, outermost, judge}
use Rattle.format.specs.Meaning.{opens, is_child, value_in, counted, attributes_in, cdata_in, leaf_octets, means, table_in, table_of, maybe, rising, encode}
use Rattle.format.specs.Calls.{places, roomy}
use Rattle.format.specs.Same.{same_octets, same_value, same_maybe, same_attributes, same_meaning}
use Rattle.merge.specs.Keys.{merges, key_attribute, has_bearer, bearers_in, same_service, same_key, partners, has_partner, has_equal}
use Rattle.merge.specs.Merged.{either, united, then, has_language, languages, new_language, added, paired, merged, apart, any_apart, both_there, other_language, clashing, clash, same_top, twice}
use Rattle.merge.specs.Sizes.{taken, taken_by, records_in, stored_in}
use Rattle.merge.specs.Calls.{conflict, misfit, unless_refused, merged_into, outcome, answer_of, written_of, records_size}
use Rattle.format.specs.Answers.{refusal}
use Rattle.format.specs.State.{Memory, places_in}
use Rattle.state.specs.Taking.{lent_by}
use Rattle.merge.specs.declared.Services.TheVariants.{ByTag}
use Rattle.merge.specs.Calls.{Outcome, MergeClaim}
use Rattle.merge.specs.declared.Merged.{Merged}
use Rattle.merge.specs.declared.MergeRefusal.{MergeRefusal}
use Rattle.merge.specs.declared.MergeRefusal.TheVariants.{Basic, Advanced, Neither}

abbrev basic : List ℕ
basic = 0x02 ∷ 0x02 ∷ 0x21 ∷ 0x00 ∷ []

abbrev advanced : List ℕ
advanced = 0x02 ∷ 0x04 ∷ 0x06 ∷ 0x02 ∷ 0x65 ∷ 0x6E ∷ []

-- seven lists, a store and a room
abbrev blank : (places store : List ℕ) → Memory
blank places store = record { lists = record { tags = places; kinds = places; depths = places; parents = places; starts = places; sizes = places }; bodies = places; store = store }

abbrev three : List ℕ
three = 9 ∷ 9 ∷ 9 ∷ []

abbrev eight : List ℕ
eight = 9 ∷ 9 ∷ 9 ∷ 9 ∷ 9 ∷ 9 ∷ 9 ∷ 9 ∷ []

abbrev comes : Memory → List ℕ → Outcome
comes m room = outcome ByTag (lent_by m room) (judge basic) (judge advanced)

-- three records, two octets of text, eight octets: just enough of each, and then one less
record Computed : Type 0 where
  written : written_of (comes (blank three (9 ∷ 9 ∷ [])) eight) ≡ 0x02 ∷ 0x06 ∷ 0x06 ∷ 0x02 ∷ 0x65 ∷ 0x6E ∷ 0x21 ∷ 0x00 ∷ []
  crowded : answer_of (comes (blank (9 ∷ 9 ∷ []) (9 ∷ [])) eight) ≡ Err (Neither (refusal 14 0))
  unwritten : written_of (comes (blank (9 ∷ 9 ∷ []) (9 ∷ [])) eight) ≡ []
  unstored : answer_of (comes (blank three (9 ∷ [])) eight) ≡ Err (Neither (refusal 15 0))

computed : Computed
unfolding among value digits header_size body_size length_field framed layout token character single goes_on utf8 text cut entries filled is_table entry or_itself stands expanded present covers covered starts shown_length rows kind_in known attribute defaults default_in bits long_flag offset_flag offset_octet time_of in_range is_time wrong_part wrong_time sign time_octets ensemble_flag long_sid_flag ensemble_of bearer_of is_bearer ensemble_bit ensemble_octets bearer_octets width fits wrong_field meant octets_of is_default find is_known is_items is_tokens is_text is_value wrong_in is_top allowed latest stage_after limit not_above shown of_top rule value_rule first kind_rules item_rules own late late_before late_after broken within waits next unless followed joined by_kind items outermost judge opens is_child value_in counted attributes_in cdata_in leaf_octets means table_in table_of maybe rising encode roomy same_octets same_value same_maybe same_attributes same_meaning merges key_attribute has_bearer bearers_in same_service same_key partners has_partner has_equal either united then has_language languages new_language added paired merged apart any_apart both_there other_language clashing clash same_top twice taken taken_by records_in stored_in conflict misfit unless_refused merged_into outcome answer_of written_of places places_in
computed = record { written = refl; crowded = refl; unwritten = refl; unstored = refl }

-- Advanced's default language behind Basic's children
pub language-last : (m' : Memory) (a : Result Merged MergeRefusal) → MergeClaim ByTag basic advanced (blank three (9 ∷ 9 ∷ [])) m' eight (0x02 ∷ 0x06 ∷ 0x21 ∷ 0x00 ∷ 0x06 ∷ 0x02 ∷ 0x65 ∷ 0x6E ∷ []) a → ⊥
language-last m' a c = let z : ◌≡◌ {A = ℕ} 0x21 0x06 = ap (λ o. get_or o 2 0) (c.writes ∙ ap (sets eight 0) computed.written) in omega arith

-- a room that is written before 14
pub written-before-14 : (m' : Memory) (a : Result Merged MergeRefusal) → MergeClaim ByTag basic advanced (blank (9 ∷ 9 ∷ []) (9 ∷ [])) m' eight (0x02 ∷ 0x06 ∷ 0x06 ∷ 0x02 ∷ 0x65 ∷ 0x6E ∷ 0x21 ∷ 0x00 ∷ []) a → ⊥
written-before-14 m' a c = let z : ◌≡◌ {A = ℕ} 0x02 9 = ap (λ o. get_or o 0 0) (c.writes ∙ ap (sets eight 0) computed.unwritten) in omega arith

abbrev number_of : Result Merged MergeRefusal → ℕ
number_of (Ok m) = 0
number_of (Err (Basic r)) = r.number
number_of (Err (Advanced r)) = r.number
number_of (Err (Neither r)) = r.number

-- 15 where 14 comes first, and a store that is too small passed
pub fifteen-first : (m' : Memory) (room' : List ℕ) → MergeClaim ByTag basic advanced (blank (9 ∷ 9 ∷ []) (9 ∷ [])) m' eight room' (Err (Neither (refusal 15 0))) → ⊥
fifteen-first m' room' c = let z : ◌≡◌ {A = ℕ} 15 14 = ap number_of (c.answers ∙ computed.crowded) in omega arith

pub store-passed : (m' : Memory) (room' : List ℕ) → MergeClaim ByTag basic advanced (blank three (9 ∷ [])) m' eight room' (Ok (records_size 3 (as_octets 8))) → ⊥
store-passed m' room' c = let z : ◌≡◌ {A = ℕ} 0 15 = ap number_of (c.answers ∙ computed.unstored) in omega arith

-- places_in, by lists of three places and two for the sizes of bodies: those of the six alone, and those of a longer list
abbrev uneven : Memory
uneven = record { lists = record { tags = three; kinds = three; depths = three; parents = three; starts = three; sizes = three }; bodies = 9 ∷ 9 ∷ []; store = [] }

counts-two : min (places uneven.lists) (length uneven.bodies) ≡ 2
unfolding places
counts-two = refl

pub bodies-uncounted : min (places uneven.lists) (length uneven.bodies) ≡ 3 → ⊥
bodies-uncounted h = let z : ◌≡◌ {A = ℕ} 2 3 = sym counts-two ∙ h in omega arith

pub places-none : min (places uneven.lists) (length uneven.bodies) ≡ 0 → ⊥
places-none h = let z : ◌≡◌ {A = ℕ} 2 0 = sym counts-two ∙ h in omega arith
