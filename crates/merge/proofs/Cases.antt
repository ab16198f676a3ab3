-- The named cases of merging, computed.
use mathlib.Core.Path.{◌≡◌, refl}
use mathlib.Core.List.{map}
use Rattle.octets.specs.Numbers.{among, value, digits}
use Rattle.octets.specs.Header.{header_size, body_size, length_field, framed}
use Rattle.text.specs.Text.{layout, token, character, single, goes_on, utf8, text}
use Rattle.text.specs.Tokens.{cut, entries, filled, is_table, entry, or_itself, stands, expanded, present, covers, covered, starts, shown_length}
use Rattle.values.specs.Table.{rows, kind_in, known, attribute, defaults, default_in}
use Rattle.values.specs.Times.{bits, long_flag, offset_flag, offset_octet, time_of, in_range, is_time, wrong_part, wrong_time, sign, time_octets}
use Rattle.values.specs.Bearers.{ensemble_flag, long_sid_flag, ensemble_of, bearer_of, is_bearer, ensemble_bit, ensemble_octets, bearer_octets}
use Rattle.values.specs.Values.{width, fits, wrong_field, meant, octets_of, is_default}
use Rattle.format.specs.Tree.{find}
use Rattle.format.specs.Judge.{is_known, is_items, is_tokens, is_text, is_value, wrong_in, is_top, allowed, latest, stage_after, limit, not_above, shown, of_top, rule, value_rule, first, kind_rules, item_rules, own, late, late_before, late_after, broken, within, waits, next, unless, followed, joined, by_kind, items, outermost, judge}
use Rattle.format.specs.Meaning.{opens, is_child, value_in, counted, attributes_in, cdata_in, leaf_octets, means, table_in, table_of, maybe, rising, encode}
use Rattle.format.specs.Calls.{roomy}
use Rattle.format.specs.Same.{same_octets, same_value, same_maybe, same_attributes, same_meaning}
use Rattle.merge.specs.Keys.{merges, key_attribute, has_bearer, bearers_in, same_service, same_key, partners, has_partner, has_equal}
use Rattle.merge.specs.Merged.{either, united, then, has_language, languages, new_language, added, paired, merged, apart, any_apart, both_there, other_language, clashing, clash, same_top, twice}
use Rattle.merge.specs.Sizes.{taken, taken_by, records_in, stored_in}
use Rattle.merge.specs.Calls.{conflict, misfit, unless_refused, merged_into, outcome, answer_of, written_of}
use Rattle.merge.specs.Cases.{said, cases}

-- what the definitions say of each case is what was written by hand
pub named-held : map (λ c. said c.0 c.1 c.2 c.3) cases ≡ map (λ c. c.4) cases
unfolding among value digits header_size body_size length_field framed layout token character single goes_on utf8 text cut entries filled is_table entry or_itself stands expanded present covers covered starts shown_length rows kind_in known attribute defaults default_in bits long_flag offset_flag offset_octet time_of in_range is_time wrong_part wrong_time sign time_octets ensemble_flag long_sid_flag ensemble_of bearer_of is_bearer ensemble_bit ensemble_octets bearer_octets width fits wrong_field meant octets_of is_default find is_known is_items is_tokens is_text is_value wrong_in is_top allowed latest stage_after limit not_above shown of_top rule value_rule first kind_rules item_rules own late late_before late_after broken within waits next unless followed joined by_kind items outermost judge opens is_child value_in counted attributes_in cdata_in leaf_octets means table_in table_of maybe rising encode roomy same_octets same_value same_maybe same_attributes same_meaning merges key_attribute has_bearer bearers_in same_service same_key partners has_partner has_equal either united then has_language languages new_language added paired merged apart any_apart both_there other_language clashing clash same_top twice taken taken_by records_in stored_in conflict misfit unless_refused merged_into outcome answer_of written_of said cases
named-held = refl
