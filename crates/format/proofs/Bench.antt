-- The bench cases of document 01, computed: one claim, one proof; and the records of its listing.
use mathlib.Core.Path.{◌≡◌, refl}
use mathlib.Core.Bool.{true}
use mathlib.Core.Option.{none, some}
use mathlib.Core.List.{[], ◌∷◌, map}
use Rattle.octets.specs.Numbers.{among, value, digits}
use Rattle.octets.specs.Header.{header_size, body_size, length_field, framed}
use Rattle.text.specs.Text.{layout, token, character, single, goes_on, utf8, text}
use Rattle.text.specs.Tokens.{cut, entries, filled, is_table, entry, or_itself, stands, expanded, present, covers, covered, starts, shown_length}
use Rattle.values.specs.Table.{rows, kind_in, known, attribute, defaults, default_in}
use Rattle.values.specs.Times.{bits, long_flag, offset_flag, offset_octet, time_of, in_range, is_time, wrong_part, wrong_time, sign, time_octets}
use Rattle.values.specs.Bearers.{ensemble_flag, long_sid_flag, ensemble_of, bearer_of, is_bearer, ensemble_bit, ensemble_octets, bearer_octets}
use Rattle.values.specs.Values.{width, fits, wrong_field, meant, octets_of, is_default}
use Rattle.values.specs.Calls.{taken_time}
use Rattle.format.specs.Tree.{find, kind_of, count, records}
use Rattle.format.specs.Tree.Items.{end, item}
use Rattle.format.specs.Judge.{is_known, is_items, is_tokens, is_text, is_value, wrong_in, is_top, allowed, latest, stage_after, limit, not_above, shown, of_top, rule, value_rule, first, kind_rules, item_rules, own, late, late_before, late_after, broken, within, waits, next, unless, followed, joined, by_kind, items, outermost, judge}
use Rattle.format.specs.Meaning.{opens, is_child, value_in, counted, attributes_in, cdata_in, leaf_octets, means, table_in, table_of, maybe, rising, encode}
use Rattle.format.specs.Writer.{below, past, at_top, placed, body_keeps, keeps, body_in, good, here, onward, walk, tree, to_end, rebuilt}
use Rattle.format.specs.Bench.{reported, reported_time, outcome, cases, listed, accented, slips, two_tops, top_with_cdata}

-- P1 to P14: what the definitions say of each case is what document 01 says
pub bench : map (λ c. outcome c.0 c.1) cases ≡ map (λ c. c.2) cases
unfolding among value digits header_size body_size length_field framed layout token character single goes_on utf8 text cut entries filled is_table entry or_itself stands expanded present covers covered starts shown_length rows kind_in known attribute bits long_flag offset_flag offset_octet time_of in_range is_time wrong_part wrong_time sign time_octets ensemble_flag long_sid_flag ensemble_of bearer_of is_bearer ensemble_bit ensemble_octets bearer_octets defaults default_in width fits wrong_field meant octets_of is_default taken_time find kind_of count records is_known is_items is_tokens is_text is_value wrong_in is_top allowed latest stage_after limit not_above shown of_top rule value_rule first kind_rules item_rules own late late_before late_after broken within waits next unless followed joined by_kind items outermost judge opens is_child value_in counted attributes_in cdata_in leaf_octets means table_in table_of maybe rising encode reported reported_time outcome cases
bench = refl

-- the listing of 03 04 06 02 65 6E: an element at depth 1 with a body of 4 octets at 2, and one inside it of 2 octets at 4
pub listing : listed (judge (0x03 ∷ 0x04 ∷ 0x06 ∷ 0x02 ∷ 0x65 ∷ 0x6E ∷ []))
    ≡ record { tag = 0x03; kind = 0; depth = 1; parent = 0; start = 2; size = 4 } ∷ record { tag = 0x06; kind = 0; depth = 2; parent = 0; start = 4; size = 2 } ∷ []
unfolding among value digits header_size body_size layout token character single goes_on utf8 text cut entries filled is_table entry or_itself stands expanded present covers covered starts shown_length rows kind_in known attribute fits find kind_of count records is_known is_items is_tokens is_text is_value wrong_in is_top allowed latest stage_after limit not_above shown of_top rule value_rule first kind_rules item_rules own late late_before late_after broken within waits next unless followed joined by_kind items outermost judge listed
listing = refl

-- the slips, each with the answer that the rules give
pub slipped : map (λ c. outcome true c.0) slips ≡ map (λ c. c.1) slips
unfolding among value digits header_size body_size length_field framed layout token character single goes_on utf8 text cut entries filled is_table entry or_itself stands expanded present covers covered starts shown_length rows kind_in known attribute bits long_flag offset_flag offset_octet time_of in_range is_time wrong_part wrong_time sign time_octets ensemble_flag long_sid_flag ensemble_of bearer_of is_bearer ensemble_bit ensemble_octets bearer_octets defaults default_in width fits wrong_field meant octets_of is_default find kind_of count records is_known is_items is_tokens is_text is_value wrong_in is_top allowed latest stage_after limit not_above shown of_top rule value_rule first kind_rules item_rules own late late_before late_after broken within waits next unless followed joined by_kind items outermost judge opens is_child value_in counted attributes_in cdata_in leaf_octets means table_in table_of maybe rising encode reported outcome accented slips
slipped = refl

-- to the writer one top is a well-formed tree and two are not, a letter is a text and a token octet is not
pub to-writer : (rebuilt two_tops 1 [] ≡ some (item 0x03 0 [] end end)) × (rebuilt two_tops 2 [] ≡ none)
    × (rebuilt top_with_cdata 2 (0x61 ∷ []) ≡ some (item 0x03 0 [] (item 0x01 0 (0x61 ∷ []) end end) end)) × (rebuilt top_with_cdata 2 (0x01 ∷ []) ≡ none)
unfolding among layout token character single goes_on utf8 text stands expanded starts shown_length entry or_itself rows kind_in known attribute fits kind_of is_known is_items is_tokens is_text is_value is_top allowed latest stage_after limit not_above shown below past at_top placed body_keeps keeps body_in good here onward walk tree to_end rebuilt opens two_tops top_with_cdata
to-writer = (refl, refl, refl, refl)
