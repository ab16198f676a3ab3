-- Objects with their texts, computed. The texts were written by hand, from the request and the documents.
use mathlib.Core.Path.{◌≡◌, refl}
use mathlib.Core.List.{List, [], ◌∷◌}
use Prim.Native.Nat.{ℕ}
use Rattle.format.specs.Answers.{refusal, wrong_value}
use Rattle.xml.specs.Export.Exported.{refuses, shows}
use Rattle.octets.specs.Numbers.{among, value, digits}
use Rattle.octets.specs.Header.{header_size, body_size, length_field, framed}
use Rattle.text.specs.Text.{layout, token, character, single, goes_on, utf8, text}
use Rattle.text.specs.Tokens.{cut, entries, filled, is_table, entry, or_itself, stands, expanded, present, covers, covered, starts, shown_length, expanded_size}
use Rattle.values.specs.Table.{rows, attribute, kind_in, known, defaults, default_in}
use Rattle.values.specs.Times.{bits, long_flag, offset_flag, offset_octet, time_of, in_range, is_time, wrong_part, wrong_time, canonical, sign, time_octets, local_minutes, local_of}
use Rattle.values.specs.Bearers.{ensemble_flag, long_sid_flag, ensemble_of, bearer_of, is_bearer, ensemble_bit, ensemble_octets, bearer_octets}
use Rattle.values.specs.Values.{width, fits, wrong_field, meant, octets_of, is_default}
use Rattle.format.specs.Tree.{find, kind_of, count, records}
use Rattle.format.specs.Judge.{is_known, is_items, is_tokens, is_text, is_value, wrong_in, is_top, allowed, latest, stage_after, limit, not_above, shown, of_top, rule, value_rule, first, kind_rules, item_rules, own, late, late_before, late_after, broken, within, waits, next, unless, followed, joined, by_kind, items, outermost, judge}
use Rattle.format.specs.Meaning.{opens, is_child, value_in, counted, attributes_in, cdata_in, leaf_octets, means, table_in, table_of, if_accepted, meaning, maybe, rising, encode, normal}
use Rattle.show.specs.Digits.{tens, decimal, told, hex_digit, two_digits, hex_lower}
use Rattle.show.specs.Lines.{ascii, line, kind_name, header_line, record_line, records_line, refusal_line, touched_line, reasons, refusal_words}
use Rattle.xml.specs.Names.{names, words, name_in, name, word_in, or_hex, word}
use Rattle.xml.specs.Dates.{is_leap, year_days, month_days, year_from, month_from, date_of, days_to, local_date, padded, between, date_text, clock, time_text}
use Rattle.xml.specs.Xml.{escape, escaped, number_text, ensemble_fields, bearer_text, value_text, attribute_xml, attributes_xml, tagged, cdata_xml, xml}
use Rattle.survey.specs.First.{or_else, picks, place_in, place_at}
use Rattle.xml.specs.Named.{is_plain, plain_here, plain_at}
use Rattle.xml.specs.Export.{Exported, unless_plain, export_of, export_answer, export_octets}

-- a language, in a top with no attribute
abbrev pub language : List ℕ
language = 0x03 ∷ 0x04 ∷ 0x06 ∷ 0x02 ∷ 0x65 ∷ 0x6E ∷ []

-- an empty one
abbrev pub no-language : List ℕ
no-language = 0x02 ∷ 0x02 ∷ 0x06 ∷ 0x00 ∷ []

-- empty CDATA, no CDATA, and a token that stands for nothing
abbrev pub empty-names : List ℕ
empty-names = 0x03 ∷ 0x0F ∷ 0x04 ∷ 0x02 ∷ 0x01 ∷ 0x00 ∷ 0x10 ∷ 0x02 ∷ 0x01 ∷ 0x00 ∷ 0x11 ∷ 0x00 ∷ 0x12 ∷ 0x03 ∷ 0x01 ∷ 0x01 ∷ 0x01 ∷ []

-- attributes out of order: a text with marks, a time with its offset, a version
abbrev pub marked : List ℕ
marked = 0x03 ∷ 0x11 ∷ 0x82 ∷ 0x04 ∷ 0x61 ∷ 0x22 ∷ 0x3C ∷ 0x62 ∷ 0x81 ∷ 0x05 ∷ 0x30 ∷ 0xD4 ∷ 0x13 ∷ 0x1E ∷ 0x03 ∷ 0x80 ∷ 0x02 ∷ 0x00 ∷ 0x07 ∷ []

-- a time whose offset is minus 0
abbrev pub minus-zero : List ℕ
minus-zero = 0x03 ∷ 0x07 ∷ 0x81 ∷ 0x05 ∷ 0x30 ∷ 0xD4 ∷ 0x10 ∷ 0x00 ∷ 0x20 ∷ []

-- bearers, whose names their codes tell apart; an enumerated octet with a name of annex F and one without; a duration
abbrev pub guide : List ℕ
guide = 0x02 ∷ 0x21 ∷ 0x29 ∷ 0x05 ∷ 0x80 ∷ 0x03 ∷ 0x02 ∷ 0xD1 ∷ 0x23 ∷ 0x2D ∷ 0x0A ∷ 0x80 ∷ 0x08 ∷ 0x50 ∷ 0xE1 ∷ 0xC1 ∷ 0x85 ∷ 0xE1 ∷ 0xC0 ∷ 0xFF ∷ 0xEE ∷ 0x1C ∷ 0x06 ∷ 0x83 ∷ 0x01 ∷ 0x02 ∷ 0x84 ∷ 0x01 ∷ 0x0A ∷ 0x2C ∷ 0x04 ∷ 0x81 ∷ 0x02 ∷ 0x0E ∷ 0x10 ∷ []

-- an enumerated octet whose name another one shares
abbrev pub picture : List ℕ
picture = 0x03 ∷ 0x05 ∷ 0x2B ∷ 0x03 ∷ 0x83 ∷ 0x01 ∷ 0x05 ∷ []

-- children, and CDATA behind them
abbrev pub described : List ℕ
described = 0x03 ∷ 0x0D ∷ 0x13 ∷ 0x0B ∷ 0x1A ∷ 0x06 ∷ 0x80 ∷ 0x02 ∷ 0x66 ∷ 0x72 ∷ 0x01 ∷ 0x00 ∷ 0x01 ∷ 0x01 ∷ 0x78 ∷ []

-- plain octets, in the id of an ensemble behind a service
abbrev pub plain-id : List ℕ
plain-id = 0x03 ∷ 0x07 ∷ 0x28 ∷ 0x00 ∷ 0x26 ∷ 0x03 ∷ 0x80 ∷ 0x01 ∷ 0x01 ∷ []

-- a time with wrong hours and minutes
abbrev pub mistimed : List ℕ
mistimed = 0x03 ∷ 0x06 ∷ 0x81 ∷ 0x04 ∷ 0x30 ∷ 0xD4 ∷ 0x06 ∷ 0x3C ∷ []

abbrev pub shown_as : List ℕ → Exported
shown_as o = export_of o (judge o)

pub record Computed : Type 0 where
  pub of-language : shown_as language ≡ shows (ascii "<serviceInformation><defaultLanguage>en</defaultLanguage></serviceInformation>")
  pub of-no-language : shown_as no-language ≡ shows (ascii "<epg><defaultLanguage/></epg>")
  pub of-empty-names : shown_as empty-names ≡ shows (ascii "<serviceInformation><shortName><![CDATA[]]></shortName><mediumName/><longName><![CDATA[]]></longName></serviceInformation>")
  pub of-marked : shown_as marked ≡ shows (ascii "<serviceInformation version=\"7\" creationTime=\"1995-10-10T14:00:00+01:30\" originator=\"a&quot;&lt;b\"/>")
  pub of-minus-zero : shown_as minus-zero ≡ shows (ascii "<serviceInformation creationTime=\"1995-10-10T00:00:00+00:00\"/>")
  pub of-guide : shown_as guide ≡ shows (ascii "<epg><bearer.29 id=\"..d123.2\"/><bearer.2d id=\"e1.c185.e1c0ffee.0\"/><programme recommendation=\"yes\" broadcast=\"0a\"/><time duration=\"PT3600S\"/></epg>")
  pub of-picture : shown_as picture ≡ shows (ascii "<serviceInformation><multimedia type=\"Not used.05\"/></serviceInformation>")
  pub of-described : shown_as described ≡ shows (ascii "<serviceInformation><mediaDescription><shortDescription xml:lang=\"fr\"><![CDATA[]]></shortDescription>x</mediaDescription></serviceInformation>")
  pub of-plain-id : shown_as plain-id ≡ refuses (refusal 17 6)
  pub of-mistimed : shown_as mistimed ≡ refuses (wrong_value 2 3)

pub computed : Computed
unfolding among value digits header_size body_size length_field framed layout token character single goes_on utf8 text cut entries filled is_table entry or_itself stands expanded present covers covered starts shown_length expanded_size rows attribute kind_in known bits long_flag offset_flag offset_octet time_of in_range is_time wrong_part wrong_time canonical sign time_octets local_minutes local_of ensemble_flag long_sid_flag ensemble_of bearer_of is_bearer ensemble_bit ensemble_octets bearer_octets defaults default_in width fits wrong_field meant octets_of is_default find kind_of count records is_known is_items is_tokens is_text is_value wrong_in is_top allowed latest stage_after limit not_above shown of_top rule value_rule first kind_rules item_rules own late late_before late_after broken within waits next unless followed joined by_kind items outermost judge opens is_child value_in counted attributes_in cdata_in leaf_octets means table_in table_of if_accepted meaning maybe rising encode normal tens decimal told hex_digit two_digits hex_lower ascii line kind_name header_line record_line records_line refusal_line touched_line reasons refusal_words names words name_in name word_in or_hex word is_leap year_days month_days year_from month_from date_of days_to local_date padded between date_text clock time_text escape escaped number_text ensemble_fields bearer_text value_text attribute_xml attributes_xml tagged cdata_xml xml is_plain or_else picks place_in place_at plain_here plain_at unless_plain export_of export_answer export_octets
computed = record { of-language = refl; of-no-language = refl; of-empty-names = refl; of-marked = refl; of-minus-zero = refl; of-guide = refl; of-picture = refl; of-described = refl; of-plain-id = refl; of-mistimed = refl }
