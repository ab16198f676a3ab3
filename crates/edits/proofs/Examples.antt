-- Taking in, edits and refusals as closed facts: what the definitions say of one small day, by computation. The values were worked out by hand.
use mathlib.Core.Path.{◌≡◌, refl}
use mathlib.Core.Option.{none, some}
use mathlib.Core.List.{List, [], ◌∷◌, map}
use Prim.Native.Nat.{ℕ}
use lib.ListN.{replicate}
use Rattle.octets.specs.Counts.{as_octets}
use Rattle.octets.specs.Numbers.{among, value, digits}
use Rattle.octets.specs.Header.{header_size, body_size, length_field, framed}
use Rattle.text.specs.Text.{layout, token, character, single, goes_on, utf8, text}
use Rattle.text.specs.Tokens.{cut, entries, filled, is_table, entry, or_itself, stands, expanded, present, covers, covered, starts, shown_length}
use Rattle.values.specs.Table.{rows, kind_in, known, attribute, defaults, default_in}
use Rattle.values.specs.Values.{width, fits, wrong_field, meant, octets_of, is_default}
use Rattle.format.specs.declared.Record.{Record}
use Rattle.format.specs.Tree.{find, kind_of, count, records, records_of}
use Rattle.format.specs.Judge.{Judged, is_known, is_items, is_tokens, is_text, is_value, wrong_in, is_top, allowed, latest, stage_after, limit, not_above, shown, of_top, rule, value_rule, first, kind_rules, item_rules, own, late, late_before, late_after, broken, within, waits, next, unless, followed, joined, by_kind, items, outermost, judge}
use Rattle.format.specs.Judge.Judged.{refused, accepted}
use Rattle.format.specs.Meaning.{opens, is_child, value_in, counted, attributes_in, cdata_in, leaf_octets, means, table_in, table_of, maybe, rising, encode}
use Rattle.format.specs.Writer.{below, past, at_top, placed, body_keeps, keeps, is_end, ruled}
use Rattle.format.specs.Loaded.{stored, store_in, loaded_in}
use Rattle.format.specs.Calls.{places, roomy}
use Rattle.format.specs.State.{Memory, places_in, normal_body, body_sizes, packed_store, kept}
use Rattle.state.specs.Taking.{overflow, settled, taken_in}
use Rattle.edits.specs.Tree.{Edit, from, change_at, first_tag, first_inside, with_body, without, holding, before, put_child, children, is_there, is_one_item, inside_of, first_element, element_of, changed}
use Rattle.edits.specs.Tree.Edit.{replace, remove, insert}
use Rattle.edits.specs.Calls.{edited, edited_in}

-- a top with its language, "en", and a schedule in it; in that a programme with its recommendation, which is the default, and with a short name, "ab"
abbrev day : List ℕ
day = 0x02 ∷ 17 ∷ 0x06 ∷ 2 ∷ 0x65 ∷ 0x6E ∷ 0x21 ∷ 11 ∷ 0x1C ∷ 9 ∷ 0x83 ∷ 1 ∷ 1 ∷ 0x10 ∷ 4 ∷ 0x01 ∷ 2 ∷ 0x61 ∷ 0x62 ∷ []

-- memory of so many places and octets of a store
abbrev lent : ℕ → ℕ → Memory
lent n k =
    let l : List ℕ = replicate n 0 in
    record { lists = record { tags = l; kinds = l; depths = l; parents = l; starts = l; sizes = l }; bodies = l; store = replicate k 0 }

-- a refusal's number, 0 where there is none; the records, the sizes of their bodies and the store
abbrev Report : Type 0
Report = ℕ × List (List ℕ) × List ℕ × List ℕ

unfoldable fields : Record → List ℕ
fields r = r.tag ∷ r.kind ∷ r.depth ∷ r.parent ∷ r.start ∷ r.size ∷ []

unfoldable told : Judged → Report
told (refused r) = (r.number, [], [], [])
told (accepted t) = (0, map fields (records_of t), body_sizes 0 t, packed_store t)

-- an edit of the tree that came out before
unfoldable after : Memory → Judged → Edit → Judged
after m (refused r) e = refused r
after m (accepted t) e = edited_in m e (some t)

abbrev taken : Memory → Judged
taken m = taken_in (as_octets 32_768) m (judge day)

-- the number of what an edit of the day comes to, with all that is lent
abbrev number : Memory → Edit → ℕ
number m e = (told (after m (taken m) e)).0

-- the records of the top, the language, the schedule and the programme stay in all that follows
abbrev front : List (List ℕ) → List (List ℕ)
front rs = (0x02 ∷ 0 ∷ 1 ∷ 0 ∷ 0 ∷ 0 ∷ []) ∷ (0x06 ∷ 0 ∷ 2 ∷ 0 ∷ 0 ∷ 2 ∷ []) ∷ (0x21 ∷ 0 ∷ 2 ∷ 0 ∷ 0 ∷ 0 ∷ []) ∷ (0x1C ∷ 0 ∷ 3 ∷ 2 ∷ 0 ∷ 0 ∷ []) ∷ rs

-- elements that hold nothing
abbrev name : List ℕ
name = 0x10 ∷ 0 ∷ []

abbrev schedule : List ℕ
schedule = 0x21 ∷ 0 ∷ []

record Computed : Type 0 where
  day-taken : told (taken (lent 7 5))
      ≡ (
        0,
        front ((0x83 ∷ 1 ∷ 4 ∷ 3 ∷ 2 ∷ 1 ∷ []) ∷ (0x10 ∷ 0 ∷ 4 ∷ 3 ∷ 0 ∷ 0 ∷ []) ∷ (0x01 ∷ 2 ∷ 5 ∷ 5 ∷ 3 ∷ 2 ∷ []) ∷ []),
        14 ∷ 2 ∷ 8 ∷ 6 ∷ 1 ∷ 4 ∷ 2 ∷ [],
        0x65 ∷ 0x6E ∷ 1 ∷ 0x61 ∷ 0x62 ∷ [],
      )
  -- a place or an octet too few; places come first
  not_taken : map (λ m. (told (taken m)).0) (lent 6 5 ∷ lent 7 4 ∷ lent 6 4 ∷ []) ≡ 14 ∷ 15 ∷ 14 ∷ []
  -- the name "abc": all sizes around it grow by one
  renamed : told (after (lent 7 6) (taken (lent 7 6)) (replace 6 (0x61 ∷ 0x62 ∷ 0x63 ∷ [])))
      ≡ (
        0,
        front ((0x83 ∷ 1 ∷ 4 ∷ 3 ∷ 2 ∷ 1 ∷ []) ∷ (0x10 ∷ 0 ∷ 4 ∷ 3 ∷ 0 ∷ 0 ∷ []) ∷ (0x01 ∷ 2 ∷ 5 ∷ 5 ∷ 3 ∷ 3 ∷ []) ∷ []),
        15 ∷ 2 ∷ 9 ∷ 7 ∷ 1 ∷ 5 ∷ 3 ∷ [],
        0x65 ∷ 0x6E ∷ 1 ∷ 0x61 ∷ 0x62 ∷ 0x63 ∷ [],
      )
  -- the default gone: the sizes of the others stay
  no_default : told (after (lent 7 5) (taken (lent 7 5)) (remove 4))
      ≡ (
        0,
        front ((0x10 ∷ 0 ∷ 4 ∷ 3 ∷ 0 ∷ 0 ∷ []) ∷ (0x01 ∷ 2 ∷ 5 ∷ 4 ∷ 2 ∷ 2 ∷ []) ∷ []),
        14 ∷ 2 ∷ 8 ∷ 6 ∷ 4 ∷ 2 ∷ [],
        0x65 ∷ 0x6E ∷ 0x61 ∷ 0x62 ∷ [],
      )
  -- another short name before the one that is there
  put_first : told (after (lent 8 5) (taken (lent 8 5)) (insert 3 0 name))
      ≡ (
        0,
        front ((0x83 ∷ 1 ∷ 4 ∷ 3 ∷ 2 ∷ 1 ∷ []) ∷ (0x10 ∷ 0 ∷ 4 ∷ 3 ∷ 0 ∷ 0 ∷ []) ∷ (0x10 ∷ 0 ∷ 4 ∷ 3 ∷ 0 ∷ 0 ∷ []) ∷ (0x01 ∷ 2 ∷ 5 ∷ 6 ∷ 3 ∷ 2 ∷ []) ∷ []),
        16 ∷ 2 ∷ 10 ∷ 8 ∷ 1 ∷ 0 ∷ 4 ∷ 2 ∷ [],
        0x65 ∷ 0x6E ∷ 1 ∷ 0x61 ∷ 0x62 ∷ [],
      )
  -- the name removed and put in again, its length in four octets: what was taken in, and the room that was freed is used again
  again : told (after (lent 7 5) (after (lent 7 5) (taken (lent 7 5)) (remove 5)) (insert 3 0 (0x10 ∷ 0xFE ∷ 0 ∷ 4 ∷ 0x01 ∷ 2 ∷ 0x61 ∷ 0x62 ∷ [])))
      ≡ told (taken (lent 7 5))
  -- no text; no such record; the top; no such place; no element that holds items
  nowhere : map (number (lent 9 9)) (replace 4 (1 ∷ []) ∷ replace 7 [] ∷ replace 0 [] ∷ remove 0 ∷ remove 7 ∷ insert 3 2 name ∷ insert 6 0 name ∷ insert 7 0 [] ∷ [])
      ≡ 18 ∷ 18 ∷ 18 ∷ 18 ∷ 18 ∷ 18 ∷ 18 ∷ 18 ∷ []
  -- a text with a token octet, or of nine characters in a short name
  no_text : map (number (lent 9 20)) (replace 1 (5 ∷ []) ∷ replace 6 (replicate 9 0x61) ∷ replace 6 (replicate 8 0x61) ∷ []) ≡ 16 ∷ 16 ∷ 0 ∷ []
  -- no octets; a length that isn't there; an unknown item, by itself or beside an element; an attribute; CDATA; the token table; a token octet
  no-element : map (λ o. number (lent 9 9) (insert 3 0 o))
      ([] ∷ (0x10 ∷ []) ∷ (0x7F ∷ 0 ∷ []) ∷ (0x10 ∷ 0 ∷ 0x7F ∷ 0 ∷ []) ∷ (0x10 ∷ 0 ∷ 0x10 ∷ 0 ∷ []) ∷ (0x80 ∷ 1 ∷ 0x61 ∷ [])
      ∷ (0x01 ∷ 0 ∷ []) ∷ (0x04 ∷ 0 ∷ []) ∷ (0x10 ∷ 3 ∷ 0x01 ∷ 1 ∷ 5 ∷ []) ∷ [])
      ≡ 16 ∷ 16 ∷ 16 ∷ 16 ∷ 16 ∷ 16 ∷ 16 ∷ 16 ∷ 16 ∷ []
  -- in the top: the token table; a second language before and behind the first; another schedule before and behind that, and last
  in_top : map (number (lent 9 9))
      (insert 0 0 (0x04 ∷ 0 ∷ []) ∷ insert 0 0 (0x06 ∷ 0 ∷ []) ∷ insert 0 1 (0x06 ∷ 0 ∷ []) ∷ insert 0 0 schedule ∷ insert 0 1 schedule ∷ insert 0 2 schedule ∷ [])
      ≡ 16 ∷ 16 ∷ 16 ∷ 16 ∷ 0 ∷ 0 ∷ []
  -- 18 before 16, 16 before 14, 14 before 15
  ordered : map (number (lent 7 5))
      (insert 6 0 [] ∷ insert 3 0 (0x10 ∷ 5 ∷ []) ∷ insert 3 0 (0x10 ∷ 3 ∷ 0x01 ∷ 1 ∷ 0x61 ∷ []) ∷ replace 6 (0x61 ∷ 0x62 ∷ 0x63 ∷ []) ∷ []) ≡ 18 ∷ 16 ∷ 14 ∷ 15 ∷ []
  -- memory that holds no tree: 16 before 18
  no-tree : (told (edited_in (lent 7 5) (remove 0) none)).0 ≡ 16

computed : Computed
unfolding among value digits header_size body_size length_field framed layout token character single goes_on utf8 text cut entries filled is_table entry or_itself stands expanded present covers covered starts shown_length rows kind_in known attribute defaults default_in width fits wrong_field meant octets_of is_default find kind_of count records is_known is_items is_tokens is_text is_value wrong_in is_top allowed latest stage_after limit not_above shown of_top rule value_rule first kind_rules item_rules own late late_before late_after broken within waits next unless followed joined by_kind items outermost judge opens is_child value_in counted attributes_in cdata_in leaf_octets means table_in table_of maybe rising encode below past at_top placed body_keeps keeps is_end ruled stored store_in loaded_in places places_in normal_body body_sizes kept from change_at first_tag first_inside with_body without holding before put_child children is_there is_one_item inside_of first_element element_of changed roomy overflow settled taken_in edited edited_in fields told after
computed = record {
  day-taken = refl;
  not_taken = refl;
  renamed = refl;
  no_default = refl;
  put_first = refl;
  again = refl;
  nowhere = refl;
  no_text = refl;
  no-element = refl;
  in_top = refl;
  ordered = refl;
  no-tree = refl;
}
