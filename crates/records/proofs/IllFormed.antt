-- Records and texts at which a wrong answer of `is_well_formed` or `is_text_kept` would show: the answers of the definitions, computed.
use mathlib.Core.Path.{◌≡◌, refl}
use mathlib.Core.Bool.{Bool, true, false, ◌&&◌}
use mathlib.Core.List.{List, [], ◌∷◌}
use Prim.Native.Nat.{ℕ}
use Rattle.octets.specs.Numbers.{among}
use Rattle.text.specs.Text.{layout, token, character, single, goes_on, utf8, text}
use Rattle.text.specs.Tokens.{entry, or_itself, stands, expanded, starts, shown_length}
use Rattle.values.specs.Table.{rows, kind_in, known, attribute}
use Rattle.values.specs.Values.{fits}
use Rattle.format.specs.Tree.{kind_of}
use Rattle.format.specs.Judge.{is_known, is_items, is_tokens, is_text, is_value, is_top, allowed, latest, stage_after, limit, not_above, shown}
use Rattle.format.specs.Meaning.{opens}
use Rattle.format.specs.Writer.{below, past, at_top, placed, body_keeps, keeps, body_in, good, here, onward, walk, tree, to_end, rebuilt}
use Rattle.format.specs.Calls.{Lists, places, tree_given}
use Rattle.format.specs.Bench.{accented}
use Rattle.records.specs.Check.{is_given}

-- a top, and a shortName with the number of its parent and a CDATA of so many octets, over lent octets that are all the CDATA's
abbrev name_in : (parent size : ℕ) → Lists
name_in parent size = record {
  tags = 0x03 ∷ 0x10 ∷ 0x01 ∷ [];
  kinds = 0 ∷ 0 ∷ 2 ∷ [];
  depths = 1 ∷ 2 ∷ 3 ∷ [];
  parents = 0 ∷ parent ∷ 1 ∷ [];
  starts = 0 ∷ 0 ∷ 0 ∷ [];
  sizes = 0 ∷ 0 ∷ size ∷ [];
}

abbrev two_tops : Lists
two_tops = record { tags = 0x03 ∷ 0x03 ∷ []; kinds = 0 ∷ 0 ∷ []; depths = 1 ∷ 1 ∷ []; parents = 0 ∷ 0 ∷ []; starts = 0 ∷ 0 ∷ []; sizes = 0 ∷ 0 ∷ [] }

-- the name's parent is the top; not itself. Of its text a token octet is a fault. There are no more records than places, and there is one; a part of a tree is
-- one too, a top beside a top is none. A short name has eight characters at most, whatever their octets
pub ill-formed : (is_given (tree_given 3 (name_in 0 2) (0x61 ∷ 0x62 ∷ [])) ≡ true) × (is_given (tree_given 3 (name_in 1 2) (0x61 ∷ 0x62 ∷ [])) ≡ false)
    × (is_given (tree_given 3 (name_in 0 2) (0x61 ∷ 0x01 ∷ [])) ≡ false) × (is_given (tree_given 3 (name_in 0 2) (0x61 ∷ [])) ≡ false)
    × (is_given (tree_given 4 (name_in 0 2) (0x61 ∷ 0x62 ∷ [])) ≡ false) × (is_given (tree_given 0 (name_in 0 2) (0x61 ∷ 0x62 ∷ [])) ≡ false)
    × (is_given (tree_given 1 two_tops []) ≡ true) × (is_given (tree_given 2 two_tops []) ≡ false)
    × (is_given (tree_given 3 (name_in 0 16) (accented 8)) ≡ true) × (is_given (tree_given 3 (name_in 0 18) (accented 9)) ≡ false)
unfolding among layout token character single goes_on utf8 text entry or_itself stands expanded starts shown_length rows kind_in known attribute fits kind_of is_known is_items is_tokens is_text is_value is_top allowed latest stage_after limit not_above shown opens below past at_top placed body_keeps keeps body_in good here onward walk tree to_end rebuilt places tree_given accented is_given
ill-formed = (refl, refl, refl, refl, refl, refl, refl, refl, refl, refl)

-- of a short name's text by itself: a token octet is a fault, eight characters are kept, whatever their octets, and nine are too many
abbrev kept : List ℕ → Bool
kept body = text false body && shown 0x10 1 (shown_length [] body)

pub texts-told : (kept (0x61 ∷ 0x01 ∷ []) ≡ false) × (kept (accented 8) ≡ true) × (kept (accented 9) ≡ false)
unfolding among layout token character single goes_on utf8 text entry or_itself stands expanded starts shown_length limit not_above shown accented
texts-told = (refl, refl, refl)
