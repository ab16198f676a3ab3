-- What the calls answer that format's definitions don't say alone (document 01, Refusal numbers: 7 and 8).
use Rattle.std.specs.Prelude.{◌≡◌, Bool, true, cond, ◌&&◌, ◌||◌, List, ℕ, ◌-◌, ◌^◌, eqb, leb}
use Rattle.std.specs.Int.Bits.{bit_or}
use Rattle.octets.specs.Numbers.{among}
use Rattle.text.specs.Weighing.{bit}
use Rattle.values.specs.Table.{known, attribute}
use Rattle.format.specs.Judge.{is_known}

-- rule 7: an element stands at depth 16 or above it; attributes and CDATA are not held to this
abbrev pub within_depth : (tag depth : ℕ) → Bool
within_depth tag depth = attribute tag || eqb tag 1 || leb depth 16

-- rule 8: the tags of an element's attributes so far are bits of one number, the lowest that of 0x80. Only the 64 tags up to 0xBF have one; no tag above them is
-- known. The bit of a tag is set;
unfoldable pub has_bit : (mask tag : ℕ) → Bool
has_bit mask tag = leb 0x80 tag && leb tag 0xBF && bit mask (tag - 0x80)

-- the mask with the bit of a tag, where it has one;
unfoldable pub with_bit : (mask tag : ℕ) → ℕ
with_bit mask tag = cond (leb 0x80 tag && leb tag 0xBF) (bit_or mask (2 ^ (tag - 0x80))) mask

-- and a mask tells of the tags seen all that the rule asks: which known attributes of the element are among them
unfoldable pub Seen : (parent mask : ℕ) (seen : List ℕ) → Type 0
Seen parent mask seen = (tag : ℕ) → is_known (known parent tag) ≡ true → has_bit mask tag ≡ attribute tag && among tag seen
