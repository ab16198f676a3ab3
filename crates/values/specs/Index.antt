-- The table as code keeps it: each row one number; and, made of these, for each element one number, with a digit for the element itself and one for each attribute in it.
use Rattle.std.specs.Prelude.{List, [], ◌∷◌, map, ℕ, zero, suc, ◌+◌, ◌-◌, ◌*◌, ◌/◌, ◌%◌, ◌^◌, get_or, Option, Some, None}
use Rattle.std.proofs.Math.Option.{Option as Maybe, none, some}
use Rattle.std.specs.Int.Bits.{bit_and, bit_or}
use Rattle.values.specs.declared.Kind.{Kind}
use Rattle.values.specs.declared.Kind.TheVariants.{HoldsItems, HoldsTokens, HoldsText, HoldsPlain, HoldsTime, HoldsBearer, HoldsNumber}
use Rattle.values.specs.declared.NumberKind.TheVariants.{Duration, ShortId, Enumerated, Integer}
use Rattle.values.specs.Table.{rows, kind_in}

-- the code of a kind (document 01, Framing and Expected forms: a constant table of pairs, each with a kind code), and 0 where there is none
unfoldable pub code_of : Maybe Kind → ℕ
code_of none = 0
code_of (some HoldsItems) = 1
code_of (some HoldsTokens) = 2
code_of (some HoldsText) = 3
code_of (some HoldsPlain) = 4
code_of (some HoldsTime) = 5
code_of (some HoldsBearer) = 6
code_of (some (HoldsNumber Duration)) = 7
code_of (some (HoldsNumber ShortId)) = 8
code_of (some (HoldsNumber Enumerated)) = 9
code_of (some (HoldsNumber Integer)) = 10

-- the answers of a lookup in the order of their codes, and the answer of a code
unfoldable pub answers : List (Option Kind)
answers =
    None ∷ Some HoldsItems ∷ Some HoldsTokens ∷ Some HoldsText ∷ Some HoldsPlain ∷ Some HoldsTime ∷ Some HoldsBearer
    ∷ Some (HoldsNumber Duration) ∷ Some (HoldsNumber ShortId) ∷ Some (HoldsNumber Enumerated) ∷ Some (HoldsNumber Integer) ∷ []

unfoldable pub known_by : ℕ → Option Kind
known_by code = get_or answers code None

-- the codes of so many attributes in an element, from a tag on, as digits to the base 16, the lowest first
unfoldable pub attribute_codes : ℕ → ℕ → ℕ → ℕ
attribute_codes element tag zero = 0
attribute_codes element tag (suc n) = code_of (kind_in element tag rows) + 16 * attribute_codes element (suc tag) n

-- the row of an element: as the lowest digit the code of the item with this tag itself, above it those of the attributes 0x80 to 0x86
unfoldable pub codes_of : ℕ → ℕ
codes_of element = code_of (kind_in 0 element rows) + 16 * attribute_codes element 0x80 7

-- a row of the table as one number: its element, its tag and its kind code, an octet each
unfoldable pub packed_row : ℕ × ℕ × Kind → ℕ
packed_row r = r.0 * 0x10000 + r.1 * 0x100 + code_of (some r.2)

unfoldable pub packed_rows : List ℕ
packed_rows = map packed_row rows

-- the row of an element, put together from such numbers, which stand from a place up to another, its own first: its own code, and the digits of its attributes
unfoldable pub digit_of : ℕ → ℕ
digit_of pair = bit_and pair 15 * 2 ^ (4 * bit_and (pair / 2 ^ 8 + 1) 7) % 2 ^ 32

unfoldable pub with_digits : List ℕ → ℕ → ℕ → ℕ → ℕ
with_digits pairs codes from zero = codes
with_digits pairs codes from (suc n) = with_digits pairs (bit_or codes (digit_of (get_or pairs from 0))) (suc from) n

unfoldable pub row_of : List ℕ → ℕ → ℕ → ℕ
row_of pairs from to = with_digits pairs (bit_and (get_or pairs from 0) 15) (from + 1) (to - (from + 1))
