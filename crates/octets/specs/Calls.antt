-- What the calls of this crate answer. What those that put octets leave in a lent slice is said in Puts.
use Rattle.std.specs.Prelude.{◌≡◌, Bool, cond, ◌&&◌, List, [], ◌∷◌, ◌++◌, ℕ, ◌^◌, ◌<◌, leb, ltb, length, Option, None, Some}
use Rattle.octets.specs.Numbers.{value, digits}
use Rattle.octets.specs.Header.{header_size, body_size, length_field}
use Rattle.octets.specs.declared.Span.{Span}
use Rattle.octets.specs.declared.LengthForm.{LengthForm}
use Rattle.octets.specs.declared.LengthForm.TheVariants.{One, Two}

-- a part of so many octets that begins at a place
abbrev pub span : (start size : ℕ) → Span
span start size = record { start = start; size = size }

-- the span of the body of the item with which a part begins, unless the part ends within the header (document 01, Framing, and 2 of the refusal numbers)
unfoldable pub header_of : List ℕ → Option Span
header_of part = cond (leb (header_size part) (length part)) (Some (span (header_size part) (body_size part))) None

-- the number that octets write, of which there are at most four
unfoldable pub number_of : List ℕ → Option ℕ
number_of s = cond (leb (length s) 4) (Some (value s)) None

-- a number has octets of this width: four at most, and enough of them
unfoldable pub fits_width : (width n : ℕ) → Bool
fits_width width n = leb width 4 && ltb n (256 ^ width)

-- a form of the length field: the octet that announces it, and how many octets the number then takes
unfoldable pub announced : LengthForm → List ℕ
announced One = []
announced Two = 0xFE ∷ []

unfoldable pub width_of : LengthForm → ℕ
width_of One = 1
width_of Two = 2

-- the form in which the length field of normal form stands. It has room for every length that has a field at all: those below 65,536
pub record Formed (n : ℕ) (form : LengthForm) : Type 0 where
  pub field : length_field n ≡ announced form ++ digits (width_of form) n
  pub fits : n < 256 ^ 2 → n < 256 ^ width_of form
