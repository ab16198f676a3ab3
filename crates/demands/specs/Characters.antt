-- Request 2026-01: "counted in characters after expansion", as a general statement. A character is a code point, and its octets are those of UTF-8 (RFC 3629): no code
-- of the library and no other definition of it is named for that.
use Rattle.std.specs.Prelude.{◌≡◌, Bool, true, cond, ◌↔◌, List, [], ◌∷◌, ◌++◌, ℕ, ◌+◌, ◌/◌, ◌%◌, ◌≤◌, ◌<◌, ltb, length}
use Rattle.std.proofs.Math.Option.{some}
use Rattle.octets.specs.Counts.{as_characters}
use Rattle.text.specs.Text.{text}
use Rattle.text.specs.Tokens.{Entries, expanded, shown_length}
use Rattle.format.specs.Judge.{limit, shown}

-- the octets of a code point, and of several one behind the other
unfoldable pub encoded : ℕ → List ℕ
encoded c =
    cond (ltb c 0x80) (c ∷ [])
    (cond (ltb c 0x800) ((0xC0 + c / 64) ∷ (0x80 + c % 64) ∷ [])
    (cond (ltb c 0x10000) ((0xE0 + c / 4096) ∷ (0x80 + c / 64 % 64) ∷ (0x80 + c % 64) ∷ [])
    ((0xF0 + c / 262144) ∷ (0x80 + c / 4096 % 64) ∷ (0x80 + c / 64 % 64) ∷ (0x80 + c % 64) ∷ [])))

unfoldable pub written : List ℕ → List ℕ
written [] = []
written (c ∷ cs) = encoded c ++ written cs

-- each is a code point: up to 0x10FFFF
abbrev pub CodePoints : List ℕ → Type 0
CodePoints [] = Unit {0}
CodePoints (c ∷ cs) = (c < 0x110000) × CodePoints cs

-- a text that expands to the octets of n characters counts n, whatever the table and however many octets; and rule 13 holds it against the limit of its element by
-- that number
pub record CountedAs (table : Entries) (body characters : List ℕ) : Type 0 where
  pub counts : shown_length table body ≡ as_characters (length characters)
  pub held : (element most : ℕ) → limit element ≡ some (as_characters most) → (shown element 1 (shown_length table body) ≡ true) ↔ (length characters ≤ most)

abbrev pub CharactersCounted : Type 0
CharactersCounted = (table : Entries) (body characters : List ℕ) → CodePoints characters → expanded table body ≡ written characters → CountedAs table body characters

-- every valid text is the octets of some code points, so the statement above is about every text that is accepted
abbrev pub TextWritten : Type 0
TextWritten = (tokens : Bool) (octets : List ℕ) → text tokens octets ≡ true → (characters : List ℕ) × CodePoints characters × (octets ≡ written characters)
