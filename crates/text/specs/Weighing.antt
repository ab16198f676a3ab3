-- A token table gone through once, and a text looked at once by what was found there: whether it is text (rule 10), whether each of its tokens has an entry
-- (rule 12), and how many characters are shown of it (rule 13). By the marks of a table and what its tokens show that is what the definitions say (proofs/WeighLaws).
use Rattle.std.specs.Prelude.{◌≡◌, Bool, true, cond, not, ◌&&◌, ◌||◌, List, [], ◌∷◌, length, get_or, Option, Some, None}
use Rattle.std.specs.Prelude.{ℕ, ◌+◌, ◌/◌, ◌%◌, ◌^◌, ◌<◌, min, eqb, ltb}
use Rattle.octets.specs.declared.counts.Characters.{Characters}
use Rattle.octets.specs.Counts.{as_characters}
use Rattle.octets.specs.Numbers.{among}
use Rattle.text.specs.Text.{token, text}
use Rattle.text.specs.Tokens.{Entries, stands, starts}
use Rattle.text.specs.declared.Weighed.{Weighed}

-- the bit of a number in a mask
abbrev pub bit : ℕ → ℕ → Bool
bit mask t = eqb (mask / 2 ^ t % 2) 1

-- the bits of a mask are the tokens among some octets
pub record Marks (mask : ℕ) (octets : List ℕ) : Type 0 where
  pub bits : (k : ℕ) → bit mask k ≡ token k && among k octets

-- the tags of entries
unfoldable pub tags : Entries → List ℕ
tags [] = []
tags (e ∷ es) = e.0 ∷ tags es

-- how many octets stand for each octet below a bound, in a list of 32 places
pub record Widths (bound : ℕ) (es : Entries) (widths : List ℕ) : Type 0 where
  pub long : length widths ≡ 32
  pub each : (b : ℕ) → b < bound → get_or widths b 0 ≡ length (stands es b)

-- and how many characters
pub record Shows (bound : ℕ) (es : Entries) (shows : List ℕ) : Type 0 where
  pub long : length shows ≡ 32
  pub each : (b : ℕ) → b < bound → get_or shows b 0 ≡ starts (stands es b)

-- an octet that wants no entry, or has one by a mask
unfoldable pub marked : ℕ → ℕ → Bool
marked marks b = not (token b) || bit marks b

unfoldable pub covered_by : ℕ → List ℕ → Bool
covered_by marks [] = true
covered_by marks (b ∷ bs) = marked marks b && covered_by marks bs

-- the width of an octet: that at its place, or 1 above the tokens
unfoldable pub width_at : List ℕ → ℕ → ℕ
width_at widths b = cond (ltb b 0x14) (get_or widths b 0) 1

-- the width of a text, octet by octet
unfoldable pub weight : List ℕ → List ℕ → ℕ
weight widths [] = 0
weight widths (b ∷ bs) = width_at widths b + weight widths bs

-- how many characters are shown for an octet: those at its place, or 1 above the tokens where it begins a character, and none where it goes on with one
unfoldable pub shown_at : List ℕ → ℕ → ℕ
shown_at shows b = cond (ltb b 0x14) (get_or shows b 0) (cond (eqb (b / 64) 2) 0 1)

-- how many are shown for a text
unfoldable pub shown_by : List ℕ → List ℕ → ℕ
shown_by shows [] = 0
shown_by shows (b ∷ bs) = shown_at shows b + shown_by shows bs

abbrev pub covered_shown : Bool → Characters → Weighed
covered_shown covered shown = record { covered = covered; shown = shown }

-- weigh: a text by the marks of a table and what its tokens show, what is shown of it counted up to a most
unfoldable pub weighed_by : ℕ → List ℕ → List ℕ → Characters → Option Weighed
weighed_by marks shows s most = cond (text true s) (Some (covered_shown (covered_by marks s) (as_characters (min most.0 (shown_by shows s))))) None
