-- Octets held against the two before them: what a character of at most three octets looks like from its end, so that many octets can be held at once.
use Rattle.std.specs.Prelude.{◌≡◌, Bool, true, not, ◌&&◌, ◌||◌, List, [], ◌∷◌, ℕ, ◌-◌, ◌≤◌, ◌<◌, leb, length, get_or, take, drop}
use Rattle.text.specs.Text.{text}
use Rattle.text.specs.Runs.{within}

-- after these two octets another of a character is due: the last one begins one of several octets, or the one before it one of three
unfoldable pub awaits : ℕ → ℕ → Bool
awaits a b = leb 0xE0 a || leb 0xC0 b

-- an octet that is a character by itself, or begins one of two octets or of three whatever comes after its bits 10: not 0xC0, 0xC1 and 0xE0, of which some are
-- overlong, and none from 0xED on, of which some aren't characters of text
unfoldable pub begins : ℕ → Bool
begins c = within 0x01 0x13 c || within 0x20 0x7F c || within 0xC2 0xDF c || within 0xE1 0xEC c

-- an octet that may stand after two others
unfoldable pub linked : ℕ → ℕ → ℕ → Bool
linked a b c = awaits a b && within 0x80 0xBF c || not (awaits a b) && begins c

-- each octet of the third list after those at its place in the first two
unfoldable pub all_linked : List ℕ → List ℕ → List ℕ → Bool
all_linked [] q r = true
all_linked (a ∷ p) [] r = true
all_linked (a ∷ p) (b ∷ q) [] = true
all_linked (a ∷ p) (b ∷ q) (c ∷ r) = linked a b c && all_linked p q r

-- the sixteen octets from a place on, each after the two before it
abbrev pub linked_at : List ℕ → ℕ → Bool
linked_at s at = all_linked (take 16 (drop (at - 2) s)) (take 16 (drop (at - 1) s)) (take 16 (drop at s))

-- each octet from a place up to another may stand after the two before it
pub record LinkedTo (s : List ℕ) (at end : ℕ) : Type 0 where
  pub onward : at ≤ end
  pub inside : end ≤ length s
  pub each : (i : ℕ) → at ≤ i → i < end → linked (get_or s (i - 2) 0) (get_or s (i - 1) 0) (get_or s i 0) ≡ true

-- whole characters from a place up to another: the octets from the one are text where those from the other are
pub record PassedTo (tokens : Bool) (s : List ℕ) (at end : ℕ) : Type 0 where
  pub onward : at ≤ end
  pub inside : end ≤ length s
  pub same : text tokens (drop at s) ≡ text tokens (drop end s)
