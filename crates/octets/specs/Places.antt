-- Where an item lies in octets (document 01, Framing). Told of all octets, also of such as are no accepted object; that the items of an accepted one lie in it is
-- proved (reader/proofs/Opening).
use Rattle.std.specs.Prelude.{Bool, cond, ◌&&◌, List, ℕ, ◌+◌, ◌-◌, leb, length, take, drop, Option, None, Some}
use Rattle.std.proofs.lemmas.List.Edits.{sets}
use Rattle.octets.specs.Header.{header_size, body_size}
use Rattle.octets.specs.declared.Lies.{Lies}

-- the item with which octets begin doesn't run past their end
abbrev pub is_whole : List ℕ → Bool
is_whole s = leb (header_size s + body_size s) (length s)

-- what lies between two places
abbrev pub from_to : (from to : ℕ) → Lies
from_to from to = record { from = from; to = to }

-- where the body of the item lies that begins at a place of a part, unless it runs past the part's end
unfoldable pub lies_in : ℕ → List ℕ → Option Lies
lies_in at s = cond (is_whole s) (Some (from_to (at + header_size s) (at + header_size s + body_size s))) None

unfoldable pub lies_at : List ℕ → ℕ → Option Lies
lies_at part at = lies_in at (drop at part)

-- the body of the first item, and the octets after it
abbrev pub first_body : List ℕ → List ℕ
first_body s = take (body_size s) (drop (header_size s) s)

abbrev pub after_first : List ℕ → List ℕ
after_first s = drop (body_size s) (drop (header_size s) s)

-- the octets between two places
abbrev pub between : List ℕ → ℕ → ℕ → List ℕ
between part from to = take (to - from) (drop from part)

-- they lie so many places higher as well, where these are places of the list: what lies between the two and before them is as it was
unfoldable pub moved_up : List ℕ → (from end by : ℕ) → List ℕ
moved_up l from end by = cond (leb from end && leb (end + by) (length l)) (sets l (from + by) (between l from end)) l
