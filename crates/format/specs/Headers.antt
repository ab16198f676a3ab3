-- How many items reading judges, known and unknown (change request 2026-09): a count in the framing, which asks no rule of judging and knows no refusal.
use Rattle.std.specs.Prelude.{cond, List, [], ◌∷◌, ℕ, zero, suc, ◌+◌, length}
use Rattle.octets.specs.Places.{first_body, after_first}
use Rattle.values.specs.Table.{known}
use Rattle.format.specs.Judge.{is_items}

-- the headers in the body of an element of a tag: one for each item in it, and those inside each item that holds items. An unknown item isn't looked into; the token
-- table, 0x06 and elements of plain octets hold no items. The first number is above the length of the part: it only shows that this ends
unfoldable pub headers_in : (fuel parent : ℕ) → List ℕ → ℕ
headers_in zero parent part = 0
headers_in (suc k) parent [] = 0
headers_in (suc k) parent (tag ∷ rest) =
    let inside = headers_in k tag (first_body (tag ∷ rest)) in
    suc (cond (is_items (known parent tag)) inside 0 + headers_in k parent (after_first (tag ∷ rest)))

abbrev pub headers : (parent : ℕ) → List ℕ → ℕ
headers parent part = headers_in (suc (length part)) parent part

-- those of an object, which is read like the body of an element with the tag 0
abbrev pub headers_of : List ℕ → ℕ
headers_of o = headers 0 o
