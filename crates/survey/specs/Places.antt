-- Which octets are the token table of an object, and where an item of a tag lies. Told of all octets, also of such as are no accepted object; what it says of an
-- accepted one is proved (proofs/Tables, and proofs/Seeking, span-says).
use Rattle.std.specs.Prelude.{cond, not, ◌&&◌, List, [], ℕ, zero, suc, ◌+◌, eqb, length, get_or, Some, None, Option as Optional}
use Rattle.std.proofs.Math.Option.{Option, none, some}
use Rattle.octets.specs.Header.{header_size, body_size}
use Rattle.octets.specs.Places.{is_whole, first_body, after_first, between, from_to}
use Rattle.octets.specs.declared.Lies.{Lies}
use Rattle.values.specs.Table.{attribute}

-- the body of the first 0x04 among items that lie one behind the other; none where an item before it runs past the end. Each item has octets, so it is found
-- in no more steps than there are octets
unfoldable pub table_within : (steps : ℕ) → List ℕ → List ℕ
table_within zero s = []
table_within (suc n) s = cond (is_whole s) (cond (eqb (get_or s 0 0) 4) (first_body s) (table_within n (after_first s))) []

unfoldable pub first_table : List ℕ → List ℕ
first_table s = table_within (length s) s

-- the token table of an object stands among the items of its top, which is its first item (document 01, Values: Tokens)
unfoldable pub table_body : List ℕ → List ℕ
table_body o = cond (is_whole o) (first_table (first_body o)) []

-- where the body of the first item of a tag lies among items that lie one behind the other, the first of them at a place. Nowhere, where an item on the way
-- runs past the end, or, of an attribute, where another item comes first (document 01, Framing: attributes, then child elements, then CDATA). Each item has
-- octets, so it is found in no more steps than there are octets
unfoldable pub span_within : (steps at tag : ℕ) → List ℕ → Optional Lies
span_within zero at tag s = None
span_within (suc n) at tag s =
    let later = span_within n (at + header_size s + body_size s) tag (after_first s) in
    let here = cond (eqb (get_or s 0 0) tag) (Some (from_to (at + header_size s) (at + header_size s + body_size s))) later in
    cond (attribute tag && not (attribute (get_or s 0 0))) None (cond (is_whole s) here None)

unfoldable pub span_of_tag : ℕ → List ℕ → Optional Lies
span_of_tag tag s = span_within (length s) 0 tag s

-- the body there
unfoldable pub body_by : List ℕ → Optional Lies → Option (List ℕ)
body_by part None = none
body_by part (Some lies) = some (between part lies.from lies.to)

unfoldable pub body_of_tag : ℕ → List ℕ → Option (List ℕ)
body_of_tag tag part = body_by part (span_of_tag tag part)
