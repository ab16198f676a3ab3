-- Where the text of an entry stands in its table.
use Rattle.std.specs.Prelude.{cond, List, [], ◌∷◌, ℕ, ◌+◌, ◌≤◌, eqb, length, take, drop, Some, None, Option as Optional}
use Rattle.std.proofs.Math.Option.{Option, none, some}
use Rattle.text.specs.Tokens.{Entries}
use Rattle.octets.specs.declared.Span.{Span}
use Rattle.octets.specs.Calls.{span}

-- where the text of the first entry with a tag stands in its table (document 01, Values: Tokens), among entries of which the first begins at a place.
-- Each takes a tag octet and a length octet before its text
unfoldable pub found : ℕ → Entries → ℕ → Optional Span
found at [] tag = None
found at (e ∷ es) tag = cond (eqb tag e.0) (Some (span (at + 2) (length e.1))) (found (at + 2 + length e.1) es tag)

-- the part of a table that such an answer names; it is the text of the entry (proofs/Entries, named)
unfoldable pub found_in : List ℕ → Optional Span → Option (List ℕ)
found_in table (Some x) = some (take x.size (drop x.start table))
found_in table None = none

-- that part lies inside the table (proofs/Entries, inside)
unfoldable pub Inside : List ℕ → Optional Span → Type 0
Inside table (Some x) = x.start + x.size ≤ length table
Inside table None = Unit {0}
