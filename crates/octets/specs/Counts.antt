-- Counts of octets and counts of characters, each with a type of its own (document 01, Lengths of shown text and Refusal numbers 13 and 15, as change request
-- 2026-01 amends them). No definition takes one for the other or makes one of the other.
use Rattle.std.specs.Prelude.{Bool, List, ℕ, leb, length}
use Rattle.octets.specs.declared.counts.Octets.{Octets}
use Rattle.octets.specs.declared.counts.Characters.{Characters}

-- a number as a count of octets, and as a count of characters
abbrev pub as_octets : ℕ → Octets
as_octets n = record { 0 = n }

abbrev pub as_characters : ℕ → Characters
as_characters n = record { 0 = n }

-- how many octets a list of octets has
abbrev pub size_of : List ℕ → Octets
size_of o = as_octets (length o)

-- a count is no more than another of its own type: what rule 15 asks of the octets that a store or a room is to take, and rule 13 of the characters that are shown
abbrev pub octets_within : (n most : Octets) → Bool
octets_within n most = leb n.0 most.0

abbrev pub characters_within : (n most : Characters) → Bool
characters_within n most = leb n.0 most.0
