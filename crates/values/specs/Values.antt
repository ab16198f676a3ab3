-- The values of attributes and texts by kind: which octets are one, what they mean, and the normal octets of a meaning (document 01, Values).
use Rattle.std.specs.Prelude.{Bool, true, false, List, ℕ, eqb, length}
use Rattle.octets.specs.Numbers.{value, digits}
use Rattle.text.specs.Tokens.{Entries, expanded}
use Rattle.values.specs.declared.Kind.{Kind}
use Rattle.values.specs.declared.Kind.TheVariants.{HoldsItems, HoldsTokens, HoldsText, HoldsPlain, HoldsTime, HoldsBearer, HoldsNumber}
use Rattle.values.specs.declared.NumberKind.{NumberKind}
use Rattle.values.specs.declared.NumberKind.TheVariants.{Duration, ShortId, Enumerated, Integer}
use Rattle.values.specs.declared.Time.{Time}
use Rattle.values.specs.declared.Bearer.{Bearer}
use Rattle.values.specs.Table.{defaults, default_in}
use Rattle.values.specs.Times.{time_of, is_time, wrong_time, time_octets}
use Rattle.values.specs.Bearers.{bearer_of, is_bearer, bearer_octets}

-- how many octets a number has: a duration 2, in seconds (002, clause 4.7.5), a short id 3 (4.7.2), an enumerated value 1 (4.6), and index, version, numOfItems,
-- width and height 2 (4.8.2 to 4.8.5)
unfoldable pub width : NumberKind → ℕ
width Duration = 2
width ShortId = 3
width Enumerated = 1
width Integer = 2

-- rule 9: the octets are a value of the kind
unfoldable pub fits : Kind → List ℕ → Bool
fits HoldsItems o = true
fits HoldsTokens o = true
fits HoldsText o = true
fits HoldsPlain o = true
fits HoldsTime o = is_time o
fits HoldsBearer o = is_bearer o
fits (HoldsNumber n) o = eqb (length o) (width n)

-- the field that refusal 9 carries: of a time the one that is wrong, 0 of other kinds (change request 2026-04)
unfoldable pub wrong_field : Kind → List ℕ → ℕ
wrong_field HoldsItems o = 0
wrong_field HoldsTokens o = 0
wrong_field HoldsText o = 0
wrong_field HoldsPlain o = 0
wrong_field HoldsTime o = wrong_time o
wrong_field HoldsBearer o = 0
wrong_field (HoldsNumber n) o = 0

-- what an attribute means: octets, expanded where they are text; a number in so many octets; a time; a bearer
pub data Value : Type 0 where
  octets : List ℕ → Value
  number : ℕ → ℕ → Value
  time : Time → Value
  bearer : Bearer → Value

-- what octets of a kind mean under the entries of a token table
unfoldable pub meant : Entries → Kind → List ℕ → Value
meant table HoldsItems o = octets o
meant table HoldsTokens o = octets o
meant table HoldsText o = octets (expanded table o)
meant table HoldsPlain o = octets o
meant table HoldsTime o = time (time_of o)
meant table HoldsBearer o = bearer (bearer_of o)
meant table (HoldsNumber n) o = number (width n) (value o)

-- the normal octets of a value
unfoldable pub octets_of : Value → List ℕ
octets_of (octets o) = o
octets_of (number w n) = digits w n
octets_of (time t) = time_octets t
octets_of (bearer b) = bearer_octets b

-- the value of an attribute of an element is its default (change request 2026-05)
unfoldable pub is_default : (parent tag : ℕ) → Value → Bool
is_default parent tag (octets o) = false
is_default parent tag (number w n) = default_in parent tag n defaults
is_default parent tag (time t) = false
is_default parent tag (bearer b) = false
