-- The known items with the kind of each body: annexes D and E of 002, and CDATA (document 01, Framing; the points decided in docs/DECISIONS.md).
use Rattle.std.specs.Prelude.{Bool, false, cond, ◌&&◌, ◌||◌, List, [], ◌∷◌, ℕ, eqb, ltb}
use Rattle.std.proofs.Math.Option.{Option, none, some}
use Rattle.values.specs.declared.Kind.{Kind}
use Rattle.values.specs.declared.Kind.TheVariants.{HoldsItems, HoldsTokens, HoldsText, HoldsPlain, HoldsTime, HoldsBearer, HoldsNumber}
use Rattle.values.specs.declared.NumberKind.TheVariants.{Duration, ShortId, Enumerated, Integer}

-- element, tag, kind. Under 0 stand CDATA and the elements of annex D, which are known in any element; behind each element, under its tag, stand its attributes of
-- annex E. Rows that an annex marks as not used are left out, so their tags are unknown
unfoldable pub rows : List (ℕ × ℕ × Kind)
rows =
    -- CDATA
    (0, 0x01, HoldsText)
    -- epg
    ∷ (0, 0x02, HoldsItems)
    -- serviceInformation
    ∷ (0, 0x03, HoldsItems) ∷ (0x03, 0x80, HoldsNumber Integer) ∷ (0x03, 0x81, HoldsTime) ∷ (0x03, 0x82, HoldsText) ∷ (0x03, 0x83, HoldsText)
    -- tokenTable
    ∷ (0, 0x04, HoldsTokens)
    -- defaultLanguage
    ∷ (0, 0x06, HoldsText)
    -- shortName
    ∷ (0, 0x10, HoldsItems) ∷ (0x10, 0x80, HoldsText)
    -- mediumName
    ∷ (0, 0x11, HoldsItems) ∷ (0x11, 0x80, HoldsText)
    -- longName
    ∷ (0, 0x12, HoldsItems) ∷ (0x12, 0x80, HoldsText)
    -- mediaDescription
    ∷ (0, 0x13, HoldsItems)
    -- genre
    ∷ (0, 0x14, HoldsItems) ∷ (0x14, 0x80, HoldsPlain) ∷ (0x14, 0x81, HoldsNumber Enumerated)
    -- keywords
    ∷ (0, 0x16, HoldsItems) ∷ (0x16, 0x80, HoldsText)
    -- memberOf
    ∷ (0, 0x17, HoldsItems) ∷ (0x17, 0x80, HoldsText) ∷ (0x17, 0x81, HoldsNumber ShortId) ∷ (0x17, 0x82, HoldsNumber Integer)
    -- link
    ∷ (0, 0x18, HoldsItems) ∷ (0x18, 0x80, HoldsText) ∷ (0x18, 0x81, HoldsText) ∷ (0x18, 0x82, HoldsText) ∷ (0x18, 0x83, HoldsText)
    ∷ (0x18, 0x84, HoldsTime)
    -- location
    ∷ (0, 0x19, HoldsItems)
    -- shortDescription
    ∷ (0, 0x1A, HoldsItems) ∷ (0x1A, 0x80, HoldsText)
    -- longDescription
    ∷ (0, 0x1B, HoldsItems) ∷ (0x1B, 0x80, HoldsText)
    -- programme
    ∷ (0, 0x1C, HoldsItems) ∷ (0x1C, 0x80, HoldsText) ∷ (0x1C, 0x81, HoldsNumber ShortId) ∷ (0x1C, 0x82, HoldsNumber Integer)
    ∷ (0x1C, 0x83, HoldsNumber Enumerated) ∷ (0x1C, 0x84, HoldsNumber Enumerated) ∷ (0x1C, 0x86, HoldsText)
    -- programmeGroups
    ∷ (0, 0x20, HoldsItems) ∷ (0x20, 0x80, HoldsNumber Integer) ∷ (0x20, 0x81, HoldsTime) ∷ (0x20, 0x82, HoldsText)
    -- schedule
    ∷ (0, 0x21, HoldsItems) ∷ (0x21, 0x80, HoldsNumber Integer) ∷ (0x21, 0x81, HoldsTime) ∷ (0x21, 0x82, HoldsText)
    -- programmeGroup
    ∷ (0, 0x23, HoldsItems) ∷ (0x23, 0x80, HoldsText) ∷ (0x23, 0x81, HoldsNumber ShortId) ∷ (0x23, 0x82, HoldsNumber Integer)
    ∷ (0x23, 0x83, HoldsNumber Enumerated) ∷ (0x23, 0x84, HoldsNumber Integer)
    -- scope
    ∷ (0, 0x24, HoldsItems) ∷ (0x24, 0x80, HoldsTime) ∷ (0x24, 0x81, HoldsTime)
    -- serviceScope
    ∷ (0, 0x25, HoldsItems) ∷ (0x25, 0x80, HoldsBearer)
    -- ensemble
    ∷ (0, 0x26, HoldsItems) ∷ (0x26, 0x80, HoldsPlain)
    -- service
    ∷ (0, 0x28, HoldsItems) ∷ (0x28, 0x80, HoldsNumber Integer)
    -- bearer, of a service
    ∷ (0, 0x29, HoldsItems) ∷ (0x29, 0x80, HoldsBearer) ∷ (0x29, 0x82, HoldsText)
    -- multimedia
    ∷ (0, 0x2B, HoldsItems) ∷ (0x2B, 0x80, HoldsText) ∷ (0x2B, 0x81, HoldsText) ∷ (0x2B, 0x82, HoldsText) ∷ (0x2B, 0x83, HoldsNumber Enumerated)
    ∷ (0x2B, 0x84, HoldsNumber Integer) ∷ (0x2B, 0x85, HoldsNumber Integer)
    -- time
    ∷ (0, 0x2C, HoldsItems) ∷ (0x2C, 0x80, HoldsTime) ∷ (0x2C, 0x81, HoldsNumber Duration) ∷ (0x2C, 0x82, HoldsTime)
    ∷ (0x2C, 0x83, HoldsNumber Duration)
    -- bearer, of a location or onDemand
    ∷ (0, 0x2D, HoldsItems) ∷ (0x2D, 0x80, HoldsBearer) ∷ (0x2D, 0x82, HoldsText)
    -- programmeEvent
    ∷ (0, 0x2E, HoldsItems) ∷ (0x2E, 0x80, HoldsText) ∷ (0x2E, 0x81, HoldsNumber ShortId) ∷ (0x2E, 0x82, HoldsNumber Integer)
    ∷ (0x2E, 0x83, HoldsNumber Enumerated) ∷ (0x2E, 0x84, HoldsNumber Enumerated) ∷ (0x2E, 0x86, HoldsText)
    -- relativeTime
    ∷ (0, 0x2F, HoldsItems) ∷ (0x2F, 0x80, HoldsNumber Duration) ∷ (0x2F, 0x81, HoldsNumber Duration) ∷ (0x2F, 0x82, HoldsNumber Duration)
    ∷ (0x2F, 0x83, HoldsNumber Duration)
    -- radiodns
    ∷ (0, 0x31, HoldsItems) ∷ (0x31, 0x80, HoldsText) ∷ (0x31, 0x81, HoldsText)
    -- geolocation
    ∷ (0, 0x32, HoldsItems) ∷ (0x32, 0x80, HoldsText) ∷ (0x32, 0x81, HoldsText)
    -- country
    ∷ (0, 0x33, HoldsItems)
    -- point
    ∷ (0, 0x34, HoldsPlain)
    -- polygon
    ∷ (0, 0x35, HoldsPlain)
    -- onDemand
    ∷ (0, 0x36, HoldsItems)
    -- presentationTime
    ∷ (0, 0x37, HoldsItems) ∷ (0x37, 0x80, HoldsTime) ∷ (0x37, 0x81, HoldsTime) ∷ (0x37, 0x82, HoldsNumber Duration)
    -- acquisitionTime
    ∷ (0, 0x38, HoldsItems) ∷ (0x38, 0x80, HoldsTime) ∷ (0x38, 0x81, HoldsTime) ∷ []

-- 0x80 to 0xFF is an attribute's tag; below stand CDATA, 0x01, and elements
unfoldable pub attribute : ℕ → Bool
attribute tag = ltb 0x7F tag

unfoldable pub kind_in : ℕ → ℕ → List (ℕ × ℕ × Kind) → Option Kind
kind_in e tag [] = none
kind_in e tag (r ∷ rs) = cond (eqb e r.0 && eqb tag r.1) (some r.2) (kind_in e tag rs)

-- the kind of an item directly in an element, where the item is known: an attribute by that element, any other item by its tag alone
unfoldable pub known : ℕ → ℕ → Option Kind
known parent tag = kind_in (cond (attribute tag) parent 0) tag rows

-- the defaults that an attribute has by itself: its element, its tag, and the number of the value (change request 2026-05). TS 102 818 gives them, and annex F of 002
-- gives a default the number 1. Its other defaults are of items that 002 doesn't encode, or of xml:lang, which 0x06 governs (docs/DECISIONS.md goes through all)
unfoldable pub defaults : List (ℕ × ℕ × ℕ)
defaults =
    -- genre: type "main"
    (0x14, 0x81, 1)
    -- programme: recommendation "no", broadcast "on-air"
    ∷ (0x1C, 0x83, 1) ∷ (0x1C, 0x84, 1)
    -- programmeEvent: the same
    ∷ (0x2E, 0x83, 1) ∷ (0x2E, 0x84, 1) ∷ []

unfoldable pub default_in : (element tag n : ℕ) → List (ℕ × ℕ × ℕ) → Bool
default_in e tag n [] = false
default_in e tag n (r ∷ rs) = eqb n r.2 && (eqb e r.0 && eqb tag r.1) || default_in e tag n rs
