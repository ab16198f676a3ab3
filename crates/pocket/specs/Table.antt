-- What the Basic profile has, by data type: annex A of 002 with the tags of its annexes D and E (request 2026-07).
use Rattle.std.specs.Prelude.{Bool, cond, List, [], ◌∷◌, ℕ, eqb}
use Rattle.survey.specs.First.{in_rows}
use Rattle.pocket.specs.declared.DataType.{DataType}
use Rattle.pocket.specs.declared.DataType.TheVariants.{Service, Programme, Group, Untabled}

-- an element, and an attribute or an element that may stand directly in it, by the annex's rows: the upper octet of a number is the element's tag, the lower one the other's.
-- The top stands in 0. Whether a row is required isn't asked. The token table and the default language are always allowed directly in the top
abbrev pub rows : DataType → List ℕ
-- tables A.1 (DAB) and A.2 (DRM), both of which count
rows Service =
    -- serviceInformation: version, and what stands in every top: the token table, the default language
    0x00_03 ∷ 0x03_80 ∷ 0x03_04 ∷ 0x03_06
    -- ensemble: id
    ∷ 0x03_26 ∷ 0x26_80
    -- shortName, mediumName: xml:lang
    ∷ 0x26_10 ∷ 0x28_10 ∷ 0x10_80 ∷ 0x26_11 ∷ 0x28_11 ∷ 0x11_80
    -- mediaDescription
    ∷ 0x26_13 ∷ 0x28_13
    -- multimedia: type, mimeValue, xml:lang, url, width, height
    ∷ 0x13_2B ∷ 0x2B_83 ∷ 0x2B_80 ∷ 0x2B_81 ∷ 0x2B_82 ∷ 0x2B_84 ∷ 0x2B_85
    -- service, in an ensemble (A.1) and in serviceInformation (A.2)
    ∷ 0x26_28 ∷ 0x03_28
    -- bearer of a service: id
    ∷ 0x28_29 ∷ 0x29_80
    -- radiodns: fqdn, serviceIdentifier
    ∷ 0x28_31 ∷ 0x31_80 ∷ 0x31_81 ∷ []
-- table A.3
rows Programme =
    -- epg: the token table, the default language
    0x00_02 ∷ 0x02_04 ∷ 0x02_06
    -- schedule: version
    ∷ 0x02_21 ∷ 0x21_80
    -- scope: startTime, stopTime
    ∷ 0x21_24 ∷ 0x24_80 ∷ 0x24_81
    -- serviceScope: id
    ∷ 0x24_25 ∷ 0x25_80
    -- programme: shortId, recommendation, broadcast
    ∷ 0x21_1C ∷ 0x1C_81 ∷ 0x1C_83 ∷ 0x1C_84
    -- mediumName, longName: xml:lang
    ∷ 0x1C_11 ∷ 0x11_80 ∷ 0x1C_12 ∷ 0x12_80
    -- location; time: time, duration; bearer of a location: id
    ∷ 0x1C_19 ∷ 0x19_2C ∷ 0x2C_80 ∷ 0x2C_81 ∷ 0x19_2D ∷ 0x2D_80
    -- mediaDescription; shortDescription: xml:lang
    ∷ 0x1C_13 ∷ 0x13_1A ∷ 0x1A_80
    -- genre: href, type
    ∷ 0x1C_14 ∷ 0x14_80 ∷ 0x14_81
    -- memberOf: shortId, index
    ∷ 0x1C_17 ∷ 0x17_81 ∷ 0x17_82 ∷ []
-- table A.4
rows Group =
    -- epg: the token table, the default language
    0x00_02 ∷ 0x02_04 ∷ 0x02_06
    -- programmeGroups: version
    ∷ 0x02_20 ∷ 0x20_80
    -- programmeGroup: shortId, type, numOfItems
    ∷ 0x20_23 ∷ 0x23_81 ∷ 0x23_83 ∷ 0x23_84
    -- mediumName, longName: xml:lang
    ∷ 0x23_11 ∷ 0x11_80 ∷ 0x23_12 ∷ 0x12_80
    -- genre: href, type
    ∷ 0x23_14 ∷ 0x14_80 ∷ 0x14_81
    -- memberOf: shortId, index
    ∷ 0x23_17 ∷ 0x17_81 ∷ 0x17_82 ∷ []
-- no table, so not even a top
rows Untabled = []

-- CDATA is neither element nor attribute, and stands where its element does
abbrev pub anywhere : List ℕ
anywhere = 0x01 ∷ []

-- a known item of a tag may stand directly in an element
unfoldable pub allowed_in : DataType → (parent tag : ℕ) → Bool
allowed_in d = in_rows (rows d) anywhere

-- the data types by number, for callers in C
unfoldable pub data_type : ℕ → DataType
data_type n = cond (eqb n 0) Service (cond (eqb n 1) Programme (cond (eqb n 2) Group Untabled))
