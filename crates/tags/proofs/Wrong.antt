-- Wrong answers, refuted by computing the definitions: for each public call two, of the kind that slips make.
use mathlib.Core.Path.{◌≡◌}
use mathlib.Core.Bool.{true, false, false≢true, true≢false}
use native.Mathlib.Omega.{arith}
use Rattle.octets.specs.Counts.{as_characters}
use Rattle.octets.proofs.Tests.{never}
use Rattle.values.specs.declared.Kind.TheVariants.{HoldsItems, HoldsTokens}
use Rattle.values.specs.Table.{rows, kind_in, known, attribute}
use Rattle.format.specs.Judge.{is_top, allowed, latest, stage_after, limit, not_above, shown, is_items, is_text}
use Rattle.format.specs.Meaning.{opens}
use Rattle.tags.specs.Rules.{within_depth, has_bit, with_bit}
use Rattle.tags.specs.Listed.{listed_as}
use Rattle.tags.specs.declared.Listed.TheVariants.{Nothing, Value}

-- `is_top`: epg alone; the token table taken for a top
pub epg-alone : is_top 3 ≡ false → ⊥
unfolding is_top
epg-alone h = true≢false h

pub table-a-top : is_top 4 ≡ true → ⊥
unfolding is_top
table-a-top h = false≢true h

-- `is_allowed`: a token table in an inner element; a top within a top
pub table-within : allowed 0x28 4 ≡ true → ⊥
unfolding allowed is_top
table-within h = false≢true h

pub top-within-top : allowed 3 3 ≡ true → ⊥
unfolding allowed is_top
top-within-top h = false≢true h

-- `latest_of`: a token table after the language; an attribute after an element
pub table-after-language : latest 4 ≡ 1 → ⊥
unfolding latest attribute
table-after-language h = omega arith

pub attribute-after-element : latest 0x80 ≡ 2 → ⊥
unfolding latest attribute
attribute-after-element h = omega arith

-- `stage_after`: the language leaves room for a table behind it; CDATA is as any element
pub language-as-table : stage_after 6 ≡ 1 → ⊥
unfolding stage_after attribute
language-as-table h = omega arith

pub cdata-as-element : stage_after 1 ≡ 2 → ⊥
unfolding stage_after attribute
cdata-as-element h = omega arith

-- `is_within_depth`: an element at depth 17; the CDATA of an element at depth 16 refused
pub element-at-seventeen : within_depth 0x28 17 ≡ true → ⊥
unfolding attribute
element-at-seventeen h = false≢true h

pub cdata-at-seventeen : within_depth 1 17 ≡ false → ⊥
unfolding attribute
cdata-at-seventeen h = true≢false h

-- `is_short`: the limit of mediumName for shortName; no limit for longDescription; a limit itself refused
pub medium-for-short : true ≡ shown 0x10 1 (as_characters 16) → ⊥
unfolding shown not_above limit
medium-for-short h = true≢false h

pub no-limit-of-long : true ≡ shown 0x1B 1 (as_characters 1_201) → ⊥
unfolding shown not_above limit
no-limit-of-long h = true≢false h

pub limit-refused : false ≡ shown 0x10 1 (as_characters 8) → ⊥
unfolding shown not_above limit
limit-refused h = false≢true h

-- `has_bit`: the bit of one tag taken for the next one's; a tag without a bit that has one
pub bit-of-next : has_bit 1 0x81 ≡ true → ⊥
unfolding has_bit
bit-of-next h = false≢true h

pub bit-past-mask : has_bit 1 0xC0 ≡ true → ⊥
unfolding has_bit
bit-past-mask h = false≢true h

-- `with_bit`: bits before it lost; a bit that was set taken away
pub others-lost : with_bit 1 0x81 ≡ 2 → ⊥
unfolding with_bit
others-lost h = omega arith

pub bit-toggled : with_bit 1 0x80 ≡ 0 → ⊥
unfolding with_bit
bit-toggled h = omega arith

-- `listed_as`: the token table listed; an element taken for a value; CDATA not listed
pub table-listed : listed_as (known 0x03 0x04) ≡ Value HoldsTokens → ⊥
unfolding listed_as known rows kind_in attribute
table-listed h = never (cc)

pub element-a-value : listed_as (known 0x03 0x28) ≡ Value HoldsItems → ⊥
unfolding listed_as known rows kind_in attribute
element-a-value h = never (cc)

pub cdata-unlisted : listed_as (known 0x10 0x01) ≡ Nothing → ⊥
unfolding listed_as known rows kind_in attribute
cdata-unlisted h = never (cc)

-- `holds_items`: CDATA taken for an element that holds items; the token table
pub cdata-opened : opens 0x01 ≡ true → ⊥
unfolding opens is_items known rows kind_in attribute
cdata-opened h = false≢true h

pub table-opened : opens 0x04 ≡ true → ⊥
unfolding opens is_items known rows kind_in attribute
table-opened h = false≢true h

-- `holds_text`: an unknown attribute taken for text; CDATA of a name not
pub unknown-a-text : is_text (known 0x10 0xBF) ≡ true → ⊥
unfolding is_text known rows kind_in attribute
unknown-a-text h = false≢true h

pub cdata-no-text : is_text (known 0x10 0x01) ≡ false → ⊥
unfolding is_text known rows kind_in attribute
cdata-no-text h = true≢false h
