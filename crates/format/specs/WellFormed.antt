-- The meanings that an object can have: document 01's rules 4, 6, 7, 9, 10 and 13 said of a meaning.
use Rattle.std.specs.Prelude.{◌≡◌, true, false, List, [], ℕ, suc, ◌<◌, leb}
use Rattle.std.proofs.Math.Option.{Option, none, some}
use Rattle.text.specs.Text.{text}
use Rattle.text.specs.Tokens.{shown_length}
use Rattle.values.specs.declared.Kind.{Kind}
use Rattle.values.specs.declared.Kind.TheVariants.{HoldsItems, HoldsPlain}
use Rattle.values.specs.Table.{known, attribute}
use Rattle.values.specs.Values.{Value}
use Rattle.values.specs.Proper.{Proper}
use Rattle.format.specs.Judge.{allowed, latest, stage_after, shown}
use Rattle.format.specs.Meaning.{Meaning, counted}
use Rattle.format.specs.Meaning.Meaning.{nothing, element, leaf}

-- an attribute that is present is known in its element and has a value of its kind
abbrev pub ValueOk : ℕ → ℕ → Option Value → Type 0
ValueOk parent a none = Unit {0}
ValueOk parent a (some v) = (attribute a ≡ true) × (a < 256) × ((k : Kind) × (known parent a ≡ some k) × Proper k v)

-- and that value is not its default
pub record AttributeOk (parent a : ℕ) (o : Option Value) : Type 0 where
  pub value : ValueOk parent a o
  pub counts : counted parent a o ≡ o

-- CDATA that is present is valid text without token octets, and no more than may be shown
abbrev pub CdataOk : ℕ → Option (List ℕ) → Type 0
CdataOk parent none = Unit {0}
CdataOk parent (some o) = (text false o ≡ true) × (shown parent 1 (shown_length [] o) ≡ true)

-- an element stands where it may: rules 4, 6 and 7
pub record PlaceOk (parent depth stage tag : ℕ) : Type 0 where
  pub allow : allowed parent tag ≡ true
  pub order : leb stage (latest tag) ≡ true
  pub deep : leb depth 16 ≡ true

-- 0x06 has valid text without token octets; an element of plain octets has any octets
pub data LeafOk (tag : ℕ) (o : List ℕ) : Type 0 where
  language : tag ≡ 6 → text false o ≡ true → LeafOk tag o
  plainly : known 0 tag ≡ some HoldsPlain → LeafOk tag o

-- the elements in an element at a depth, from a stage of the order on
abbrev pub WellFormed : (parent depth stage : ℕ) → Meaning → Type 0
WellFormed parent depth stage nothing = Unit {0}
WellFormed parent depth stage (element tag f children cdata after) =
    PlaceOk parent depth stage tag × (known 0 tag ≡ some HoldsItems) × ((a : ℕ) → AttributeOk tag a (f a)) × WellFormed tag (suc depth) 0 children
    × CdataOk tag cdata × WellFormed parent depth (stage_after tag) after
WellFormed parent depth stage (leaf tag o after) = PlaceOk parent depth stage tag × LeafOk tag o × WellFormed parent depth (stage_after tag) after

-- the object is exactly one top element
abbrev pub ObjectOk : Meaning → Type 0
ObjectOk nothing = ⊥
ObjectOk (leaf tag o after) = ⊥
ObjectOk (element tag f children cdata nothing) = WellFormed 0 1 0 (element tag f children cdata nothing)
ObjectOk (element tag f children cdata (element tag' f' children' cdata' after)) = ⊥
ObjectOk (element tag f children cdata (leaf tag' o after)) = ⊥
