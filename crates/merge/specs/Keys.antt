-- By what elements of two objects are merged (change request 2026-10; 002, clause 5.4, tables 8 to 10).
use Rattle.std.specs.Prelude.{Bool, true, false, cond, not, ◌&&◌, ◌||◌, ℕ, eqb}
use Rattle.std.proofs.Math.Option.{Option}
use Rattle.values.specs.Values.{Value}
use Rattle.format.specs.Judge.{is_top}
use Rattle.format.specs.Meaning.{Meaning}
use Rattle.format.specs.Meaning.Meaning.{nothing, element, leaf}
use Rattle.format.specs.Same.{same_value, same_maybe, same_meaning}
use Rattle.merge.specs.declared.Services.{Services}
use Rattle.merge.specs.declared.Services.TheVariants.{ByTag, ByBearers}

-- the elements that can have a partner. "The tops merge". 5.4's tables name ensemble 0x26, bearer 0x29, schedule 0x21, programme 0x1C, programmeGroups 0x20 and
-- programmeGroup 0x23 by the last name of a row. "An element that 5.4 doesn't name merges .. if its kind can hold a named one": that is service 0x28, which
-- holds bearers, and epg, a top
unfoldable pub merges : ℕ → Bool
merges tag =
    is_top tag || (eqb tag 0x26 || eqb tag 0x28 || eqb tag 0x29) || (eqb tag 0x21 || eqb tag 0x1C) || (eqb tag 0x20 || eqb tag 0x23)

-- the attribute that the tables give a named element: the shortId of programme and programmeGroup, the id of ensemble and bearer, the version of schedule and
-- programmeGroups
unfoldable pub key_attribute : ℕ → ℕ
key_attribute tag = cond (eqb tag 0x1C || eqb tag 0x23) 0x81 0x80

-- two attributes of one tag are both absent, or are there with one value
abbrev pub same_attribute : Option Value → Option Value → Bool
same_attribute v w = same_maybe same_value v w

-- among elements there is a bearer with this id
unfoldable pub has_bearer : Option Value → Meaning → Bool
has_bearer id nothing = false
has_bearer id (element tag f children cdata after) = (eqb tag 0x29 && same_attribute id (f 0x80)) || has_bearer id after
has_bearer id (leaf tag o after) = has_bearer id after

-- each bearer among the first elements has its id among the second
unfoldable pub bearers_in : Meaning → Meaning → Bool
bearers_in nothing n = true
bearers_in (element tag f children cdata after) n = (not (eqb tag 0x29) || has_bearer (f 0x80) n) && bearers_in after n
bearers_in (leaf tag o after) n = bearers_in after n

-- two services: "by its tag alone", so that any two are one; or by the ids of their bearers as sets, which the rows of table 8 name through them
unfoldable pub same_service : Services → (children children' : Meaning) → Bool
same_service ByTag m n = true
same_service ByBearers m n = bearers_in m n && bearers_in n m

-- the merging key: of a top its tag alone; of a service what tells services apart; of any other element the attribute that the tables give it
unfoldable pub same_key : Services → ℕ → (f g : ℕ → Option Value) → (children children' : Meaning) → Bool
same_key by tag f g m n =
    cond (is_top tag) true (cond (eqb tag 0x28) (same_service by m n) (same_attribute (f (key_attribute tag)) (g (key_attribute tag))))

-- "Elements with the same path of tags and the same merging attributes become one": two elements, given by tag, attributes and children, whose parents are one
unfoldable pub partners : Services → (tag tag' : ℕ) (f g : ℕ → Option Value) (children children' : Meaning) → Bool
partners by tag tag' f g m n = merges tag && eqb tag tag' && same_key by tag f g m n

-- among elements there is a partner of this one
unfoldable pub has_partner : Services → (tag : ℕ) (f : ℕ → Option Value) (children : Meaning) → Meaning → Bool
has_partner by tag f m nothing = false
has_partner by tag f m (element tag' g n cdata after) = partners by tag tag' f g m n || has_partner by tag f m after
has_partner by tag f m (leaf tag' o after) = has_partner by tag f m after

-- among elements there is one "of equal meaning" with a single element
unfoldable pub has_equal : Meaning → Meaning → Bool
has_equal one nothing = false
has_equal one (element tag f children cdata after) = same_meaning one (element tag f children cdata nothing) || has_equal one after
has_equal one (leaf tag o after) = same_meaning one (leaf tag o nothing) || has_equal one after
