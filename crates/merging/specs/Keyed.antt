-- Merging keys told of octets, each part under the entries of its own token table. That they are those of the meaning, of accepted octets, is proved
-- (proofs/KeySays), so nobody has to believe them.
use Rattle.std.specs.Prelude.{Bool, true, false, cond, not, ◌&&◌, ◌||◌, List, [], ◌∷◌, ℕ, zero, suc, eqb}
use Rattle.text.specs.Tokens.{Entries}
use Rattle.values.specs.Table.{known}
use Rattle.format.specs.Judge.{is_top}
use Rattle.format.specs.Meaning.{opens}
use Rattle.compare.specs.Items.{counted_of_tag, same_found}
use Rattle.compare.specs.Walks.{children_in}
use Rattle.merge.specs.declared.Services.{Services}
use Rattle.merge.specs.declared.Services.TheVariants.{ByTag, ByBearers}
use Rattle.merge.specs.Keys.{merges, key_attribute}
use Rattle.merging.specs.Searches.{any_child}

-- an attribute of two elements of a tag
abbrev pub same_at : (tag a : ℕ) → Entries → List ℕ → Entries → List ℕ → Bool
same_at tag a T x U y = same_found T U (known tag a) (counted_of_tag tag a x) (counted_of_tag tag a y)

-- a bearer with the id of this one; a bearer whose id is not among child elements
unfoldable pub is_bearer_of : Entries → (bearer : List ℕ) → Entries → ℕ → List ℕ → Bool
is_bearer_of T bearer U tag body = eqb tag 0x29 && same_at 0x29 0x80 T bearer U body

unfoldable pub is_foreign : Entries → Entries → List (ℕ × List ℕ) → ℕ → List ℕ → Bool
is_foreign T U qs tag body = eqb tag 0x29 && not (any_child (is_bearer_of T body U) qs)

-- one of the bearers in the first part has an id that none in the second has
unfoldable pub has_foreign : Entries → List ℕ → Entries → List ℕ → Bool
has_foreign T x U y = any_child (is_foreign T U (children_in y)) (children_in x)

unfoldable pub same_bearers : Entries → List ℕ → Entries → List ℕ → Bool
same_bearers T x U y = not (has_foreign T x U y) && not (has_foreign U y T x)

unfoldable pub same_service_in : Services → Entries → List ℕ → Entries → List ℕ → Bool
same_service_in ByTag T x U y = true
same_service_in ByBearers T x U y = same_bearers T x U y

unfoldable pub same_key_in : Services → ℕ → Entries → List ℕ → Entries → List ℕ → Bool
same_key_in by tag T x U y = cond (is_top tag) true (cond (eqb tag 0x28) (same_service_in by T x U y) (same_at tag (key_attribute tag) T x U y))

-- an element with the tag and the key of one that can have a partner
unfoldable pub is_partner : Services → ℕ → Entries → List ℕ → Entries → ℕ → List ℕ → Bool
is_partner by tag T x U other y = eqb tag other && same_key_in by tag T x U y

-- an element that can have a partner has one among others
unfoldable pub is_again : Services → Entries → ℕ → List ℕ → List (ℕ × List ℕ) → Bool
is_again by T tag body later = merges tag && any_child (is_partner by tag T body T) later

-- a key twice among child elements, or inside one of them, which the function says
unfoldable pub twice_among : Services → Entries → (ℕ → List ℕ → Bool) → List (ℕ × List ℕ) → Bool
twice_among by T inside [] = false
twice_among by T inside (p ∷ ps) = is_again by T p.0 p.1 ps || inside p.0 p.1 || twice_among by T inside ps

-- as deep as so many levels of elements
unfoldable pub twice_inside : Services → Entries → (levels : ℕ) → ℕ → List ℕ → Bool
twice_inside by T zero tag body = false
twice_inside by T (suc n) tag body = opens tag && twice_among by T (twice_inside by T n) (children_in body)
