-- The test whether octets stand in normal form, item by item. It is told of all octets; that an accepted object passes it exactly when it is its own normal
-- form is proved (proofs/Normalising, shaped-exactly), so nobody who reads document 01 has to believe it.
use Rattle.std.specs.Prelude.{Bool, true, false, cond, not, ◌&&◌, ◌||◌, List, [], ◌∷◌, ℕ, zero, suc, eqb, ltb, length}
use Rattle.std.proofs.Math.Option.{Option, none, some}
use Rattle.octets.specs.Header.{header_size, body_size, length_field}
use Rattle.octets.specs.Places.{is_whole, first_body, after_first}
use Rattle.values.specs.declared.Kind.{Kind}
use Rattle.values.specs.Table.{attribute}
use Rattle.values.specs.Values.{fits}
use Rattle.values.specs.Calls.{normal_octets}
use Rattle.format.specs.Judge.{is_items}
use Rattle.format.specs.Same.{same_octets}
use Rattle.survey.specs.Normal.{written_as}

-- the length of the first item stands in the form that is written, the shorter of two
unfoldable pub is_shortest : List ℕ → Bool
is_shortest s = eqb (header_size s) (suc (length (length_field (body_size s))))

-- the body of an item that is written as a kind is a value of it in its normal octets; none: the item isn't written
unfoldable pub is_written : Option Kind → List ℕ → Bool
is_written none o = false
is_written (some k) o = fits k o && same_octets (normal_octets k o) o

-- an attribute comes behind one of a lower tag; any other item may come
unfoldable pub is_rising : (last tag : ℕ) → Bool
is_rising last tag = not (attribute tag) || ltb last tag

-- the items of an element, behind an attribute of a tag (0x7F: behind none). The first number is above the length of what is left
unfoldable pub shaped_within : ℕ → (parent last : ℕ) → List ℕ → Bool
shaped_within zero parent last s = false
shaped_within (suc n) parent last [] = true
shaped_within (suc n) parent last (tag ∷ rest) =
    let s = tag ∷ rest in
    let kind = written_as parent tag (first_body s) in
    let inside = shaped_within n tag 0x7F (first_body s) in
    let later = shaped_within n parent (cond (attribute tag) tag last) (after_first s) in
    let own = is_whole s && is_shortest s && is_rising last tag && is_written kind (first_body s) in
    own && cond (is_items kind) inside true && later

-- which number that is says nothing
unfoldable pub shaped : (parent last : ℕ) → List ℕ → Bool
shaped parent last s = shaped_within (suc (length s)) parent last s

-- the body of an item of a tag that is written as a kind
unfoldable pub shaped_body : ℕ → Option Kind → List ℕ → Bool
shaped_body tag k o = is_written k o && cond (is_items k) (shaped tag 0x7F o) true
