-- Where the child elements lie in octets, in order. Told of all octets; what it says of an accepted part is proved (proofs/Walking, children-told).
use Rattle.std.specs.Prelude.{◌≡◌, Bool, cond, ◌&&◌, List, [], ◌∷◌, ℕ, zero, suc, ◌+◌, ◌≤◌, ◌<◌, length, drop, get_or, Option, Some, None}
use Rattle.octets.specs.Header.{header_size, body_size}
use Rattle.octets.specs.Places.{is_whole, first_body, after_first, between}
use Rattle.values.specs.Table.{known}
use Rattle.format.specs.Judge.{is_known}
use Rattle.format.specs.Meaning.{is_child}
use Rattle.compare.specs.declared.walks.Child.{Child}

-- a child element that has a meaning: known, and not the token table (document 01, Records and meaning)
abbrev pub is_meant : ℕ → Bool
is_meant tag = is_child tag && is_known (known 0 tag)

-- the child elements among items that lie one behind the other, each with its tag and its body; none behind an item that runs past the end. They are found in
-- no more steps than there are octets
unfoldable pub children_within : (steps : ℕ) → List ℕ → List (ℕ × List ℕ)
children_within zero s = []
children_within (suc n) s =
    let later = children_within n (after_first s) in
    cond (is_whole s) (cond (is_meant (get_or s 0 0)) ((get_or s 0 0, first_body s) ∷ later) later) []

unfoldable pub children_in : List ℕ → List (ℕ × List ℕ)
children_in s = children_within (length s) s

-- the first of them from a place on, where it begins and between which places its body lies
abbrev pub child : (at from to : ℕ) → Child
child at from to = record { at = at; from = from; to = to }

unfoldable pub child_within : (steps at : ℕ) → List ℕ → Option Child
child_within zero at s = None
child_within (suc n) at s =
    let later = child_within n (at + header_size s + body_size s) (after_first s) in
    cond (is_whole s) (cond (is_meant (get_or s 0 0)) (Some (child at (at + header_size s) (at + header_size s + body_size s))) later) None

unfoldable pub child_from : List ℕ → ℕ → Option Child
child_from part at = child_within (length part) at (drop at part)

-- what that says of the child elements from a place on: there is none, or which is the first one, and that the others come behind it
pub record ChildFound (part : List ℕ) (at place from to : ℕ) : Type 0 where
  pub begins : place < length part
  pub ordered : from ≤ to
  pub inside : to ≤ length part
  pub onward : at < to
  pub children : children_in (drop at part) ≡ (get_or part place 0, between part from to) ∷ children_in (drop to part)

unfoldable pub Children : List ℕ → ℕ → Option Child → Type 0
Children part at None = children_in (drop at part) ≡ []
Children part at (Some c) = ChildFound part at c.at c.from c.to

pub record NextChild (part : List ℕ) (at : ℕ) (r : Option Child) : Type 0 where
  pub is : r ≡ child_from part at
  pub tells : Children part at r
