-- What is asked of the child elements of a part. Told of all octets; what it says of an accepted part is proved (proofs/Among).
use Rattle.std.specs.Prelude.{Bool, ◌&&◌, List, ℕ, eqb}
use Rattle.text.specs.Tokens.{Entries}
use Rattle.compare.specs.Items.{same_element}
use Rattle.compare.specs.Walks.{children_in}
use Rattle.merging.specs.Searches.{any_child}

-- an element of a tag with a body means the same as another, each under the entries of its own token table, as deep as so many levels
unfoldable pub is_equal : (levels : ℕ) → Entries → (tag : ℕ) → List ℕ → Entries → (other : ℕ) → List ℕ → Bool
is_equal levels es tag a fs other b = eqb tag other && same_element levels es fs tag a b

-- the same as one of the child elements
unfoldable pub equal_in : (levels : ℕ) → Entries → (tag : ℕ) → List ℕ → Entries → List ℕ → Bool
equal_in levels es tag a fs part = any_child (is_equal levels es tag a fs) (children_in part)

-- one of the child elements is a default language
unfoldable pub is_language : ℕ → List ℕ → Bool
is_language tag body = eqb tag 6

unfoldable pub language_in : List ℕ → Bool
language_in part = any_child is_language (children_in part)
