-- Which child elements are put, and with what. Told of all octets; what it says of accepted ones is proved (proofs/Roles).
use Rattle.std.specs.Prelude.{Bool, true, cond, not, ◌&&◌, ◌||◌, List, [], ℕ, eqb}
use Rattle.std.proofs.Math.Option.{Option, none, some}
use Rattle.text.specs.Tokens.{Entries}
use Rattle.format.specs.Meaning.{Meaning}
use Rattle.compare.specs.Walks.{children_in}
use Rattle.merge.specs.declared.Services.{Services}
use Rattle.merge.specs.Keys.{merges}
use Rattle.merge.specs.Merged.{new_language, added, merged}
use Rattle.merging.specs.Searches.{any_child, first_child}
use Rattle.merging.specs.Keyed.{is_partner}
use Rattle.merging.specs.Among.{equal_in, language_in}
use Rattle.merging.specs.declared.partners.Role.{Role}
use Rattle.merging.specs.declared.partners.Role.TheVariants.{Language, Own, Added}

-- what becomes of elements that are walked over, by those of the other object
unfoldable pub chosen : Role → Services → (walked other : Meaning) → Meaning
chosen Language by m n = new_language n m
chosen Own by m n = merged by m n
chosen Added by m n = added by n m

-- an element of Advanced, by its tag and body, doesn't come behind the elements in Basic's part
unfoldable pub stays_in : Services → (levels : ℕ) → Entries → (tag : ℕ) → List ℕ → Entries → List ℕ → Bool
stays_in by levels es tag a fs part = cond (merges tag) (any_child (is_partner by tag es a fs) (children_in part)) (eqb tag 6 || equal_in levels es tag a fs part)

unfoldable pub is_put : Role → Services → (levels : ℕ) → Entries → (tag : ℕ) → List ℕ → Entries → List ℕ → Bool
is_put Language by levels es tag a fs part = eqb tag 6 && not (language_in part)
is_put Own by levels es tag a fs part = true
is_put Added by levels es tag a fs part = not (stays_in by levels es tag a fs part)

unfoldable pub or_none : Option (List ℕ) → List ℕ
or_none none = []
or_none (some o) = o

-- the body of the first partner; the empty part where there is none
unfoldable pub partner_body : Services → Entries → (tag : ℕ) → List ℕ → Entries → List ℕ → List ℕ
partner_body by es tag a fs part = or_none (cond (merges tag) (first_child (is_partner by tag es a fs) (children_in part)) none)

unfoldable pub partner_in : Role → Services → Entries → (tag : ℕ) → List ℕ → Entries → List ℕ → List ℕ
partner_in Language by es tag a fs part = []
partner_in Own by es tag a fs part = partner_body by es tag a fs part
partner_in Added by es tag a fs part = []
