-- Two bodies of one kind, and what the functions that compare their fields and their octets tell.
use Rattle.std.specs.Prelude.{◌≡◌, Bool, true, ◌&&◌, List, [], ℕ, zero, suc, get_or}
use Rattle.text.specs.Tokens.{Entries}
use Rattle.values.specs.declared.Kind.{Kind}
use Rattle.values.specs.Values.{fits, meant}
use Rattle.format.specs.Same.{same_value}

-- both are values of the kind and mean the same, each under the entries of its own token table (document 01, Values)
unfoldable pub same_body : Entries → Entries → Kind → List ℕ → List ℕ → Bool
same_body es fs k a b = fits k a && fits k b && same_value (meant es k a) (meant fs k b)

-- the same where no table counts, as for times and bearers
unfoldable pub same_standing : Kind → List ℕ → List ℕ → Bool
same_standing k a b = same_body [] [] k a b

-- an answer that tells whether two things are equal
pub record Tells {A : Type 0} (a b : A) (r : Bool) : Type 0 where
  pub equal : r ≡ true → a ≡ b
  pub told : a ≡ b → r ≡ true

-- the first octets of two lists, as many as the number says, pass a test of two
unfoldable pub all_by : (ℕ → ℕ → Bool) → ℕ → List ℕ → List ℕ → Bool
all_by f zero a b = true
all_by f (suc n) a b = all_by f n a b && f (get_or a n 0) (get_or b n 0)
