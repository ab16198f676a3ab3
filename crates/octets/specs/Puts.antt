-- Octets put into a lent slice: the one claim of every call that does so, here and in the crates above.
use Rattle.std.specs.Prelude.{◌≡◌, Bool, cond, List, ℕ, ◌+◌, leb, length, Result, Ok, Err}
use Rattle.std.proofs.lemmas.List.Edits.{sets}
use Rattle.octets.specs.declared.PutError.{PutError}
use Rattle.octets.specs.declared.PutError.TheVariants.{NoRoom, Invalid}

-- putting octets at a place of a lent slice, where there are such octets: the answer, and what the slice then holds. Unless they lie within it whole, it holds
-- what it held before (document 01, Refusal numbers: a call that refuses changes nothing that it was lent), and else so does all of it but their places
unfoldable pub put_answer : (valid : Bool) (octets : List ℕ) (at : ℕ) (before : List ℕ) → Result ℕ PutError
put_answer valid octets at before = cond valid (cond (leb (at + length octets) (length before)) (Ok (at + length octets)) (Err NoRoom)) (Err Invalid)

unfoldable pub put_out : (valid : Bool) (octets : List ℕ) (at : ℕ) (before : List ℕ) → List ℕ
put_out valid octets at before = cond valid (cond (leb (at + length octets) (length before)) (sets before at octets) before) before

pub record Puts (valid : Bool) (octets : List ℕ) (at : ℕ) (before after : List ℕ) (answer : Result ℕ PutError) : Type 0 where
  pub answers : answer ≡ put_answer valid octets at before
  pub leaves : after ≡ put_out valid octets at before

-- octets that are known to fit, laid over a lent slice from a place on, and the place behind them
pub record Lays (octets : List ℕ) (at : ℕ) (before after : List ℕ) (end : ℕ) : Type 0 where
  pub leaves : after ≡ sets before at octets
  pub ends : end ≡ at + length octets
