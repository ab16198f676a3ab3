-- Octets laid at a place of a lent slice, where they fit.
use Rattle.std.specs.Prelude.{◌≡◌, List, ℕ, ◌+◌, ◌≤◌, length}
use Rattle.std.proofs.lemmas.List.Edits.{sets}

-- octets that fit from a place on stand there afterwards, and the answer is the place behind them
pub record Placed (o before after : List ℕ) (at r : ℕ) : Type 0 where
  pub long : length after ≡ length before
  pub laid : at + length o ≤ length before → after ≡ sets before at o
  pub ends : at + length o ≤ length before → r ≡ at + length o
