-- What the private functions tell the public ones: where a piece of a text ends, and which tag a word has.
use Rattle.std.specs.Prelude.{◌≡◌, true, false, List, ◌⊎◌, Option, None, Some, ℕ, ◌+◌, ◌-◌, ◌≤◌, ◌<◌, length, get_or, take, drop}
use Rattle.std.proofs.Math.Option.{Option as Maybe, none, some}
use Rattle.fold.specs.Words.{letter, all_letters}

-- a run of letters from a place on, which no letter follows
pub record LettersTo (s : List ℕ) (at end : ℕ) : Type 0 where
  pub onward : at ≤ end
  pub inside : end ≤ length s
  pub all : all_letters (take (end - at) (drop at s)) ≡ true
  pub whole : end < length s → letter (get_or s end 0) ≡ false

-- a piece: one octet that is no letter, or a whole run of letters
pub record PieceTo (s : List ℕ) (at end : ℕ) : Type 0 where
  pub onward : at < end
  pub inside : end ≤ length s
  pub way : ((end ≡ at + 1) × (letter (get_or s at 0) ≡ false)) ⊎ LettersTo s at end

-- a tag, if there is one
unfoldable pub as_tag : Maybe ℕ → Option ℕ
as_tag none = None
as_tag (some t) = Some t
