-- The line that says what failed.
use Rattle.std.specs.Prelude.{ℕ, List, [], ◌∷◌, ◌++◌}
use Rattle.std.specs.declared.option.Option.{Option}
use Rattle.std.specs.Io.KnownBytes.{Appends}

-- known octets grow by such a line: what failed, a colon and a blank, some words for why, and a line feed
abbrev pub Tells : Option (List ℕ) → Option (List ℕ) → List ℕ → Type 0
Tells old new what = (words : List ℕ) × Appends old new (what ++ 58 ∷ 32 ∷ (words ++ 10 ∷ []))
