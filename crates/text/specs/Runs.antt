-- Runs: octets one after another that all lie between two bounds.
use Rattle.std.specs.Prelude.{◌≡◌, Bool, true, ◌&&◌, List, [], ◌∷◌, ℕ, ◌-◌, ◌≤◌, leb, length, take, drop}

-- an octet between two bounds, both included
unfoldable pub within : ℕ → ℕ → ℕ → Bool
within least most b = leb least b && leb b most

unfoldable pub all_within : ℕ → ℕ → List ℕ → Bool
all_within least most [] = true
all_within least most (b ∷ bs) = within least most b && all_within least most bs

-- the octets from a place up to another are a run; it may go on behind it
pub record RunTo (least most : ℕ) (s : List ℕ) (at end : ℕ) : Type 0 where
  pub onward : at ≤ end
  pub inside : end ≤ length s
  pub all : all_within least most (take (end - at) (drop at s)) ≡ true

-- a run of octets that are text by themselves, and one of octets above the last token, which stand for themselves
abbrev pub PlainTo : List ℕ → ℕ → ℕ → Type 0
PlainTo = RunTo 0x20 0x7F

abbrev pub UntokenedTo : List ℕ → ℕ → ℕ → Type 0
UntokenedTo = RunTo 0x14 0xFF
