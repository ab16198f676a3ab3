-- Request 2026-11: which words the plain packer takes, said without going over them as the definition does: "up to 16 by octets saved (uses times (length - 1), less
-- (length + 2), and more than 0), earlier first on a tie".
use Rattle.std.specs.Prelude.{◌≡◌, true, false, cond, ◌⊎◌, List, [], ◌∷◌, ℕ, suc, ◌≤◌, ◌<◌, length}
use Rattle.format.specs.Same.{same_octets}
use Rattle.fold.specs.Words.{uses, is_among, saved_by, chosen}

-- of a list of all uses of words, in reading order: the octets that folding a word saves, and how many uses of other words come before its first
abbrev pub gain : List (List ℕ) → List ℕ → ℕ
gain ws w = saved_by (uses w ws) (length w)

unfoldable pub first_use : List ℕ → List (List ℕ) → ℕ
first_use w [] = 0
first_use w (v ∷ vs) = cond (same_octets w v) 0 (suc (first_use w vs))

-- one word goes before another: it saves more, or as much and is used earlier
abbrev pub Before : List (List ℕ) → (u v : List ℕ) → Type 0
Before ws u v = (gain ws v < gain ws u) ⊎ ((gain ws v ≡ gain ws u) × (first_use u ws < first_use v ws))

-- a word goes before all of some, and all of some before a word
abbrev pub BeforeAll : List (List ℕ) → List ℕ → List (List ℕ) → Type 0
BeforeAll ws u [] = Unit {0}
BeforeAll ws u (v ∷ vs) = Before ws u v × BeforeAll ws u vs

abbrev pub AllBefore : List (List ℕ) → List (List ℕ) → List ℕ → Type 0
AllBefore ws [] v = Unit {0}
AllBefore ws (u ∷ us) v = Before ws u v × AllBefore ws us v

-- each goes before all behind it, and none is there again
abbrev pub InRank : List (List ℕ) → List (List ℕ) → Type 0
InRank ws [] = Unit {0}
InRank ws (w ∷ c) = BeforeAll ws w c × (is_among w c ≡ false) × InRank ws c

-- the words that are taken: at most sixteen, of those that are used, each saving more than 0, in that order and each once; and a word that saves anything is left out
-- only where there are sixteen that all go before it
pub record Choice (ws c : List (List ℕ)) : Type 0 where
  pub few : length c ≤ 16
  pub used : (w : List ℕ) → is_among w c ≡ true → (is_among w ws ≡ true) × (0 < gain ws w)
  pub rank : InRank ws c
  pub best : (w : List ℕ) → is_among w ws ≡ true → 0 < gain ws w → is_among w c ≡ false → (length c ≡ 16) × AllBefore ws c w

abbrev pub ChosenWords : Type 0
ChosenWords = (ws : List (List ℕ)) → Choice ws (chosen ws)

-- no other words are such a choice: whoever takes words so takes these, in this order
abbrev pub OneChoice : Type 0
OneChoice = (ws c d : List (List ℕ)) → Choice ws c → Choice ws d → c ≡ d
