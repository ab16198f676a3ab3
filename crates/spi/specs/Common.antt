-- Where two lists of octets first differ.
use Rattle.std.specs.Prelude.{cond, List, [], ◌∷◌, ℕ, suc, eqb}

-- how many octets they share at their start, which is the place of the first that differs or that only one of them has
unfoldable pub common : List ℕ → List ℕ → ℕ
common [] bs = 0
common (a ∷ more) [] = 0
common (a ∷ more) (b ∷ bs) = cond (eqb a b) (suc (common more bs)) 0
