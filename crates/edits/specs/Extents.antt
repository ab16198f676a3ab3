-- How far the records of an item reach, by depths, and what records take of the store, by sizes. Who reads the request has to believe none of this.
use Rattle.std.specs.Prelude.{cond, List, [], ◌∷◌, ℕ, suc, ◌+◌, ltb}

-- how many of the first are deeper than a depth
unfoldable pub deeper : ℕ → List ℕ → ℕ
deeper d [] = 0
deeper d (a ∷ l) = cond (ltb d a) (suc (deeper d l)) 0

unfoldable pub sum_of : List ℕ → ℕ
sum_of [] = 0
sum_of (a ∷ l) = a + sum_of l
