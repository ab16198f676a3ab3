-- How the stored sizes of bodies follow an edit: the body of each element around its place grows or shrinks by what the item below it with its header does, and
-- that header may itself change its form. Who reads the request has to believe none of this.
use Rattle.std.specs.Prelude.{cond, List, [], ◌∷◌, ℕ, zero, suc, ◌+◌, ◌-◌, ◌≤◌, ◌<◌, eqb, length, get_or, set}
use Rattle.survey.specs.Normal.{framed_size}

-- the sizes of the elements of these numbers, the innermost first, where what added so much to it now adds as much as said
unfoldable pub raised : List ℕ → (was is : ℕ) → List ℕ → List ℕ
raised [] was is l = l
raised (g ∷ gs) was is l = raised gs (framed_size (get_or l g 0)) (framed_size (get_or l g 0 - was + is)) (set l g (get_or l g 0 - was + is))

-- the numbers of the elements around a record, the innermost first, by the numbers of parents: up to the top, whose number is 0. The first number is above the
-- record's: it only shows that this ends
unfoldable pub around : ℕ → List ℕ → ℕ → List ℕ
around zero parents g = []
around (suc k) parents g = g ∷ cond (eqb g 0) [] (around k parents (get_or parents g 0))

abbrev pub up_from : List ℕ → ℕ → List ℕ
up_from parents g = around (suc g) parents g

-- each of them has a place, a lower parent, and a body that holds what is in it
pub data Climbs (parents bodies : List ℕ) : (g was : ℕ) → Type 0 where
  top : (was : ℕ) → 0 < length bodies → was ≤ get_or bodies 0 0 → Climbs parents bodies 0 was
  step : (g was : ℕ) → 0 < g → g < length bodies → g < length parents → was ≤ get_or bodies g 0 → get_or parents g 0 < g
      → Climbs parents bodies (get_or parents g 0) (framed_size (get_or bodies g 0)) → Climbs parents bodies g was
