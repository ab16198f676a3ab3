-- A recording: the objects that a receiver got, as the lab keeps them in a file (change request 2026-12).
use Rattle.std.specs.Prelude.{Bool, cond, List, [], ◌∷◌, ◌++◌, ℕ, zero, suc, ◌+◌, leb, ltb, length, take, drop}
use Rattle.std.proofs.Math.Option.{Option, none, some}
use Rattle.octets.specs.Numbers.{value, digits}
use Rattle.format.specs.declared.Refusal.{Refusal}
use Rattle.format.specs.Answers.{refusal}
use Rattle.format.specs.Same.{same_octets}

-- the first five octets: the mark SPR, and the version in 16 bits, now 1
unfoldable pub mark : List ℕ
mark = 0x53 ∷ 0x50 ∷ 0x52 ∷ 0x00 ∷ 0x01 ∷ []

-- how a recording is made: the mark, then of each object its size in 16 bits and its octets. (An object of more than 65,535 octets has no such size)
unfoldable pub run : List (List ℕ) → List ℕ
run [] = []
run (object ∷ objects) = (digits 2 (length object) ++ object) ++ run objects

unfoldable pub recorded : List (List ℕ) → List ℕ
recorded objects = mark ++ run objects

-- how any octets are read as a recording: the octets of each whole object, in order, and how it ends: with nothing refused, or with 23 or 24 at a place
pub record Recording : Type 0 where
  pub objects : List (List ℕ)
  pub ends : Option Refusal

-- the size with which a part begins, and whether that many octets stand behind it. In a part with fewer than two octets no whole object stands, whatever its
-- size is told to be
unfoldable pub announced : List ℕ → ℕ
announced part = value (take 2 part)

unfoldable pub whole : List ℕ → Bool
whole part = leb (2 + announced part) (length part)

-- that object, and the part behind it
abbrev pub first_of : List ℕ → List ℕ
first_of part = take (announced part) (drop 2 part)

abbrev pub behind_of : List ℕ → List ℕ
behind_of part = drop (2 + announced part) part

-- a part at a place that begins with no whole object: it is empty, so nothing is refused; or it is cut inside a size or an object, which is 24 at that size's
-- first octet in the file
unfoldable pub stopped : ℕ → List ℕ → Option Refusal
stopped at [] = none
stopped at (b ∷ bs) = some (refusal 24 at)

unfoldable pub preceded : List ℕ → Recording → Recording
preceded object r = record { objects = object ∷ r.objects; ends = r.ends }

-- the objects of a part at a place in the file. The first number is above the number of octets, so it never runs out (proofs/Walk, walk-enough)
unfoldable pub walk : ℕ → ℕ → List ℕ → Recording
walk zero at part = record { objects = []; ends = none }
walk (suc k) at part = cond (whole part) (preceded (first_of part) (walk k (at + (2 + announced part)) (behind_of part))) (record { objects = []; ends = stopped at part })

unfoldable pub objects_at : ℕ → List ℕ → Recording
objects_at at part = walk (suc (length part)) at part

-- fewer than five octets are 24 at 0, whatever they are; five that aren't the mark and version are 23 at 0; else the objects stand behind them
unfoldable pub refused_with : ℕ → Recording
refused_with number = record { objects = []; ends = some (refusal number 0) }

unfoldable pub recording_of : List ℕ → Recording
recording_of octets =
    cond (ltb (length octets) 5) (refused_with 24)
    (cond (same_octets (take 5 octets) mark) (objects_at 5 (drop 5 octets)) (refused_with 23))
