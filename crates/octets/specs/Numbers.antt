-- Numbers and the octets that write them. An octet is a number; that it is below 256 is a premise where a theorem needs it.
use Rattle.std.specs.Prelude.{Bool, false, ◌||◌, List, [], ◌∷◌, ℕ, zero, suc, ◌+◌, ◌*◌, ◌/◌, ◌%◌, ◌^◌, ◌<◌, eqb, length, get_or}

-- the number is one of the list
unfoldable pub among : ℕ → List ℕ → Bool
among n [] = false
among n (m ∷ ms) = eqb n m || among n ms

-- the number that octets write, the most significant octet first (document 01, Framing; 002, clause 4.1)
unfoldable pub value : List ℕ → ℕ
value [] = 0
value (b ∷ bs) = b * 256 ^ length bs + value bs

-- a number in a fixed count of octets, the most significant first: the other way round
unfoldable pub digits : ℕ → ℕ → List ℕ
digits zero n = []
digits (suc w) n = n / 256 ^ w ∷ digits w (n % 256 ^ w)

-- a list all of whose numbers are octets: what a lent slice of octets always is
abbrev pub Octets : List ℕ → Type 0
Octets o = (i : ℕ) → get_or o i 0 < 256
