-- Numbers and octets as text. Text here is a list of the numbers of its characters, all of them ASCII.
use Rattle.std.specs.Prelude.{cond, List, [], ◌∷◌, ◌++◌, ℕ, zero, suc, ◌+◌, ◌-◌, ◌*◌, ◌/◌, ◌%◌, ltb}

-- the digits of a number by division by ten, the last one first to be told and last to stand; the first number is above the number of divisions
unfoldable pub tens : ℕ → ℕ → List ℕ
tens zero n = []
tens (suc k) n = cond (ltb n 10) ((48 + n) ∷ []) (tens k (n / 10) ++ ((48 + n % 10) ∷ []))

-- a number in decimal: no digit more than it needs, and "0" for 0
unfoldable pub decimal : ℕ → List ℕ
decimal n = tens (suc n) n

-- the number that decimal digits tell, behind what those before them told: the other way round
unfoldable pub told : ℕ → List ℕ → ℕ
told before [] = before
told before (d ∷ ds) = told (before * 10 + (d - 48)) ds

-- a hexadecimal digit, where a letter stands for ten and those after it for what follows
unfoldable pub hex_digit : (ten d : ℕ) → ℕ
hex_digit ten d = cond (ltb d 10) (48 + d) (ten + (d - 10))

-- an octet as two hexadecimal digits
unfoldable pub two_digits : (ten b : ℕ) → List ℕ
two_digits ten b = hex_digit ten (b / 16) ∷ hex_digit ten (b % 16) ∷ []

-- octets with lower-case letters (the answers of writing and normalising), and one octet with upper-case ones (the tag in a listing; document 01, Bench cases)
unfoldable pub hex_lower : List ℕ → List ℕ
hex_lower [] = []
hex_lower (b ∷ bs) = two_digits 97 b ++ hex_lower bs

abbrev pub hex_upper : ℕ → List ℕ
hex_upper b = two_digits 65 b
