-- The octets of a time in the parts in which code writes them.
use Rattle.std.specs.Prelude.{Bool, cond, List, [], ◌∷◌, ℕ, ◌+◌, ◌*◌, ◌^◌, eqb}
use Rattle.values.specs.declared.Time.{Time}
use Rattle.values.specs.Times.{sign}

-- the first 32 bits: date, flag of the offset, flag of the long form, hours, minutes (document 01, Values: Time)
unfoldable pub first_bits : Time → ℕ
first_bits t = t.day * 2 ^ 14 + sign t.halves * 2 ^ 12 + sign t.second * 2 ^ 11 + t.hour * 2 ^ 6 + t.minute

-- seconds 6 and reserved 10 of the long form
unfoldable pub second_octets : ℕ → List ℕ
second_octets second = cond (eqb second 0) [] ((second * 4) ∷ 0 ∷ [])

-- the octet of the offset: reserved 2, sense 1, half hours 5
unfoldable pub offset_octets : Bool → ℕ → List ℕ
offset_octets minus halves = cond (eqb halves 0) [] ((cond minus 32 0 + halves) ∷ [])
