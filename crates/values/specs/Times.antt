-- Times (document 01, Values: Time; 002, clause 4.7.4).
use Rattle.std.specs.Prelude.{Bool, cond, not, ◌&&◌, List, [], ◌∷◌, ◌++◌, ℕ, ◌+◌, ◌-◌, ◌*◌, ◌/◌, ◌%◌, ◌^◌, eqb, leb, length, take, get_or, Result, Ok, Err}
use Rattle.std.proofs.Math.IntN.{sub_ℕ}
use Rattle.octets.specs.Numbers.{value, digits}
use Rattle.values.specs.declared.Time.{Time}
use Rattle.values.specs.declared.TimeError.{TimeError}
use Rattle.values.specs.declared.TimeError.TheVariants.{Length, Date, Hours, Minutes, Seconds}
use Rattle.values.specs.declared.Local.{Local}

-- of the first 32 bits, as many as the width says, above as many as the first number says. From the most significant: reserved 1, date 17, reserved 1, flag of
-- the offset 1, flag of the long form 1, hours 5, minutes 6
unfoldable pub bits : List ℕ → ℕ → ℕ → ℕ
bits o above width = value (take 4 o) / 2 ^ above % 2 ^ width

unfoldable pub long_flag : List ℕ → ℕ
long_flag o = bits o 11 1

unfoldable pub offset_flag : List ℕ → ℕ
offset_flag o = bits o 12 1

-- the octet behind the short or long form that holds the offset: reserved 2, sense 1, half hours 5; 0 where there is none
unfoldable pub offset_octet : List ℕ → ℕ
offset_octet o = offset_flag o * get_or o (4 + 2 * long_flag o) 0

-- what the octets of a time mean. The long form adds an octet of seconds 6 and reserved 2, and a reserved octet; missing seconds are 0, a missing offset is 0,
-- and minus 0 is 0 (document 01, Records and meaning)
unfoldable pub time_of : List ℕ → Time
time_of o =
    record {
      day = bits o 14 17;
      hour = bits o 6 5;
      minute = bits o 0 6;
      second = long_flag o * (get_or o 4 0 / 4);
      minus = eqb (offset_octet o / 32 % 2) 1 && not (eqb (offset_octet o % 32) 0);
      halves = offset_octet o % 32;
    }

-- a day of at most 99,999, an hour of at most 23, a minute and a second of at most 59; as many half hours as their five bits can say
unfoldable pub in_range : Time → Bool
in_range t = leb t.day 99_999 && leb t.hour 23 && leb t.minute 59 && leb t.second 59 && leb t.halves 31

-- rule 9 for a time: the length is exactly what the two flags say, 4, 5, 6 or 7, and the fields are in range
unfoldable pub is_time : List ℕ → Bool
is_time o = eqb (length o) (4 + 2 * long_flag o + offset_flag o) && in_range (time_of o)

-- the field of a time that is out of range: 2 date, 3 hours, 4 minutes, 5 seconds, the lowest that applies; 0 where none is (document 02, request 2026-04)
unfoldable pub wrong_part : Time → ℕ
wrong_part t = cond (leb t.day 99_999) (cond (leb t.hour 23) (cond (leb t.minute 59) (cond (leb t.second 59) 0 5) 4) 3) 2

-- the field that is wrong in octets that should be a time: 1 where their length isn't what the flags say, which hides all others, or else that which is out of
-- range. It is 0 exactly where rule 9 holds (proofs/Fields, `field-none`)
unfoldable pub wrong_time : List ℕ → ℕ
wrong_time o = cond (eqb (length o) (4 + 2 * long_flag o + offset_flag o)) (wrong_part (time_of o)) 1

-- a field by its number, and its number again
unfoldable pub error_of : ℕ → TimeError
error_of number = get_or (Length ∷ Length ∷ Date ∷ Hours ∷ Minutes ∷ []) number Seconds

abbrev pub number_of : TimeError → ℕ
number_of Length = 1
number_of Date = 2
number_of Hours = 3
number_of Minutes = 4
number_of Seconds = 5

-- a time whose fields but the offset are in range, or else the lowest that isn't
unfoldable pub checked : Time → Result Time TimeError
checked t = cond (eqb (wrong_part t) 0) (Ok t) (Err (error_of (wrong_part t)))

-- the time of the same meaning that reading octets gives: no minus at offset 0
unfoldable pub canonical : Time → Time
canonical t =
    record { day = t.day; hour = t.hour; minute = t.minute; second = t.second; minus = t.minus && not (eqb t.halves 0); halves = t.halves }

-- 0 at 0 and 1 at any other number: the flag of what is written only where it isn't 0
unfoldable pub sign : ℕ → ℕ
sign n = cond (eqb n 0) 0 1

-- the normal octets of a time: all reserved bits clear, the long form only for seconds other than 0, the offset's octet only for an offset other than 0
-- (document 01, Records and meaning: normal form)
unfoldable pub time_octets : Time → List ℕ
time_octets t =
    digits 4 (t.day * 2 ^ 14 + sign t.halves * 2 ^ 12 + sign t.second * 2 ^ 11 + t.hour * 2 ^ 6 + t.minute)
    ++ cond (eqb t.second 0) [] ((t.second * 4) ∷ 0 ∷ [])
    ++ cond (eqb t.halves 0) [] ((cond t.minus 32 0 + t.halves) ∷ [])

-- minutes of local time, UTC plus the offset, counted from as many days before day 0 as the offset has half hours. A day is longer than half an hour, so each half
-- hour that is taken off comes with a day of 1,440 minutes, and nothing is cut off at 0, whatever the fields hold
unfoldable pub local_minutes : Time → ℕ
local_minutes t =
    let utc = (t.day * 24 + t.hour) * 60 + t.minute in
    utc + cond t.minus (1440 - 30) (1440 + 30) * t.halves

-- local time in day, hour, minute and second: the days that were added are taken off the day again. That of a time in range may be -1 or 100,000
unfoldable pub local_of : Time → Local
local_of t =
    record { day = sub_ℕ (local_minutes t / 1440) t.halves; hour = local_minutes t / 60 % 24; minute = local_minutes t % 60; second = t.second }
