-- Times and bearers, computed: minus 0, the field that is wrong, local time over the first and the last day, the widths of a service id. Modules are checked by their names, so a wrong
-- definition falls here first.
use mathlib.Core.Path.{◌≡◌, refl}
use mathlib.Core.Bool.{true, false}
use mathlib.Core.List.{[], ◌∷◌}
use lib.IntN.{pos, sub_ℕ}
use Rattle.octets.specs.Numbers.{value, digits}
use Rattle.std.specs.Prelude.{Some, None}
use Rattle.values.specs.Times.{bits, long_flag, offset_flag, offset_octet, time_of, in_range, is_time, wrong_part, wrong_time, local_minutes, local_of}
use Rattle.values.specs.Bearers.{ecc_eid, ensemble_bit, ensemble_octets, bearer_octets}

-- minus 0 is 0 (document 01, P14)
pub minus-zero : time_of (0x30 ∷ 0xD4 ∷ 0x10 ∷ 0x00 ∷ 0x20 ∷ []) ≡ record { day = 50_000; hour = 0; minute = 0; second = 0; minus = false; halves = 0 }
unfolding value bits long_flag offset_flag offset_octet time_of
minus-zero = refl

-- dates up to 99,999 (document 01, Run: dates 99,999 and 100,000)
pub last-date : (is_time (0x61 ∷ 0xA7 ∷ 0xC0 ∷ 0x00 ∷ []) ≡ true) × (is_time (0x61 ∷ 0xA8 ∷ 0x00 ∷ 0x00 ∷ []) ≡ false)
unfolding value bits long_flag offset_flag offset_octet time_of in_range is_time
last-date = (refl, refl)

-- the field that is wrong (document 02, request 2026-04): a length hides all others, then the lowest of those that are out of range; minute 60 and second 60
pub wrong-fields : (wrong_time (0x61 ∷ 0xA8 ∷ 0x06 ∷ 0x3C ∷ 0x00 ∷ []) ≡ 1) × (wrong_time (0x61 ∷ 0xA8 ∷ 0x0E ∷ 0x3C ∷ 0xF0 ∷ 0x00 ∷ []) ≡ 2)
    × (wrong_time (0x30 ∷ 0xD4 ∷ 0x0E ∷ 0x3C ∷ 0xF0 ∷ 0x00 ∷ []) ≡ 3) × (wrong_time (0x30 ∷ 0xD4 ∷ 0x0D ∷ 0xFC ∷ 0xF0 ∷ 0x00 ∷ []) ≡ 4)
    × (wrong_time (0x30 ∷ 0xD4 ∷ 0x0D ∷ 0xFB ∷ 0xF0 ∷ 0x00 ∷ []) ≡ 5) × (wrong_time (0x30 ∷ 0xD4 ∷ 0x0D ∷ 0xFB ∷ 0xEC ∷ 0x00 ∷ []) ≡ 0)
unfolding value bits long_flag offset_flag offset_octet time_of wrong_part wrong_time
wrong-fields = (refl, refl, refl, refl, refl, refl)

-- half an hour before the start of day 0 is on day -1, and an hour and a half after the end of day 99,999 on day 100,000
pub day-before : local_of (record { day = 0; hour = 0; minute = 10; second = 5; minus = true; halves = 1 }) ≡ record { day = sub_ℕ 0 1; hour = 23; minute = 40; second = 5 }
unfolding local_minutes local_of
day-before = refl

pub day-after : local_of (record { day = 99_999; hour = 23; minute = 30; second = 0; minus = false; halves = 3 }) ≡ record { day = pos 100_000; hour = 1; minute = 0; second = 0 }
unfolding local_minutes local_of
day-after = refl

-- and beyond what the octets of a time can say: 50 hours before the start of day 0 is 22:00 on day -3, and 50 hours after it 02:00 on day 2
pub days-before : local_of (record { day = 0; hour = 0; minute = 0; second = 0; minus = true; halves = 100 }) ≡ record { day = sub_ℕ 0 3; hour = 22; minute = 0; second = 0 }
unfolding local_minutes local_of
days-before = refl

pub days-after : local_of (record { day = 0; hour = 0; minute = 0; second = 0; minus = false; halves = 100 }) ≡ record { day = pos 2; hour = 2; minute = 0; second = 0 }
unfolding local_minutes local_of
days-after = refl

-- a 16-bit service id and the 32-bit one of the same number are written apart
pub widths : (bearer_octets (record { ensemble = None; long = false; sid = 0xC123; scids = 5 }) ≡ 0x05 ∷ 0xC1 ∷ 0x23 ∷ [])
    × (bearer_octets (record { ensemble = Some (ecc_eid 0xE1 0xC185); long = true; sid = 0xC123; scids = 5 })
    ≡ 0x55 ∷ 0xE1 ∷ 0xC1 ∷ 0x85 ∷ 0x00 ∷ 0x00 ∷ 0xC1 ∷ 0x23 ∷ [])
unfolding digits ensemble_bit ensemble_octets bearer_octets
widths = (refl, refl)
