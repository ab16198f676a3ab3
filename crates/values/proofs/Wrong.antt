-- Wrong answers, refuted by computing the definitions: for each public call two or more, of the kind that slips make.
use mathlib.Core.Path.{◌≡◌, ap}
use mathlib.Core.Bool.{Bool, true, false, false≢true, true≢false}
use mathlib.Core.List.{List, [], ◌∷◌}
use Prim.Native.Nat.{ℕ}
use native.Mathlib.Omega.{arith}
use lib.IntN.{pos, negsuc}
use lib.ListN.{length, get_or}
use Rattle.octets.specs.Counts.{as_octets, size_of}
use Rattle.octets.specs.Numbers.{value, digits}
use Rattle.octets.specs.Puts.{put_answer, put_out, Puts}
use Rattle.octets.proofs.Tests.{never}
use Rattle.values.specs.declared.Kind.TheVariants.{HoldsText, HoldsPlain, HoldsTime, HoldsBearer, HoldsNumber}
use Rattle.values.specs.declared.NumberKind.TheVariants.{Duration, ShortId, Integer}
use Rattle.std.specs.Prelude.{Option, Some, None, Result, Ok, Err}
use Rattle.octets.specs.declared.counts.Octets.{Octets}
use Rattle.octets.specs.declared.PutError.TheVariants.{NoRoom}
use Rattle.values.specs.declared.Time.{Time}
use Rattle.values.specs.declared.TimeError.{TimeError}
use Rattle.values.specs.declared.TimeError.TheVariants.{Date, Minutes}
use Rattle.values.specs.declared.Bearer.{Bearer}
use Rattle.values.specs.Table.{rows, kind_in, known, attribute, defaults, default_in}
use Rattle.values.specs.Times.{bits, long_flag, offset_flag, offset_octet, time_of, in_range, is_time}
use Rattle.values.specs.Times.{wrong_part, wrong_time, error_of, canonical, sign, time_octets, local_minutes, local_of}
use Rattle.values.specs.Bearers.{ecc_eid, ensemble_flag, long_sid_flag, ensemble_of, bearer_of, is_bearer, ensemble_bit, ensemble_octets, bearer_octets}
use Rattle.values.specs.Values.{width, fits, wrong_field, meant, octets_of}
use Rattle.values.specs.Calls.{as_known, known_kind, taken_time, taken_bearer, bearer_in_range, normal_octets, normal_size, default_octets}

-- `is_attribute`: off by one on either side
pub attribute-from-0x81 : attribute 0x80 ≡ false → ⊥
unfolding attribute
attribute-from-0x81 h = true≢false h

pub attribute-from-0x7f : attribute 0x7F ≡ true → ⊥
unfolding attribute
attribute-from-0x7f h = false≢true h

-- `known_kind`: a pair that annex E marks as not used; the void element 0x05; an attribute looked up without its element
pub unused-pair-known : known_kind 0x28 0x81 ≡ Some (HoldsNumber Integer) → ⊥
unfolding known_kind as_known known attribute kind_in rows
unused-pair-known h = never (cc)

pub void-element-known : known_kind 0x03 0x05 ≡ Some HoldsText → ⊥
unfolding known_kind as_known known attribute kind_in rows
void-element-known h = never (cc)

pub attribute-anywhere : known_kind 0x02 0x80 ≡ known_kind 0x03 0x80 → ⊥
unfolding known_kind as_known known attribute kind_in rows
attribute-anywhere h = never (cc)

-- `is_default`: an octet 0x01 that is no default; recommendation "yes"; a default asked for without its element
pub logo-default : default_octets 0x2B 0x83 (1 ∷ []) ≡ true → ⊥
unfolding default_octets default_in defaults
logo-default h = false≢true h

pub yes-default : default_octets 0x1C 0x83 (2 ∷ []) ≡ true → ⊥
unfolding default_octets default_in defaults
yes-default h = false≢true h

pub on-air-kept : default_octets 0x2E 0x84 (1 ∷ []) ≡ false → ⊥
unfolding default_octets default_in defaults
on-air-kept h = true≢false h

-- `Time::take`: minus 0 kept apart from 0; date 100,000 taken; seconds made of the offset of a short time; reserved bits taken for date; a spare octet ignored;
-- the date told where the length is wrong; of two fields the last
abbrev at : ℕ → ℕ → Time
at day second = record { day = day; hour = 0; minute = 0; second = second; minus = false; halves = 0 }

abbrev minus_of : Result Time TimeError → Bool
minus_of (Ok t) = t.minus
minus_of (Err x) = false

pub minus-zero-kept : taken_time (0x30 ∷ 0xD4 ∷ 0x10 ∷ 0x00 ∷ 0x20 ∷ [])
    ≡ Ok (record { day = 50_000; hour = 0; minute = 0; second = 0; minus = true; halves = 0 }) → ⊥
unfolding taken_time is_time in_range time_of bits long_flag offset_flag offset_octet value
minus-zero-kept h = false≢true (ap minus_of h)

pub late-date-taken : taken_time (0x61 ∷ 0xA8 ∷ 0x00 ∷ 0x00 ∷ []) ≡ Ok (at 100_000 0) → ⊥
unfolding taken_time is_time in_range time_of bits long_flag offset_flag offset_octet value
late-date-taken h = never (cc)

pub short-time-seconds : taken_time (0x30 ∷ 0xD4 ∷ 0x10 ∷ 0x00 ∷ 0x1F ∷ [])
    ≡ Ok (record { day = 50_000; hour = 0; minute = 0; second = 7; minus = false; halves = 31 }) → ⊥
unfolding taken_time is_time in_range time_of bits long_flag offset_flag offset_octet value
short-time-seconds h = let z : ◌≡◌ {A = ℕ} 0 7 = cc in omega arith

pub reserved-bit-dated : (x : TimeError) → taken_time (0xB0 ∷ 0xD4 ∷ 0x00 ∷ 0x00 ∷ []) ≡ Err x → ⊥
unfolding taken_time is_time in_range time_of bits long_flag offset_flag offset_octet value
reserved-bit-dated x h = never (cc)

pub spare-octet-taken : taken_time (0x30 ∷ 0xD4 ∷ 0x00 ∷ 0x00 ∷ 0x00 ∷ []) ≡ Ok (at 50_000 0) → ⊥
unfolding taken_time is_time in_range time_of bits long_flag offset_flag offset_octet value
spare-octet-taken h = never (cc)

pub length-passed-over : taken_time (0x61 ∷ 0xA8 ∷ 0x00 ∷ 0x00 ∷ 0x00 ∷ []) ≡ Err Date → ⊥
unfolding taken_time is_time in_range time_of wrong_part wrong_time error_of bits long_flag offset_flag offset_octet value
length-passed-over h = never (cc)

pub last-field-told : taken_time (0x30 ∷ 0xD4 ∷ 0x06 ∷ 0x3C ∷ []) ≡ Err Minutes → ⊥
unfolding taken_time is_time in_range time_of wrong_part wrong_time error_of bits long_flag offset_flag offset_octet value
last-field-told h = never (cc)

-- `Time::valid`: date 100,000; second 60; 32 half hours; the last date refused
pub late-date-valid : in_range (at 100_000 0) ≡ true → ⊥
unfolding in_range
late-date-valid h = false≢true h

pub last-date-invalid : in_range (at 99_999 59) ≡ false → ⊥
unfolding in_range
last-date-invalid h = true≢false h

pub second-60-valid : in_range (at 0 60) ≡ true → ⊥
unfolding in_range
second-60-valid h = false≢true h

pub halves-32-valid : in_range (record { day = 0; hour = 0; minute = 0; second = 0; minus = false; halves = 32 }) ≡ true → ⊥
unfolding in_range
halves-32-valid h = false≢true h

-- `Time::canonical`: minus 0 left as it is; a minus dropped where there is an offset
pub canonical-minus-zero : (canonical (record { day = 1; hour = 2; minute = 3; second = 4; minus = true; halves = 0 })).minus ≡ true → ⊥
unfolding canonical
canonical-minus-zero h = false≢true h

pub canonical-no-minus : (canonical (record { day = 1; hour = 2; minute = 3; second = 4; minus = true; halves = 2 })).minus ≡ false → ⊥
unfolding canonical
canonical-no-minus h = true≢false h

-- `Time::local`: the sign dropped; the day before day 0 held at 0
pub local-sign-dropped : (local_of (record { day = 5; hour = 12; minute = 30; second = 0; minus = true; halves = 2 })).hour ≡ 13 → ⊥
unfolding local_of local_minutes
local-sign-dropped h = omega arith

pub local-day-held : (local_of (record { day = 0; hour = 0; minute = 10; second = 0; minus = true; halves = 1 })).day ≡ pos 0 → ⊥
unfolding local_of local_minutes
local-day-held h = never (cc)

-- the same where the offset takes off more than a day: the day held at -1
pub local-day-cut : (local_of (record { day = 0; hour = 0; minute = 0; second = 0; minus = true; halves = 100 })).day ≡ negsuc 0 → ⊥
unfolding local_of local_minutes
local-day-cut h = let z : ◌≡◌ {A = ℕ} 2 0 = cc in omega arith

-- `Time::size`: seconds left out; an octet for offset 0
pub seconds-not-counted : size_of (time_octets (at 50_000 15)) ≡ as_octets 4 → ⊥
unfolding time_octets digits sign
seconds-not-counted h = omega (arith, ap (λ n. n.0) h)

pub zero-offset-counted : size_of (time_octets (record { day = 50_000; hour = 0; minute = 0; second = 0; minus = true; halves = 0 })) ≡ as_octets 5 → ⊥
unfolding time_octets digits sign
zero-offset-counted h = omega (arith, ap (λ n. n.0) h)

-- `Time::put`: done where one octet lacks; part of it written all the same; a time out of range written
abbrev five : List ℕ
five = 1 ∷ 2 ∷ 3 ∷ 4 ∷ 5 ∷ []

pub time-past-room : (after : List ℕ) → Puts (in_range (at 50_000 0)) (time_octets (at 50_000 0)) 2 five after (Ok 6) → ⊥
unfolding put_answer in_range time_octets digits sign
time-past-room after p = let h = p.answers in never (cc)

pub time-part-written : Puts (in_range (at 50_000 0)) (time_octets (at 50_000 0)) 2 five (1 ∷ 2 ∷ 0x30 ∷ 0xD4 ∷ 0x00 ∷ []) (Err NoRoom) → ⊥
unfolding put_out in_range time_octets digits sign
time-part-written p = let z : ◌≡◌ {A = ℕ} 0x30 3 = ap (λ l. get_or l 2 0) p.leaves in omega arith

pub late-date-written : (after : List ℕ) → Puts (in_range (at 100_000 0)) (time_octets (at 100_000 0)) 0 five after (Ok 4) → ⊥
unfolding put_answer in_range
late-date-written after p = let h = p.answers in never (cc)

-- `Bearer::take`: a 16-bit service id as a 32-bit one; reserved bits refused; a spare octet ignored
abbrev long_of : Option Bearer → Bool
long_of (Some b) = b.long
long_of None = false

pub short-sid-long : taken_bearer (0x05 ∷ 0xC1 ∷ 0x23 ∷ []) ≡ Some (record { ensemble = None; long = true; sid = 0xC123; scids = 5 }) → ⊥
unfolding taken_bearer is_bearer bearer_of ensemble_of ensemble_flag long_sid_flag value
short-sid-long h = false≢true (ap long_of h)

pub reserved-bits-refused : taken_bearer (0xA5 ∷ 0xC1 ∷ 0x23 ∷ []) ≡ None → ⊥
unfolding taken_bearer is_bearer bearer_of ensemble_of ensemble_flag long_sid_flag value
reserved-bits-refused h = never (cc)

pub spare-bearer-octet : taken_bearer (0x05 ∷ 0xC1 ∷ 0x23 ∷ 0x00 ∷ []) ≡ Some (record { ensemble = None; long = false; sid = 0xC123; scids = 5 }) → ⊥
unfolding taken_bearer is_bearer bearer_of ensemble_of ensemble_flag long_sid_flag value
spare-bearer-octet h = never (cc)

-- `Bearer::valid`: SCIdS of five bits; a 17-bit service id as a short one
pub scids-16-valid : bearer_in_range (record { ensemble = None; long = false; sid = 1; scids = 16 }) ≡ true → ⊥
unfolding bearer_in_range
scids-16-valid h = false≢true h

pub wide-sid-valid : bearer_in_range (record { ensemble = None; long = false; sid = 0x1_0000; scids = 0 }) ≡ true → ⊥
unfolding bearer_in_range
wide-sid-valid h = false≢true h

-- `Bearer::size`: a long service id counted as a short one; the ensemble left out
pub long-sid-short : size_of (bearer_octets (record { ensemble = None; long = true; sid = 1; scids = 0 })) ≡ as_octets 3 → ⊥
unfolding bearer_octets ensemble_bit ensemble_octets digits
long-sid-short h = omega (arith, ap (λ n. n.0) h)

pub ensemble-not-counted : size_of (bearer_octets (record { ensemble = Some (ecc_eid 0xE1 0xC185); long = false; sid = 1; scids = 0 })) ≡ as_octets 3 → ⊥
unfolding bearer_octets ensemble_bit ensemble_octets digits
ensemble-not-counted h = omega (arith, ap (λ n. n.0) h)

-- `Bearer::put`: a 16-bit service id written as the 32-bit one of the same number; the octets before the place changed
pub widths-confused : bearer_octets (record { ensemble = None; long = false; sid = 0xC123; scids = 5 })
    ≡ bearer_octets (record { ensemble = None; long = true; sid = 0xC123; scids = 5 }) → ⊥
unfolding bearer_octets ensemble_bit ensemble_octets digits
widths-confused h = let z : ◌≡◌ {A = ℕ} 0x05 0x15 = ap (λ l. get_or l 0 0) h in omega arith

pub bearer-from-start : Puts true (bearer_octets (record { ensemble = None; long = false; sid = 0xC123; scids = 5 }))
    2 five (0x05 ∷ 0xC1 ∷ 0x23 ∷ 4 ∷ 5 ∷ []) (Ok 5) → ⊥
unfolding put_out bearer_octets ensemble_bit ensemble_octets digits
bearer-from-start p = let z : ◌≡◌ {A = ℕ} 0x05 1 = ap (λ l. get_or l 0 0) p.leaves in omega arith

-- `fits_kind`: a short id of two octets; date 100,000; an empty plain value refused
pub two-octet-id : fits (HoldsNumber ShortId) (0 ∷ 1 ∷ []) ≡ true → ⊥
unfolding fits width
two-octet-id h = false≢true h

pub late-date-fits : fits HoldsTime (0x61 ∷ 0xA8 ∷ 0x00 ∷ 0x00 ∷ []) ≡ true → ⊥
unfolding fits is_time in_range time_of bits long_flag offset_flag offset_octet value
late-date-fits h = false≢true h

pub empty-plain-refused : fits HoldsPlain [] ≡ false → ⊥
unfolding fits
empty-plain-refused h = true≢false h

-- the size that an answer of `normal_size` tells
abbrev size_in : Option Octets → ℕ
size_in (Some n) = n.0
size_in None = 0

-- `wrong_field`: a duration whose octets would be a time of a late date; a time without its field
pub field-of-duration : wrong_field (HoldsNumber Duration) (0x61 ∷ 0xA8 ∷ 0x00 ∷ 0x00 ∷ []) ≡ 2 → ⊥
unfolding wrong_field
field-of-duration h = let z : ◌≡◌ {A = ℕ} 0 2 = h in omega arith

pub field-left-out : wrong_field HoldsTime (0x61 ∷ 0xA8 ∷ 0x00 ∷ 0x00 ∷ []) ≡ 0 → ⊥
unfolding wrong_field wrong_time wrong_part time_of bits long_flag offset_flag offset_octet value
field-left-out h = let z : ◌≡◌ {A = ℕ} 2 0 = h in omega arith

-- `normal_size`: the octet of minus 0 counted; the size of octets that are no value
pub minus-zero-counted : normal_size HoldsTime (0x30 ∷ 0xD4 ∷ 0x10 ∷ 0x00 ∷ 0x20 ∷ []) ≡ Some (as_octets 5) → ⊥
unfolding normal_size normal_octets fits meant octets_of is_time in_range time_of bits long_flag offset_flag offset_octet value time_octets digits sign
minus-zero-counted h = let z : ◌≡◌ {A = ℕ} 4 5 = ap size_in h in omega arith

pub no-value-sized : normal_size (HoldsNumber Duration) (0x3C ∷ []) ≡ Some (as_octets 2) → ⊥
unfolding normal_size fits width
no-value-sized h = never (cc)

-- `put_normal`: reserved bits kept; octets that are no value written; zero seconds kept in the long form
pub reserved-bits-kept : normal_octets HoldsBearer (0xA5 ∷ 0xC1 ∷ 0x23 ∷ []) ≡ 0xA5 ∷ 0xC1 ∷ 0x23 ∷ [] → ⊥
unfolding normal_octets meant octets_of bearer_of ensemble_of ensemble_flag long_sid_flag value bearer_octets ensemble_bit ensemble_octets digits
reserved-bits-kept h = let z : ◌≡◌ {A = ℕ} 0x05 0xA5 = ap (λ l. get_or l 0 0) h in omega arith

pub zero-seconds-kept : length (normal_octets HoldsTime (0x30 ∷ 0xD4 ∷ 0x08 ∷ 0x00 ∷ 0x00 ∷ 0x00 ∷ [])) ≡ 6 → ⊥
unfolding normal_octets meant octets_of time_of bits long_flag offset_flag offset_octet value time_octets digits sign
zero-seconds-kept h = omega arith

pub no-value-written :
    (after : List ℕ) → Puts (fits (HoldsNumber Duration) (0x3C ∷ [])) (normal_octets (HoldsNumber Duration) (0x3C ∷ [])) 0 five after (Ok 2) → ⊥
unfolding put_answer fits width
no-value-written after p = let h = p.answers in never (cc)
