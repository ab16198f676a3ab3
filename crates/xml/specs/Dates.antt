-- The date of a day, by counting years and months of the Gregorian calendar, and a time as TS 102 818 writes it (003, clause 5.2.12; request 2026-02).
use Rattle.std.specs.Prelude.{Bool, cond, not, ◌&&◌, ◌||◌, List, [], ◌∷◌, ◌++◌, ℕ, zero, suc, ◌+◌, ◌-◌, ◌*◌, ◌/◌, ◌%◌, ◌^◌, eqb, ltb, ℤ, pos, negsuc}
use Rattle.octets.specs.Numbers.{among}
use Rattle.values.specs.declared.Time.{Time}
use Rattle.values.specs.Times.{local_of}

unfoldable pub is_leap : ℕ → Bool
is_leap year = eqb (year % 4) 0 && (not (eqb (year % 100) 0) || eqb (year % 400) 0)

unfoldable pub year_days : ℕ → ℕ
year_days year = cond (is_leap year) 366 365

unfoldable pub month_days : (year month : ℕ) → ℕ
month_days year month = cond (eqb month 2) (cond (is_leap year) 29 28) (cond (among month (4 ∷ 6 ∷ 9 ∷ 11 ∷ [])) 30 31)

-- the year of the day that is so many days after 1 January of a year, and how many days it is after 1 January of its own. The first number is how many years may be passed
unfoldable pub year_from : ℕ → (year days : ℕ) → ℕ × ℕ
year_from zero year n = (year, n)
year_from (suc k) year n = let later = year_from k (suc year) (n - year_days year) in cond (ltb n (year_days year)) (year, n) later

-- likewise the month, from the first of a month on, and the day of that month, from 1
unfoldable pub month_from : ℕ → (year month days : ℕ) → ℕ × ℕ
month_from zero year month n = (month, suc n)
month_from (suc k) year month n = let later = month_from k year (suc month) (n - month_days year month) in cond (ltb n (month_days year month)) (month, suc n) later

pub record Date : Type 0 where
  pub year : ℕ
  pub month : ℕ
  pub day : ℕ

-- the date so many days after 1 January 1858. The local date of a legal time lies within the 275 years from there on (proofs/Dates, local-within)
unfoldable pub date_of : ℕ → Date
date_of n =
    let y = year_from 275 1858 n in
    let m = month_from 12 y.0 1 y.1 in
    record { year = y.0; month = m.0; day = m.1 }

-- how many days a day of a local time lies after 1 January 1858. Day 0 is 17 November 1858 (modified Julian date; 002, clause 4.7.4), the day before it is day -1
unfoldable pub days_to : ℤ → ℕ
days_to (pos n) = 320 + n
days_to (negsuc n) = 319 - n

unfoldable pub local_date : Time → Date
local_date t = date_of (days_to (local_of t).day)

-- a number in so many decimal digits
unfoldable pub padded : ℕ → ℕ → List ℕ
padded zero n = []
padded (suc w) n = (48 + n / 10 ^ w) ∷ padded w (n % 10 ^ w)

-- fields with a mark between each two
unfoldable pub between : ℕ → List (List ℕ) → List ℕ
between mark [] = []
between mark (f ∷ []) = f
between mark (f ∷ g ∷ fs) = f ++ (mark ∷ between mark (g ∷ fs))

unfoldable pub date_text : Date → List ℕ
date_text d = between 0x2D (padded 4 d.year ∷ padded 2 d.month ∷ padded 2 d.day ∷ [])

-- hours, minutes and the like between colons
unfoldable pub clock : List ℕ → List (List ℕ)
clock [] = []
clock (n ∷ ns) = padded 2 n ∷ clock ns

-- local time, YYYY-MM-DDThh:mm:ss, and its offset, +hh:mm or -hh:mm: seconds always, +00:00 where the offset is 0, and never a Z
unfoldable pub time_text : Time → List ℕ
time_text t =
    date_text (local_date t)
    ++ (0x54 ∷ (between 0x3A (clock ((local_of t).hour ∷ (local_of t).minute ∷ t.second ∷ []))
    ++ (cond t.minus 0x2D 0x2B ∷ between 0x3A (clock (t.halves / 2 ∷ t.halves % 2 * 30 ∷ [])))))
