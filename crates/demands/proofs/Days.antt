-- Request 2026-02: the calendar the other way round, from a date to its day.
use mathlib.Core.Path.{◌≡◌, refl, sym, ap, ◌∙◌}
use mathlib.Core.Bool.{Bool, true, false}
use Prim.Native.Nat.{ℕ, zero, suc, ◌+◌, ◌-◌, ◌/◌, ◌≤◌, ◌<◌}
use native.Mathlib.Omega.{arith}
use lib.Dec.{ltb}
use lib.IntN.{pos, sub_ℕ}
use borrow.Author.Tests.{ltb-true, ltb-false, le-ltb}
use Rattle.values.proofs.Times.{bounds, minutes_in_range, local-in-range}
use Rattle.xml.specs.Dates.{year_days, month_days, year_from, month_from, date_of, local_date}
use Rattle.xml.proofs.Dates.{year-here, year-later, year-found, month-here, month-later, months_days, months-year, date-within, days-told, minutes-few}
use Rattle.demands.specs.Days.{years_from, months_from, day_of, LocalDays}

years-none : (j y : ℕ) → j ≡ 0 → years_from j y ≡ 0
unfolding years_from
years-none j y e = rw e

years-more : (j i y : ℕ) → j ≡ suc i → years_from j y ≡ year_days y + years_from i (suc y)
unfolding years_from
years-more j i y e = rw e

-- the days of the years before a year, and the days in it, are so many days
record Counted (y : ℕ) (r : ℕ × ℕ) (n : ℕ) : Type 0 where
  least : y ≤ r.0
  sum : years_from (r.0 - y) y + r.1 ≡ n

year-back : (k y n : ℕ) → Counted y (year_from k y n) n
unfolding year_from
year-back zero y n = record { least = omega arith; sum = omega (arith, years-none (y - y) y (omega arith)) }
year-back (suc k) y n = go (ltb n (year_days y)) refl (year-back k (suc y) (n - year_days y))
  where
    go : (b : Bool) → ltb n (year_days y) ≡ b → Counted (suc y) (year_from k (suc y) (n - year_days y)) (n - year_days y) → Counted y (year_from (suc k) y n) n
    go true e ih = rw (year-here k y n (ltb-true n (year_days y) e)) (record { least = omega arith; sum = omega (arith, years-none (y - y) y (omega arith)) })
    go false e ih =
        let l = ltb-false n (year_days y) e in
        let r = year_from k (suc y) (n - year_days y) in
        let a = ih.least in
        let s = ih.sum in
        let m = years-more (r.0 - y) (r.0 - suc y) y (omega arith) in
        rw (year-later k y n l) (record { least = omega arith; sum = omega (arith, m, s, l) })

months-none : (j y m : ℕ) → j ≡ 0 → months_from j y m ≡ 0
unfolding months_from
months-none j y m e = rw e

months-more : (j i y m : ℕ) → j ≡ suc i → months_from j y m ≡ month_days y m + months_from i y (suc m)
unfolding months_from
months-more j i y m e = rw e

record CountedMonths (y m : ℕ) (r : ℕ × ℕ) (n : ℕ) : Type 0 where
  least : m ≤ r.0
  first : 1 ≤ r.1
  sum : months_from (r.0 - m) y m + (r.1 - 1) ≡ n

month-back : (k y m n : ℕ) → CountedMonths y m (month_from k y m n) n
unfolding month_from
month-back zero y m n = record { least = omega arith; first = omega arith; sum = omega (arith, months-none (m - m) y m (omega arith)) }
month-back (suc k) y m n = go (ltb n (month_days y m)) refl (month-back k y (suc m) (n - month_days y m))
  where
    go : (b : Bool) → ltb n (month_days y m) ≡ b → CountedMonths y (suc m) (month_from k y (suc m) (n - month_days y m)) (n - month_days y m)
        → CountedMonths y m (month_from (suc k) y m n) n
    go true e ih =
        rw (month-here k y m n (ltb-true n (month_days y m) e))
        (record { least = omega arith; first = omega arith; sum = omega (arith, months-none (m - m) y m (omega arith)) })
    go false e ih =
        let l = ltb-false n (month_days y m) e in
        let r = month_from k y (suc m) (n - month_days y m) in
        let a = ih.least in
        let s = ih.sum in
        let f = ih.first in
        let o = months-more (r.0 - m) (r.0 - suc m) y m (omega arith) in
        rw (month-later k y m n l) (record { least = omega arith; first = f; sum = omega (arith, o, s, l, f) })

-- the day of the date of a day is that day
day-back : (n : ℕ) → day_of (date_of n) ≡ n
unfolding date_of day_of
day-back n =
    let y = year_from 275 1858 n in
    let c = (year-back 275 1858 n).sum in
    let d = (month-back 12 y.0 1 y.1).sum in
    omega (arith, c, d)

-- a month that is found has that day
month-inside : (k y m n : ℕ) → n < months_days k y m → (month_from k y m n).1 ≤ month_days y (month_from k y m n).0
month-inside zero y m n h = absurd (omega arith)
month-inside (suc k) y m n h = go (ltb n (month_days y m)) refl (λ g. month-inside k y (suc m) (n - month_days y m) g)
  where
    go : (b : Bool) → ltb n (month_days y m) ≡ b
        → (n - month_days y m < months_days k y (suc m) → (month_from k y (suc m) (n - month_days y m)).1 ≤ month_days y (month_from k y (suc m) (n - month_days y m)).0)
        → (month_from (suc k) y m n).1 ≤ month_days y (month_from (suc k) y m n).0
    go true e ih = let l = ltb-true n (month_days y m) e in rw (month-here k y m n l) (omega arith)
    go false e ih = let l = ltb-false n (month_days y m) e in rw (month-later k y m n l) (ih (omega arith))

last-day : (n : ℕ) → n < 100_375 → (date_of n).day ≤ month_days (date_of n).year (date_of n).month
unfolding date_of
last-day n h =
    let y = year-found 275 1858 n h in
    month-inside 12 (year_from 275 1858 n).0 1 (year_from 275 1858 n).1 (rw (months-year (year_from 275 1858 n).0) y.inside)

-- from 1 January 1858, and from the day before day 0
less-day : (n : ℕ) → sub_ℕ (319 + n) 320 ≡ sub_ℕ n 1
less-day zero = refl
less-day (suc n) = rw (le-ltb (319 + suc n) 320 (omega arith), le-ltb (suc n) 1 (omega arith)) (ap pos (omega arith))

pub local-days : LocalDays
unfolding local_date
local-days t h =
    let l = minutes-few t (bounds t h) in
    let n = 319 + minutes_in_range t / 1440 in
    let few : n < 100_375 = omega arith in
    let c = date-within n few in
    rw (days-told t h) (record {
      early = c.early;
      late = c.late;
      month = c.month;
      months = c.months;
      first = c.day;
      last = last-day n few;
      back = ap (λ x. sub_ℕ x 320) (day-back n) ∙ (less-day (minutes_in_range t / 1440) ∙ sym (ap (λ x. x.day) (local-in-range t h)));
    })
