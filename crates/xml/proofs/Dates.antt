-- The date of a day: years and months that are counted never run out, the year of a legal time lies within 1 to 9999, and no two days have one date.
use mathlib.Core.Path.{◌≡◌, refl, sym, ap, ◌∙◌}
use mathlib.Core.Bool.{Bool, true, false, cond}
use mathlib.Core.List.{List, [], ◌∷◌, ◌++◌}
use Prim.Native.Nat.{ℕ, zero, suc, ◌+◌, ◌-◌, ◌*◌, ◌/◌, ◌%◌, ◌≤◌, ◌<◌}
use native.Mathlib.Omega.{arith}
use lib.Dec.{eqb, ltb}
use lib.IntN.{sub_ℕ}
use borrow.Author.Tests.{lt-ltb, le-ltb, ltb-true, ltb-false}
use Rattle.octets.specs.Numbers.{among}
use Rattle.values.specs.declared.Time.{Time}
use Rattle.values.specs.Times.{in_range, local_of}
use Rattle.values.proofs.Times.{Bounds, bounds, minutes_in_range, local-in-range}
use Rattle.xml.specs.Dates.{is_leap, year_days, month_days, year_from, month_from, Date, date_of, days_to, local_date, between, date_text, clock, time_text}

-- ---- years

pub year-size : (y : ℕ) → (365 ≤ year_days y) × (year_days y ≤ 366)
unfolding year_days
year-size y = go (is_leap y)
  where
    go : (b : Bool) → (365 ≤ cond b 366 365) × (cond b 366 365 ≤ 366)
    go true = omega arith
    go false = omega arith

module _ (k y n : ℕ) where
  pub year-here : n < year_days y → year_from (suc k) y n ≡ (y, n)
  unfolding year_from
  year-here h = rw (lt-ltb n (year_days y) h)

  pub year-later : year_days y ≤ n → year_from (suc k) y n ≡ year_from k (suc y) (n - year_days y)
  unfolding year_from
  year-later h = rw (le-ltb n (year_days y) h)

year-least : (k y n : ℕ) → y ≤ (year_from k y n).0
unfolding year_from
year-least zero y n = omega arith
year-least (suc k) y n = go (ltb n (year_days y)) refl (year-least k (suc y) (n - year_days y))
  where
    go : (b : Bool) → ltb n (year_days y) ≡ b → suc y ≤ (year_from k (suc y) (n - year_days y)).0 → y ≤ (year_from (suc k) y n).0
    go true e ih = rw (year-here k y n (ltb-true n (year_days y) e)) (omega arith)
    go false e ih = rw (year-later k y n (ltb-false n (year_days y) e)) (omega arith)

-- the years that may be passed suffice
pub record YearFound (k y : ℕ) (r : ℕ × ℕ) : Type 0 where
  pub least : y ≤ r.0
  pub most : r.0 < y + k
  pub inside : r.1 < year_days r.0

pub year-found : (k y n : ℕ) → n < 365 * k → YearFound k y (year_from k y n)
year-found zero y n h = absurd (omega arith)
year-found (suc k) y n h = go (ltb n (year_days y)) refl (λ g. year-found k (suc y) (n - year_days y) g)
  where
    go : (b : Bool) → ltb n (year_days y) ≡ b → (n - year_days y < 365 * k → YearFound k (suc y) (year_from k (suc y) (n - year_days y)))
        → YearFound (suc k) y (year_from (suc k) y n)
    go true e ih = let l = ltb-true n (year_days y) e in rw (year-here k y n l) (record { least = omega arith; most = omega arith; inside = l })
    go false e ih =
        let l = ltb-false n (year_days y) e in
        let s = year-size y in
        let f = ih (omega arith) in
        let a = f.least in
        let b = f.most in
        rw (year-later k y n l) (record { least = omega arith; most = omega arith; inside = f.inside })

year-one : (k y n m : ℕ) → (year_from k y n).0 ≡ (year_from k y m).0 → (year_from k y n).1 ≡ (year_from k y m).1 → n ≡ m
unfolding year_from
year-one zero y n m p q = q
year-one (suc k) y n m p q =
    go (ltb n (year_days y)) (ltb m (year_days y)) refl refl (year-one k (suc y) (n - year_days y) (m - year_days y)) p q
  where
    go : (b c : Bool) → ltb n (year_days y) ≡ b → ltb m (year_days y) ≡ c
        → ((year_from k (suc y) (n - year_days y)).0 ≡ (year_from k (suc y) (m - year_days y)).0 → (year_from k (suc y) (n - year_days y)).1 ≡ (year_from k (suc y) (m - year_days y)).1
        → n - year_days y ≡ m - year_days y)
        → (year_from (suc k) y n).0 ≡ (year_from (suc k) y m).0 → (year_from (suc k) y n).1 ≡ (year_from (suc k) y m).1 → n ≡ m
    go true true e f ih p q =
        let a = year-here k y n (ltb-true n (year_days y) e) in
        let b = year-here k y m (ltb-true m (year_days y) f) in
        rw (a, b) at q
    go true false e f ih p q =
        let a = year-here k y n (ltb-true n (year_days y) e) in
        let b = year-later k y m (ltb-false m (year_days y) f) in
        let l = year-least k (suc y) (m - year_days y) in
        let r : y ≡ (year_from k (suc y) (m - year_days y)).0 = rw (a, b) at p in
        absurd (omega arith)
    go false true e f ih p q =
        let a = year-later k y n (ltb-false n (year_days y) e) in
        let b = year-here k y m (ltb-true m (year_days y) f) in
        let l = year-least k (suc y) (n - year_days y) in
        let r : (year_from k (suc y) (n - year_days y)).0 ≡ y = rw (a, b) at p in
        absurd (omega arith)
    go false false e f ih p q =
        let a = year-later k y n (ltb-false n (year_days y) e) in
        let b = year-later k y m (ltb-false m (year_days y) f) in
        let r = ih (rw (a, b) at p) (rw (a, b) at q) in
        let s = ltb-false n (year_days y) e in
        let t = ltb-false m (year_days y) f in
        omega arith

-- ---- months

pub month-size : (y m : ℕ) → month_days y m ≤ 31
unfolding month_days among
month-size y m = go (is_leap y) (eqb m 2) (among m (4 ∷ 6 ∷ 9 ∷ 11 ∷ []))
  where
    go : (a b c : Bool) → cond b (cond a 29 28) (cond c 30 31) ≤ 31
    go true true c = omega arith
    go false true c = omega arith
    go a false true = omega arith
    go a false false = omega arith

module _ (k y m n : ℕ) where
  pub month-here : n < month_days y m → month_from (suc k) y m n ≡ (m, suc n)
  unfolding month_from
  month-here h = rw (lt-ltb n (month_days y m) h)

  pub month-later : month_days y m ≤ n → month_from (suc k) y m n ≡ month_from k y (suc m) (n - month_days y m)
  unfolding month_from
  month-later h = rw (le-ltb n (month_days y m) h)

month-least : (k y m n : ℕ) → m ≤ (month_from k y m n).0
unfolding month_from
month-least zero y m n = omega arith
month-least (suc k) y m n = go (ltb n (month_days y m)) refl (month-least k y (suc m) (n - month_days y m))
  where
    go : (b : Bool) → ltb n (month_days y m) ≡ b → suc m ≤ (month_from k y (suc m) (n - month_days y m)).0 → m ≤ (month_from (suc k) y m n).0
    go true e ih = rw (month-here k y m n (ltb-true n (month_days y m) e)) (omega arith)
    go false e ih = rw (month-later k y m n (ltb-false n (month_days y m) e)) (omega arith)

-- the days of so many months
abbrev pub months_days : ℕ → ℕ → ℕ → ℕ
months_days zero y m = 0
months_days (suc k) y m = month_days y m + months_days k y (suc m)

-- those of a year
pub months-year : (y : ℕ) → months_days 12 y 1 ≡ year_days y
unfolding year_days month_days among
months-year y = go (is_leap y)
  where
    go : (b : Bool) → 31 + (cond b 29 28 + (31 + (30 + (31 + (30 + (31 + (31 + (30 + (31 + (30 + (31 + 0))))))))))) ≡ cond b 366 365
    go true = refl
    go false = refl

pub record MonthFound (k m : ℕ) (r : ℕ × ℕ) : Type 0 where
  pub least : m ≤ r.0
  pub most : r.0 < m + k
  pub first : 1 ≤ r.1
  pub last : r.1 ≤ 31

pub month-found : (k y m n : ℕ) → n < months_days k y m → MonthFound k m (month_from k y m n)
month-found zero y m n h = absurd (omega arith)
month-found (suc k) y m n h = go (ltb n (month_days y m)) refl (λ g. month-found k y (suc m) (n - month_days y m) g)
  where
    go : (b : Bool) → ltb n (month_days y m) ≡ b → (n - month_days y m < months_days k y (suc m) → MonthFound k (suc m) (month_from k y (suc m) (n - month_days y m)))
        → MonthFound (suc k) m (month_from (suc k) y m n)
    go true e ih =
        let l = ltb-true n (month_days y m) e in
        let s = month-size y m in
        rw (month-here k y m n l) (record { least = omega arith; most = omega arith; first = omega arith; last = omega arith })
    go false e ih =
        let l = ltb-false n (month_days y m) e in
        let f = ih (omega arith) in
        let a = f.least in
        let b = f.most in
        rw (month-later k y m n l) (record { least = omega arith; most = omega arith; first = f.first; last = f.last })

month-one : (k y m n p : ℕ) → (month_from k y m n).0 ≡ (month_from k y m p).0 → (month_from k y m n).1 ≡ (month_from k y m p).1 → n ≡ p
unfolding month_from
month-one zero y m n p e f = omega arith
month-one (suc k) y m n p e f =
    go (ltb n (month_days y m)) (ltb p (month_days y m)) refl refl (month-one k y (suc m) (n - month_days y m) (p - month_days y m)) e f
  where
    go : (b c : Bool) → ltb n (month_days y m) ≡ b → ltb p (month_days y m) ≡ c
        → ((month_from k y (suc m) (n - month_days y m)).0 ≡ (month_from k y (suc m) (p - month_days y m)).0
        → (month_from k y (suc m) (n - month_days y m)).1 ≡ (month_from k y (suc m) (p - month_days y m)).1 → n - month_days y m ≡ p - month_days y m)
        → (month_from (suc k) y m n).0 ≡ (month_from (suc k) y m p).0 → (month_from (suc k) y m n).1 ≡ (month_from (suc k) y m p).1 → n ≡ p
    go true true g h ih e f =
        let a = month-here k y m n (ltb-true n (month_days y m) g) in
        let b = month-here k y m p (ltb-true p (month_days y m) h) in
        let r : suc n ≡ suc p = rw (a, b) at f in
        omega arith
    go true false g h ih e f =
        let a = month-here k y m n (ltb-true n (month_days y m) g) in
        let b = month-later k y m p (ltb-false p (month_days y m) h) in
        let l = month-least k y (suc m) (p - month_days y m) in
        let r : m ≡ (month_from k y (suc m) (p - month_days y m)).0 = rw (a, b) at e in
        absurd (omega arith)
    go false true g h ih e f =
        let a = month-later k y m n (ltb-false n (month_days y m) g) in
        let b = month-here k y m p (ltb-true p (month_days y m) h) in
        let l = month-least k y (suc m) (n - month_days y m) in
        let r : (month_from k y (suc m) (n - month_days y m)).0 ≡ m = rw (a, b) at e in
        absurd (omega arith)
    go false false g h ih e f =
        let a = month-later k y m n (ltb-false n (month_days y m) g) in
        let b = month-later k y m p (ltb-false p (month_days y m) h) in
        let r = ih (rw (a, b) at e) (rw (a, b) at f) in
        let s = ltb-false n (month_days y m) g in
        let t = ltb-false p (month_days y m) h in
        omega arith

-- ---- dates

-- a date of the calendar, of a year from 1858 to 2132
pub record InCalendar (d : Date) : Type 0 where
  pub early : 1858 ≤ d.year
  pub late : d.year ≤ 2132
  pub month : 1 ≤ d.month
  pub months : d.month ≤ 12
  pub day : 1 ≤ d.day
  pub days : d.day ≤ 31

pub date-within : (n : ℕ) → n < 100_375 → InCalendar (date_of n)
unfolding date_of
date-within n h =
    let y = year-found 275 1858 n h in
    let m = month-found 12 (year_from 275 1858 n).0 1 (year_from 275 1858 n).1 (rw (months-year (year_from 275 1858 n).0) y.inside) in
    let a = y.most in
    let b = m.most in
    record { early = y.least; late = omega arith; month = m.least; months = omega arith; day = m.first; days = m.last }

-- no two days have one date
pub date-one : (n m : ℕ) → (date_of n).year ≡ (date_of m).year → (date_of n).month ≡ (date_of m).month → (date_of n).day ≡ (date_of m).day → n ≡ m
unfolding date_of
date-one n m p q r =
    let y = year_from 275 1858 n in
    let z = year_from 275 1858 m in
    year-one 275 1858 n m p (month-one 12 y.0 1 y.1 z.1 (rw (sym p) at q) (rw (sym p) at r))

-- ---- times

-- the days of a time in range, by its minutes from the day before day 0
days-less : (n : ℕ) → days_to (sub_ℕ n 1) ≡ 319 + n
unfolding days_to
days-less zero = refl
days-less (suc n) = rw (le-ltb (suc n) 1 (omega arith)) (omega arith)

pub days-told : (t : Time) → in_range t ≡ true → days_to (local_of t).day ≡ 319 + minutes_in_range t / 1440
days-told t h = ap (λ l. days_to l.day) (local-in-range t h) ∙ days-less (minutes_in_range t / 1440)

pub minutes-few : (t : Time) → Bounds t → minutes_in_range t < 1440 * 100_002
minutes-few t r = go t.minus
  where
    go : (b : Bool) → cond b (((t.day + 1) * 24 + t.hour) * 60 + t.minute - 30 * t.halves) (((t.day + 1) * 24 + t.hour) * 60 + t.minute + 30 * t.halves) < 1440 * 100_002
    go true = omega (arith, r.day, r.hour, r.minute, r.halves)
    go false = omega (arith, r.day, r.hour, r.minute, r.halves)

-- the text of a time that is so many minutes after the day before day 0
abbrev pub timed : Time → ℕ → List ℕ
timed t n =
    date_text (date_of (319 + n / 1440))
    ++ (0x54 ∷ (between 0x3A (clock (n / 60 % 24 ∷ n % 60 ∷ t.second ∷ [])) ++ (cond t.minus 0x2D 0x2B ∷ between 0x3A (clock (t.halves / 2 ∷ t.halves % 2 * 30 ∷ [])))))

pub time-told : (t : Time) → in_range t ≡ true → time_text t ≡ timed t (minutes_in_range t)
unfolding time_text local_date
time-told t h = rw (days-told t h, local-in-range t h)

-- the local date of a legal time is one of the calendar
pub local-within : (t : Time) → in_range t ≡ true → InCalendar (local_date t)
unfolding local_date
local-within t h = let l = minutes-few t (bounds t h) in rw (days-told t h) (date-within (319 + minutes_in_range t / 1440) (omega arith))

-- a local year outside 1 to 9999 can't arise from a legal date (request 2026-02)
pub local-year : (t : Time) → in_range t ≡ true → (1 ≤ (local_date t).year) × ((local_date t).year ≤ 9999)
local-year t h = let c = local-within t h in let a = c.early in let b = c.late in (omega arith, omega arith)
