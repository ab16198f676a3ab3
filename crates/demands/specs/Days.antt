-- Request 2026-02: the local day of a legal time is a day of the Gregorian calendar, and that very day. `LocalYears` (Xml) alone would be met by a calendar that
-- stops; this is not: the days of the years and months before a date, counted without the walk that made it, give back the day.
use Rattle.std.specs.Prelude.{◌≡◌, true, ℕ, zero, suc, ◌+◌, ◌-◌, ◌≤◌, ℤ}
use Rattle.std.proofs.Math.IntN.{sub_ℕ}
use Rattle.values.specs.declared.Time.{Time}
use Rattle.values.specs.Times.{in_range, local_of}
use Rattle.xml.specs.Dates.{year_days, month_days, Date, local_date}

-- the days of so many years, from a year on, and of so many months of a year, from a month on
unfoldable pub years_from : (years year : ℕ) → ℕ
years_from zero year = 0
years_from (suc k) year = year_days year + years_from k (suc year)

unfoldable pub months_from : (months year month : ℕ) → ℕ
months_from zero year month = 0
months_from (suc k) year month = month_days year month + months_from k year (suc month)

-- how many days a date lies after 1 January 1858
unfoldable pub day_of : Date → ℕ
day_of d = years_from (d.year - 1858) 1858 + (months_from (d.month - 1) d.year 1 + (d.day - 1))

-- the modified Julian day of a date: 17 November 1858, 320 days after 1 January, is day 0, and the day before it day -1
abbrev pub julian : Date → ℤ
julian d = sub_ℕ (day_of d) 320

-- a date of the calendar that is this modified Julian day
pub record DateOfDay (d : Date) (day : ℤ) : Type 0 where
  pub early : 1858 ≤ d.year
  pub late : d.year ≤ 2132
  pub month : 1 ≤ d.month
  pub months : d.month ≤ 12
  pub first : 1 ≤ d.day
  pub last : d.day ≤ month_days d.year d.month
  pub back : julian d ≡ day

-- the local date of a legal time is a date of the calendar, of a year from 1858 to 2132, and that of the time's local day
abbrev pub LocalDays : Type 0
LocalDays = (t : Time) → in_range t ≡ true → DateOfDay (local_date t) (local_of t).day
