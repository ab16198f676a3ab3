-- Times with their texts, computed; the texts were written by hand. Modules are checked by their names, so a wrong calendar falls here first.
use mathlib.Core.Path.{◌≡◌, refl}
use mathlib.Core.Bool.{true, false}
use Rattle.octets.specs.Numbers.{among}
use Rattle.values.specs.Times.{local_minutes, local_of}
use Rattle.show.specs.Lines.{ascii}
use Rattle.xml.specs.Dates.{is_leap, year_days, month_days, year_from, month_from, date_of, days_to, local_date, padded, between, date_text, clock, time_text}

-- 50,000 is 10 October 1995 (002, clause 4.7.4); the first and the last day that a legal time can have; a leap day
pub record Times : Type 0 where
  named : time_text (record { day = 50_000; hour = 12; minute = 30; second = 5; minus = true; halves = 3 }) ≡ ascii "1995-10-10T11:00:05-01:30"
  first : time_text (record { day = 0; hour = 0; minute = 0; second = 0; minus = true; halves = 31 }) ≡ ascii "1858-11-16T08:30:00-15:30"
  last : time_text (record { day = 99_999; hour = 23; minute = 59; second = 59; minus = false; halves = 31 }) ≡ ascii "2132-09-01T15:29:59+15:30"
  leap : time_text (record { day = 51_603; hour = 23; minute = 30; second = 0; minus = false; halves = 1 }) ≡ ascii "2000-03-01T00:00:00+00:30"

pub times : Times
unfolding time_text date_text days_to local_date date_of year_from month_from year_days month_days is_leap padded between clock local_minutes local_of ascii among
times = record { named = refl; first = refl; last = refl; leap = refl }
