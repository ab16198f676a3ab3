-- The ways through the functions that tell a date.
use mathlib.Core.Path.{◌≡◌, refl, sym, ap, ap₂, ◌∙◌, subst}
use mathlib.Core.Bool.{Bool, true, false, cond, false≢true}
use mathlib.Core.List.{List, [], ◌∷◌, ◌++◌}
use Prim.Native.Nat.{ℕ, zero, suc, ◌+◌, ◌-◌, ◌*◌, ◌/◌, ◌%◌, ◌≤◌, ◌<◌}
use native.Mathlib.Omega.{arith}
use lib.Dec.{T, eqb}
use borrow.Author.Tests.{ne_eqb, eq-eqb, le-ltb, ltb-true}
use lib.IntN.{ℤ, pos, negsuc, nat_abs, sub_ℕ}
use lib.Signed.{lt_z, non_neg}
use mir.Syntax.{w32, w64}
use mir.Val.{Fits, SFits, to_z, of_z}
use mir.ValLaws.{to_z-of_z}
use Rattle.octets.specs.Numbers.{among}
use Rattle.values.specs.declared.Time.{Time}
use Rattle.values.specs.declared.Local.{Local}
use Rattle.values.specs.Times.{in_range, local_of}
use Rattle.values.proofs.Times.{bounds, minutes_in_range, local-in-range}
use Rattle.xml.specs.declared.calendar.Part.{Part}
use Rattle.xml.specs.Dates.{is_leap, year_days, month_days, year_from, month_from, date_of, days_to, local_date, padded, between, date_text, clock, time_text}
use Rattle.xml.specs.Steps.{Puts, YearIs, MonthIs, LocalDay}
use Rattle.xml.specs.Steps.LocalDay.{day_before, day_onward}
use Rattle.xml.proofs.Dates.{year-size, month-size, year-here, year-later, month-here, month-later, months_days, months-year, YearFound, year-found, MonthFound, month-found, minutes-few, days-told}
use Rattle.xml.proofs.Putting.{then, reworded}

-- ---- leap years

module _ (y : ℕ) where
  pub leap-four : (y % 4 ≡ 0 → ⊥) → false ≡ is_leap y
  unfolding is_leap
  leap-four h = rw (ne_eqb (y % 4) 0 h)

  pub leap-hundred : y % 4 ≡ 0 → (y % 100 ≡ 0 → ⊥) → true ≡ is_leap y
  unfolding is_leap
  leap-hundred h g = rw (eq-eqb (y % 4) 0 h, ne_eqb (y % 100) 0 g)

  pub leap-rest : y % 4 ≡ 0 → y % 100 ≡ 0 → eqb (y % 400) 0 ≡ is_leap y
  unfolding is_leap
  leap-rest h g = rw (eq-eqb (y % 4) 0 h, eq-eqb (y % 100) 0 g)

  pub days-leap : (b : Bool) → b ≡ is_leap y → b ≡ true → 366 ≡ year_days y
  unfolding year_days
  days-leap b e h = rw (sym e ∙ h)

  pub days-common : (b : Bool) → b ≡ is_leap y → b ≡ false → 365 ≡ year_days y
  unfolding year_days
  days-common b e h = rw (sym e ∙ h)

pub ruleset leap_ways = (leap-four, leap-hundred, leap-rest, days-leap, days-common)

module _ (y m : ℕ) where
  pub february-leap : m ≡ 2 → (b : Bool) → b ≡ is_leap y → b ≡ true → 29 ≡ month_days y m
  unfolding month_days
  february-leap h b e g = rw (eq-eqb m 2 h, sym e ∙ g)

  pub february : m ≡ 2 → (b : Bool) → b ≡ is_leap y → b ≡ false → 28 ≡ month_days y m
  unfolding month_days
  february h b e g = rw (eq-eqb m 2 h, sym e ∙ g)

  pub short-april : m ≡ 4 → 30 ≡ month_days y m
  unfolding month_days among
  short-april h = rw h

  pub short-june : m ≡ 6 → 30 ≡ month_days y m
  unfolding month_days among
  short-june h = rw h

  pub short-september : m ≡ 9 → 30 ≡ month_days y m
  unfolding month_days among
  short-september h = rw h

  pub short-november : m ≡ 11 → 30 ≡ month_days y m
  unfolding month_days among
  short-november h = rw h

  pub long-month : (m ≡ 2 → ⊥) → (m ≡ 4 → ⊥) → (m ≡ 6 → ⊥) → (m ≡ 9 → ⊥) → (m ≡ 11 → ⊥) → 31 ≡ month_days y m
  unfolding month_days among
  long-month a b c d e = rw (ne_eqb m 2 a, ne_eqb m 4 b, ne_eqb m 6 c, ne_eqb m 9 d, ne_eqb m 11 e)

pub ruleset month_ways = (february-leap, february, short-april, short-june, short-september, short-november, long-month)

-- ---- years

pub record Years (days year rest : ℕ) : Type 0 where
  pub left : ℕ
  pub is : left + year ≡ 2133
  pub few : rest < 365 * left
  pub same : year_from 275 1858 days ≡ year_from left year rest

module _ (days : ℕ) where
  pub years-begin : days < 100_375 → Years days 1858 days
  years-begin h = record { left = 275; is = refl; few = h; same = refl }

  module _ (year rest size : ℕ) (e : size ≡ year_days year) where
    one_more : (left : ℕ) → left + year ≡ 2133 → rest < 365 * left → year_from 275 1858 days ≡ year_from left year rest → size ≤ rest → Years days (year + 1) (rest - size)
    one_more zero i f s h = absurd (omega arith)
    one_more (suc k) i f s h =
        let z = year-size year in
        let g : suc year ≡ year + 1 = omega arith in
        record {
          left = k;
          is = omega arith;
          few = omega arith;
          same = s ∙ year-later k year rest (rw e at h) ∙ rw (e, g);
        }

    pub years-again : Years days year rest → size ≤ rest → Years days (year + 1) (rest - size)
    years-again y h = one_more y.left y.is y.few y.same h

  ended : (left year rest : ℕ) → rest < 365 * left → rest < year_days year → year_from left year rest ≡ (year, rest)
  ended zero year rest f l = absurd (omega arith)
  ended (suc k) year rest f l = year-here k year rest l

  pub years-end : (year rest : ℕ) → Years days year rest → rest < year_days year → YearIs days (record { number = year; rest = rest })
  years-end year rest y h =
      let e = y.same ∙ ended y.left year rest y.few h in
      record { year = sym (ap (λ (p : ℕ × ℕ). p.0) e); rest = sym (ap (λ (p : ℕ × ℕ). p.1) e) }

  pub years-stop : (year rest size : ℕ) → Years days year rest → size ≡ year_days year → rest < size → YearIs days (record { number = year; rest = rest })
  years-stop year rest size y e h = years-end year rest y (rw e at h)

  pub years-last : (year rest : ℕ) → Years days year rest → 2132 ≤ year → YearIs days (record { number = 2132; rest = rest })
  years-last year rest y h =
      let e : year ≡ 2132 = omega (arith, y.is, y.few) in
      years-end 2132 rest (subst (λ n. Years days n rest) e y) (omega (arith, y.is, y.few, year-size 2132))

-- ---- months

pub record Months (year days month rest : ℕ) : Type 0 where
  pub left : ℕ
  pub is : left + month ≡ 13
  pub few : rest < months_days left year month
  pub same : month_from 12 year 1 days ≡ month_from left year month rest

module _ (year days : ℕ) where
  pub months-begin : days < year_days year → Months year days 1 days
  months-begin h = record { left = 12; is = refl; few = rw (months-year year) h; same = refl }

  module _ (month rest size : ℕ) (e : size ≡ month_days year month) where
    month-more : (left : ℕ) → left + month ≡ 13 → rest < months_days left year month → month_from 12 year 1 days ≡ month_from left year month rest → size ≤ rest → Months year days (month + 1) (rest - size)
    month-more zero i f s h = absurd (omega arith)
    month-more (suc k) i f s h =
        let g : suc month ≡ month + 1 = omega arith in
        let few : rest - month_days year month < months_days k year (suc month) = omega arith in
        record {
          left = k;
          is = omega arith;
          few = rw (e, sym g) few;
          same = s ∙ month-later k year month rest (rw e at h) ∙ rw (e, g);
        }

    pub months-again : Months year days month rest → size ≤ rest → Months year days (month + 1) (rest - size)
    months-again y h = month-more y.left y.is y.few y.same h

  month-ended : (left month rest : ℕ) → rest < months_days left year month → rest < month_days year month → month_from left year month rest ≡ (month, suc rest)
  month-ended zero month rest f l = absurd (omega arith)
  month-ended (suc k) month rest f l = month-here k year month rest l

  pub months-end : (month rest : ℕ) → Months year days month rest → rest < month_days year month → MonthIs year days (record { number = month; rest = rest + 1 })
  months-end month rest y h =
      let e = y.same ∙ month-ended y.left month rest y.few h in
      let n : rest + 1 ≡ suc rest = omega arith in
      record { month = sym (ap (λ (p : ℕ × ℕ). p.0) e); day = n ∙ sym (ap (λ (p : ℕ × ℕ). p.1) e) }

  pub months-stop : (month rest size : ℕ) → Months year days month rest → size ≡ month_days year month → rest < size → MonthIs year days (record { number = month; rest = rest + 1 })
  months-stop month rest size y e h = months-end month rest y (rw e at h)

  december : (month rest : ℕ) → Months year days month rest → 12 ≤ month → (month ≡ 12) × (rest < month_days year 12)
  december month rest y h = go y.left y.is y.few
    where
      go : (left : ℕ) → left + month ≡ 13 → rest < months_days left year month → (month ≡ 12) × (rest < month_days year 12)
      go zero i f = absurd (omega arith)
      go (suc zero) i f = let e : month ≡ 12 = omega arith in let l : rest < month_days year month = omega arith in (e, rw e at l)
      go (suc (suc k)) i f = absurd (omega arith)

  pub months-last : (month rest : ℕ) → Months year days month rest → 12 ≤ month → MonthIs year days (record { number = 12; rest = rest + 1 })
  months-last month rest y h =
      let d = december month rest y h in
      months-end 12 rest (subst (λ m. Months year days m rest) d.0 y) d.1

  pub months-last-fit : (month rest : ℕ) → Months year days month rest → 12 ≤ month → Fits w32 (rest + 1)
  months-last-fit month rest y h = omega (arith, (december month rest y h).1, month-size year 12)

-- ---- dates

module _ (days : ℕ) (y : Part) (h : days < 100_375) (e : YearIs days y) where
  found : YearFound 275 1858 (year_from 275 1858 days)
  found = year-found 275 1858 days h

  pub year-inside : y.rest < year_days y.number
  year-inside = rw (e.year, e.rest) found.inside

  pub year-four : y.number < 10_000
  year-four = omega (arith, e.year, found.most)

  module _ (m : Part) (f : MonthIs y.number y.rest m) where
    month : MonthFound 12 1 (month_from 12 y.number 1 y.rest)
    month = month-found 12 y.number 1 y.rest (rw (months-year y.number) year-inside)

    pub month-two : m.number < 100
    month-two = omega (arith, f.month, month.most)

    pub day-two : m.rest < 100
    day-two = omega (arith, f.day, month.last)

    pub date-is : date_text (record { year = y.number; month = m.number; day = m.rest }) ≡ date_text (date_of days)
    unfolding date_of
    date-is = ap date_text (λ z. record {
      year = e.year z;
      month = (f.month ∙ ap₂ (λ a b. (month_from 12 a 1 b).0) e.year e.rest) z;
      day = (f.day ∙ ap₂ (λ a b. (month_from 12 a 1 b).1) e.year e.rest) z;
    })

    pub date-put : (emit : Bool) (at a b to : ℕ) (o p q r : List ℕ)
        → Puts emit (padded 4 y.number) at o p a → Puts emit (0x2D ∷ []) a p q b → Puts emit (between 0x2D (clock (m.number ∷ m.rest ∷ []))) b q r to
        → Puts emit (date_text (date_of days)) at o r to
    unfolding date_text between clock
    date-put emit at a b to o p q r u v w =
        let one = padded 4 y.number in
        let two = between 0x2D (clock (m.number ∷ m.rest ∷ [])) in
        reworded emit (one ++ (0x2D ∷ two)) (date_text (date_of days)) at o r to date-is
        (then emit one (0x2D ∷ two) at o p r a to u (then emit (0x2D ∷ []) two a p q r b to v w))

pub ruleset date-ways = (year-inside, year-four, month-two, day-two, date-put)

-- ---- times

pub pair_put : (emit : Bool) (x y mark at a b to : ℕ) (o p q r : List ℕ) → Puts emit (padded 2 x) at o p a → Puts emit (mark ∷ []) a p q b → Puts emit (padded 2 y) b q r to
    → Puts emit (between mark (clock (x ∷ y ∷ []))) at o r to
unfolding between clock
pair_put emit x y mark at a b to o p q r u v w =
    then emit (padded 2 x) (mark ∷ padded 2 y) at o p r a to u (then emit (mark ∷ []) (padded 2 y) a p q r b to v w)

pub clock-put : (emit : Bool) (x y z at a b to : ℕ) (o p q r : List ℕ) → Puts emit (padded 2 x) at o p a → Puts emit (0x3A ∷ []) a p q b → Puts emit (between 0x3A (clock (y ∷ z ∷ []))) b q r to
    → Puts emit (between 0x3A (clock (x ∷ y ∷ z ∷ []))) at o r to
unfolding between clock
clock-put emit x y z at a b to o p q r u v w =
    let rest = between 0x3A (clock (y ∷ z ∷ [])) in
    then emit (padded 2 x) (0x3A ∷ rest) at o p r a to u (then emit (0x3A ∷ []) rest a p q r b to v w)

module _ (t : Time) (h : in_range t ≡ true) where
  few : minutes_in_range t < 1440 * 100_002
  few = minutes-few t (bounds t h)

  local-day : LocalDay (local_of t).day
  local-day = subst (λ z. LocalDay z) (sym (ap (λ l. l.day) (local-in-range t h))) (go (minutes_in_range t / 1440) (omega (arith, few)))
    where
      go : (n : ℕ) → n ≤ 100_001 → LocalDay (sub_ℕ n 1)
      go zero l = day_before
      go (suc n) l = rw (le-ltb (suc n) 1 (omega arith)) (day_onward {n = suc n - 1} (omega arith))

  module _ (l : Local) (e : l ≡ local_of t) where
    pub day-legal : LocalDay l.day
    day-legal = rw e local-day

    pub days-few : (n : ℕ) → n ≡ days_to l.day → n < 100_375
    days-few n d = rw (d, e, days-told t h) (omega (arith, few))

    pub hour-two : l.hour < 100
    hour-two = rw (e, local-in-range t h) (omega arith)

    pub minute-two : l.minute < 100
    minute-two = rw (e, local-in-range t h) (omega arith)

    pub hour-fits : Fits w32 l.hour
    hour-fits = omega (arith, hour-two)

    pub minute-fits : Fits w32 l.minute
    minute-fits = omega (arith, minute-two)

-- ---- days_to

module _ (z : ℤ) (f : SFits w64 z) (l : LocalDay z) where
  read_back : to_z w64 (of_z w64 z) ≡ z
  read_back = to_z-of_z w64 z f

  pub day-below : lt_z (to_z w64 (of_z w64 z)) (pos 0) ≡ true → 319 ≡ days_to z
  unfolding days_to
  day-below h = go z l (sym (ap (λ y. lt_z y (pos 0)) read_back) ∙ h)
    where
      go : (y : ℤ) → LocalDay y → lt_z y (pos 0) ≡ true → 319 ≡ days_to y
      go (negsuc zero) day_before e = refl
      go (negsuc (suc _)) l e = elim l [ ]
      go (pos n) (day_onward m) e = absurd (omega (arith, ltb-true n 0 e))

  module _ (h : lt_z (to_z w64 (of_z w64 z)) (pos 0) ≡ false) where
    day-number : (n : ℕ) × (n ≤ 100_000) × (to_z w64 (of_z w64 z) ≡ pos n) × (days_to z ≡ 320 + n)
    unfolding days_to
    day-number = rw read_back (go z l (sym (ap (λ y. lt_z y (pos 0)) read_back) ∙ h))
      where
        go : (y : ℤ) → LocalDay y → lt_z y (pos 0) ≡ false → (n : ℕ) × (n ≤ 100_000) × (y ≡ pos n) × (days_to y ≡ 320 + n)
        go (negsuc zero) day_before e = absurd (false≢true (sym e))
        go (negsuc (suc _)) l e = elim l [ ]
        go (pos n) (day_onward m) e = (n, m, refl, refl)

    pub day-onward : T (non_neg (to_z w64 (of_z w64 z)))
    day-onward = let d = day-number in rw d.2 tt

    pub day-fits : Fits w32 (nat_abs (to_z w64 (of_z w64 z)))
    day-fits = let d = day-number in rw d.2 (omega (arith, d.1))

    pub days-fit : Fits w32 (320 + nat_abs (to_z w64 (of_z w64 z)))
    days-fit = let d = day-number in rw d.2 (omega (arith, d.1))

    pub days-onward : 320 + nat_abs (to_z w64 (of_z w64 z)) ≡ days_to z
    days-onward = let d = day-number in rw (d.2, d.3)

pub ruleset day_ways = (day-below, day-onward, day-fits, days-fit, days-onward)

-- ---- put_time

module _ (t : Time) (h : in_range t ≡ true) (l : Local) (e : l ≡ local_of t) (n : ℕ) (d : n ≡ days_to l.day) where
  whole-time : date_text (date_of n) ++ (0x54 ∷ (between 0x3A (clock (l.hour ∷ l.minute ∷ t.second ∷ [])) ++ (cond t.minus 0x2D 0x2B ∷ between 0x3A (clock (t.halves / 2 ∷ t.halves % 2 * 30 ∷ []))))) ≡ time_text t
  unfolding time_text local_date
  whole-time = rw (d, e)

  pub time-put : (emit : Bool) (at a b c to : ℕ) (o p q r s : List ℕ)
      → Puts emit (date_text (date_of n)) at o p a → Puts emit (0x54 ∷ []) a p q b → Puts emit (between 0x3A (clock (l.hour ∷ l.minute ∷ t.second ∷ []))) b q r c
      → Puts emit (cond t.minus 0x2D 0x2B ∷ between 0x3A (clock (t.halves / 2 ∷ t.halves % 2 * 30 ∷ []))) c r s to → Puts emit (time_text t) at o s to
  time-put emit at a b c to o p q r s u v w x =
      let day = date_text (date_of n) in
      let hours = between 0x3A (clock (l.hour ∷ l.minute ∷ t.second ∷ [])) in
      let off : List ℕ = cond t.minus 0x2D 0x2B ∷ between 0x3A (clock (t.halves / 2 ∷ t.halves % 2 * 30 ∷ [])) in
      reworded emit (day ++ (0x54 ∷ (hours ++ off))) (time_text t) at o s to whole-time
      (then emit day (0x54 ∷ (hours ++ off)) at o p s a to u (then emit (0x54 ∷ []) (hours ++ off) a p q s b to v (then emit hours off b q r s c to w x)))

module _ (t : Time) (h : in_range t ≡ true) where
  pub second-two : t.second < 100
  second-two = omega (arith, (bounds t h).second)

  pub halves-few : t.halves < 32
  halves-few = omega (arith, (bounds t h).halves)

pub ruleset time-ways = (day-legal, days-few, hour-two, minute-two, hour-fits, minute-fits, second-two, halves-few, time-put)
