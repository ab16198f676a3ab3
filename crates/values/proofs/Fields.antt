-- Which field of a time is wrong (change request 2026-04).
use mathlib.Core.Path.{◌≡◌, refl, sym, ◌∙◌}
use mathlib.Core.Bool.{Bool, true, false, cond, ◌&&◌}
use mathlib.Core.List.{List}
use Prim.Native.Nat.{ℕ, zero, suc, ◌+◌, ◌*◌, ◌%◌, ◌≤◌, ◌<◌}
use native.Mathlib.Nat.{mod-lt}
use native.Mathlib.Omega.{arith}
use lib.Dec.{eqb, leb}
use lib.ListN.{length}
use borrow.Author.Tests.{le-leb, lt-leb, eqb-true, eqb-false}
use Rattle.std.specs.Prelude.{Ok, Err}
use Rattle.values.specs.declared.Time.{Time}
use Rattle.values.specs.declared.TimeError.TheVariants.{Date, Hours, Minutes, Seconds}
use Rattle.values.specs.declared.Kind.{Kind}
use Rattle.values.specs.declared.Kind.TheVariants.{HoldsItems, HoldsTokens, HoldsText, HoldsPlain, HoldsTime, HoldsBearer, HoldsNumber}
use Rattle.values.specs.declared.NumberKind.{NumberKind}
use Rattle.values.specs.Times.{long_flag, offset_flag, offset_octet, time_of, in_range, is_time, wrong_part, wrong_time, error_of, number_of, checked}
use Rattle.values.specs.Values.{wrong_field}

-- the half hours of a time that is read are always in range
halves-fit : (o : List ℕ) → leb (time_of o).halves 31 ≡ true
unfolding time_of
halves-fit o = le-leb (offset_octet o % 32) 31 (omega (arith, mod-lt (offset_octet o) {m = 32} (omega arith)))

-- nothing is wrong exactly where the octets are a time
pub field-none : (o : List ℕ) → is_time o ≡ eqb (wrong_time o) 0
unfolding is_time in_range wrong_part wrong_time
field-none o = rw (halves-fit o) (go (eqb (length o) (4 + 2 * long_flag o + offset_flag o)) (leb (time_of o).day 99_999) (leb (time_of o).hour 23) (leb (time_of o).minute 59) (leb (time_of o).second 59))
  where
    go : (a b c d e : Bool) → a && (b && c && d && e && true) ≡ eqb (cond a (cond b (cond c (cond d (cond e 0 5) 4) 3) 2) 1) 0
    go false b c d e = refl
    go true false c d e = refl
    go true true false d e = refl
    go true true true false e = refl
    go true true true true false = refl
    go true true true true true = refl

-- a field is one of five
pub field-few : (k : Kind) (o : List ℕ) → wrong_field k o ≤ 5
unfolding wrong_field wrong_part wrong_time
field-few HoldsItems o = omega arith
field-few HoldsTokens o = omega arith
field-few HoldsText o = omega arith
field-few HoldsPlain o = omega arith
field-few HoldsTime o = go (eqb (length o) (4 + 2 * long_flag o + offset_flag o)) (leb (time_of o).day 99_999) (leb (time_of o).hour 23) (leb (time_of o).minute 59) (leb (time_of o).second 59)
  where
    go : (a b c d e : Bool) → cond a (cond b (cond c (cond d (cond e 0 5) 4) 3) 2) 1 ≤ 5
    go false b c d e = omega arith
    go true false c d e = omega arith
    go true true false d e = omega arith
    go true true true false e = omega arith
    go true true true true false = omega arith
    go true true true true true = omega arith
field-few HoldsBearer o = omega arith
field-few (HoldsNumber n) o = omega arith

pub field-good : (o : List ℕ) → is_time o ≡ true → 0 ≡ wrong_time o
field-good o h = sym (eqb-true (wrong_time o) 0 (sym (field-none o) ∙ h))

-- the number of a field that is told is the field's own
number-back : (n : ℕ) → (n ≡ 0 → ⊥) → n ≤ 5 → number_of (error_of n) ≡ n
unfolding error_of
number-back zero f h = absurd (f refl)
number-back (suc zero) f h = refl
number-back (suc (suc zero)) f h = refl
number-back (suc (suc (suc zero))) f h = refl
number-back (suc (suc (suc (suc zero)))) f h = refl
number-back (suc (suc (suc (suc (suc zero))))) f h = refl
number-back (suc (suc (suc (suc (suc (suc n)))))) f h = absurd (omega arith)

pub field-back : (o : List ℕ) → is_time o ≡ false → number_of (error_of (wrong_time o)) ≡ wrong_time o
unfolding wrong_field
field-back o h = number-back (wrong_time o) (eqb-false (wrong_time o) 0 (sym (field-none o) ∙ h)) (field-few HoldsTime o)

-- ---- `checked`
module _ (t : Time) where
  pub checked-day : 99_999 < t.day → Err Date ≡ checked t
  unfolding checked error_of wrong_part
  checked-day h = rw (lt-leb t.day 99_999 h)

  module _ (a : t.day ≤ 99_999) where
    pub checked-hour : 23 < t.hour → Err Hours ≡ checked t
    unfolding checked error_of wrong_part
    checked-hour h = rw (le-leb t.day 99_999 a, lt-leb t.hour 23 h)

    module _ (b : t.hour ≤ 23) where
      pub checked-minute : 59 < t.minute → Err Minutes ≡ checked t
      unfolding checked error_of wrong_part
      checked-minute h = rw (le-leb t.day 99_999 a, le-leb t.hour 23 b, lt-leb t.minute 59 h)

      module _ (c : t.minute ≤ 59) where
        pub checked_second : 59 < t.second → Err Seconds ≡ checked t
        unfolding checked error_of wrong_part
        checked_second h = rw (le-leb t.day 99_999 a, le-leb t.hour 23 b, le-leb t.minute 59 c, lt-leb t.second 59 h)

        pub checked-all : t.second ≤ 59 → Ok t ≡ checked t
        unfolding checked wrong_part
        checked-all h = rw (le-leb t.day 99_999 a, le-leb t.hour 23 b, le-leb t.minute 59 c, le-leb t.second 59 h)

pub ruleset checked-ways = (checked-day, checked-hour, checked-minute, checked_second, checked-all)

-- ---- `wrong_field`
module _ (k : Kind) (o : List ℕ) where
  pub field-items : k ≡ HoldsItems → 0 ≡ wrong_field k o
  unfolding wrong_field
  field-items e = rw e

  pub field-tokens : k ≡ HoldsTokens → 0 ≡ wrong_field k o
  unfolding wrong_field
  field-tokens e = rw e

  pub field-text : k ≡ HoldsText → 0 ≡ wrong_field k o
  unfolding wrong_field
  field-text e = rw e

  pub field_plain : k ≡ HoldsPlain → 0 ≡ wrong_field k o
  unfolding wrong_field
  field_plain e = rw e

  pub field-time : k ≡ HoldsTime → (r : ℕ) → r ≡ wrong_time o → r ≡ wrong_field k o
  unfolding wrong_field
  field-time e r q = rw e q

  pub field-bearer : k ≡ HoldsBearer → 0 ≡ wrong_field k o
  unfolding wrong_field
  field-bearer e = rw e

  pub field-number : (n : NumberKind) → k ≡ HoldsNumber n → 0 ≡ wrong_field k o
  unfolding wrong_field
  field-number n e = rw e

pub ruleset field-ways = (field-items, field-tokens, field-text, field_plain, field-time, field-bearer, field-number)
