-- The normal octets of a time are a time and mean it, and the octets of a time mean one that is in range. Local time of one in range.
use mathlib.Core.Path.{◌≡◌, refl, sym, ap, ◌∙◌}
use mathlib.Core.Bool.{Bool, true, false, cond, not, ◌&&◌, false≢true, and-false}
use mathlib.Core.List.{List, append_assoc}
use Prim.Native.Nat.{ℕ, suc, ◌+◌, ◌-◌, ◌*◌, ◌/◌, ◌%◌, ◌^◌, ◌≤◌, ◌<◌}
use native.Mathlib.Omega.{arith}
use lib.Dec.{eqb, leb, ltb}
use lib.IntN.{pos, negsuc, sub_ℕ}
use lib.ListN.{length, get_or}
use lib.Seq.{take_at}
use borrow.Author.Tests.{leb-true, ltb-true, ltb-false, eqb-true, eq-eqb, ne_eqb}
use Rattle.octets.specs.Numbers.{digits}
use Rattle.values.specs.declared.Time.{Time}
use Rattle.values.specs.Times.{bits, long_flag, offset_flag, offset_octet, time_of, in_range, is_time, sign, time_octets, local_minutes, local_of}
use Rattle.values.specs.Proper.{TimeOk}
use Rattle.octets.proofs.Tests.{and_left, and_right}
use Rattle.octets.proofs.Numbers.{length_digits, value-digits}

pub record Bounds (t : Time) : Type 0 where
  pub day : t.day ≤ 99_999
  pub hour : t.hour ≤ 23
  pub minute : t.minute ≤ 59
  pub second : t.second ≤ 59
  pub halves : t.halves ≤ 31

pub bounds : (t : Time) → in_range t ≡ true → Bounds t
unfolding in_range
bounds t h =
    let d = leb t.day 99_999 in
    let o = leb t.hour 23 in
    let m = leb t.minute 59 in
    let s = leb t.second 59 in
    let l = leb t.halves 31 in
    let doms = and_left (d && o && m && s) l h in
    let dom = and_left (d && o && m) s doms in
    record {
      day = leb-true _ _ (and_left d o (and_left (d && o) m dom));
      hour = leb-true _ _ (and_right d o (and_left (d && o) m dom));
      minute = leb-true _ _ (and_right (d && o) m dom);
      second = leb-true _ _ (and_right (d && o && m) s doms);
      halves = leb-true _ _ (and_right (d && o && m && s) l h);
    }

pub sign_le : (n : ℕ) → sign n ≤ 1
unfolding sign
sign_le n = go (eqb n 0)
  where
    go : (b : Bool) → cond b 0 1 ≤ 1
    go true = omega arith
    go false = omega arith

pub time-size : (t : Time) → length (time_octets t) ≡ 4 + 2 * sign t.second + sign t.halves
unfolding time_octets digits sign
time-size t = go (eqb t.second 0) (eqb t.halves 0) refl refl
  where
    go : (z y : Bool) → eqb t.second 0 ≡ z → eqb t.halves 0 ≡ y → length (time_octets t) ≡ 4 + 2 * sign t.second + sign t.halves
    go true true e f = rw (e, f)
    go true false e f = rw (e, f)
    go false true e f = rw (e, f)
    go false false e f = rw (e, f)

module _ (t : Time) (b : Bounds t) where
  word : ℕ
  word = t.day * 2 ^ 14 + sign t.halves * 2 ^ 12 + sign t.second * 2 ^ 11 + t.hour * 2 ^ 6 + t.minute

  word-bits : (above width : ℕ) → bits (time_octets t) above width ≡ word / 2 ^ above % 2 ^ width
  unfolding bits time_octets word
  word-bits above width =
      let w : ℕ = word in
      let l : w < 256 ^ 4 = omega (arith, sign_le t.halves, sign_le t.second) in
      rw (append_assoc, take_at (digits 4 w) _ 4 (length_digits 4 w), value-digits 4 w l)

  long-flag : long_flag (time_octets t) ≡ sign t.second
  unfolding long_flag word
  long-flag = word-bits 11 1 ∙ omega (arith, sign_le t.halves, sign_le t.second)

  offset-flag : offset_flag (time_octets t) ≡ sign t.halves
  unfolding offset_flag word
  offset-flag = word-bits 12 1 ∙ omega (arith, sign_le t.halves, sign_le t.second)

  second_back : long_flag (time_octets t) * (get_or (time_octets t) 4 0 / 4) ≡ t.second
  unfolding time_octets digits sign
  second_back = rw long-flag (go (eqb t.second 0) refl)
    where
      go : (z : Bool) → eqb t.second 0 ≡ z → sign t.second * (get_or (time_octets t) 4 0 / 4) ≡ t.second
      go true e = rw e (omega (arith, eqb-true t.second 0 e))
      go false e = rw e (omega arith)

  -- the octet of the offset, where there is one, and else 0
  offset : ℕ
  offset = cond (eqb t.halves 0) 0 (cond t.minus 32 0 + t.halves)

  offset-back : offset_octet (time_octets t) ≡ offset
  unfolding offset_octet time_octets digits sign offset
  offset-back = rw (long-flag, offset-flag) (go (eqb t.second 0) (eqb t.halves 0) refl refl)
    where
      go : (z y : Bool) → eqb t.second 0 ≡ z → eqb t.halves 0 ≡ y → sign t.halves * get_or (time_octets t) (4 + 2 * sign t.second) 0 ≡ offset
      go true true e f = rw (e, f) (omega arith)
      go true false e f = rw (e, f) (omega arith)
      go false true e f = rw (e, f) (omega arith)
      go false false e f = rw (e, f) (omega arith)

  module _ (ok : TimeOk t) where
    halves-back : offset % 32 ≡ t.halves
    unfolding offset
    halves-back = go (eqb t.halves 0) t.minus refl
      where
        go : (z m : Bool) → eqb t.halves 0 ≡ z → cond z 0 (cond m 32 0 + t.halves) % 32 ≡ t.halves
        go true m e = omega (arith, eqb-true t.halves 0 e)
        go false true e = omega (arith, b.halves)
        go false false e = omega (arith, b.halves)

    minus-back : eqb (offset / 32 % 2) 1 && not (eqb (offset % 32) 0) ≡ t.minus
    unfolding offset
    minus-back = rw halves-back (go (eqb t.halves 0) t.minus refl refl)
      where
        go : (z m : Bool) → eqb t.halves 0 ≡ z → t.minus ≡ m → eqb (cond z 0 (cond m 32 0 + t.halves) / 32 % 2) 1 && not z ≡ m
        go true true e q = absurd (false≢true (sym (ok.minus (eqb-true t.halves 0 e)) ∙ q))
        go true false e q = refl
        go false true e q = rw (eq-eqb ((32 + t.halves) / 32 % 2) 1 (omega (arith, b.halves)))
        go false false e q = rw (ne_eqb ((0 + t.halves) / 32 % 2) 1 (λ r. omega (arith, b.halves)))

    day-back : bits (time_octets t) 14 17 ≡ t.day
    unfolding word
    day-back = word-bits 14 17 ∙ omega (arith, sign_le t.halves, sign_le t.second)

    hour-back : bits (time_octets t) 6 5 ≡ t.hour
    unfolding word
    hour-back = word-bits 6 5 ∙ omega (arith, sign_le t.halves, sign_le t.second)

    minute-back : bits (time_octets t) 0 6 ≡ t.minute
    unfolding word
    minute-back = word-bits 0 6 ∙ omega (arith, sign_le t.halves, sign_le t.second)

    time-back : time_of (time_octets t) ≡ t
    unfolding time_of
    time-back = rw (day-back, hour-back, minute-back, second_back, offset-back, minus-back, halves-back)

    time-is : is_time (time_octets t) ≡ true
    unfolding is_time
    time-is = rw (long-flag, offset-flag, time-back, eq-eqb (length (time_octets t)) (4 + 2 * sign t.second + sign t.halves) (time-size t)) ok.range

pub time-means : (t : Time) → TimeOk t → time_of (time_octets t) ≡ t
time-means t ok = time-back t (bounds t ok.range) ok

pub time-fits : (t : Time) → TimeOk t → is_time (time_octets t) ≡ true
time-fits t ok = time-is t (bounds t ok.range) ok

pub time-ok : (o : List ℕ) → is_time o ≡ true → TimeOk (time_of o)
unfolding is_time time_of
time-ok o h = record {
  range = and_right (eqb (length o) (4 + 2 * long_flag o + offset_flag o)) (in_range (time_of o)) h;
  minus = λ e. rw (eq-eqb (offset_octet o % 32) 0 e) (and-false (eqb (offset_octet o / 32 % 2) 1));
}

-- ---- local time of a time in range, whose offset is less than a day

-- two differences of numbers are the same where adding crosswise gives the same
same-difference : (a b c d : ℕ) → a + d ≡ c + b → sub_ℕ a b ≡ sub_ℕ c d
same-difference a b c d e = go (ltb a b) (ltb c d) refl refl
  where
    go : (p q : Bool) → ltb a b ≡ p → ltb c d ≡ q → cond p (negsuc (b - suc a)) (pos (a - b)) ≡ cond q (negsuc (d - suc c)) (pos (c - d))
    go true true h g = let l = ltb-true a b h in let m = ltb-true c d g in ap negsuc (omega arith)
    go true false h g = let l = ltb-true a b h in let m = ltb-false c d g in absurd (omega arith)
    go false true h g = let l = ltb-false a b h in let m = ltb-true c d g in absurd (omega arith)
    go false false h g = let l = ltb-false a b h in let m = ltb-false c d g in ap pos (omega arith)

-- its minutes, counted from one day before day 0
abbrev pub minutes_in_range : Time → ℕ
minutes_in_range t =
    let utc = ((t.day + 1) * 24 + t.hour) * 60 + t.minute in
    cond t.minus (utc - 30 * t.halves) (utc + 30 * t.halves)

module _ (t : Time) (legal : in_range t ≡ true) where
  minutes-shift : minutes_in_range t + 1440 * t.halves ≡ local_minutes t + 1440
  unfolding local_minutes
  minutes-shift = let b = bounds t legal in go t.minus b.halves
    where
      go : (s : Bool) → t.halves ≤ 31
          → cond s (((t.day + 1) * 24 + t.hour) * 60 + t.minute - 30 * t.halves) (((t.day + 1) * 24 + t.hour) * 60 + t.minute + 30 * t.halves) + 1440 * t.halves
          ≡ (t.day * 24 + t.hour) * 60 + t.minute + cond s (1440 - 30) (1440 + 30) * t.halves + 1440
      go true l = omega arith
      go false l = omega arith

  pub local-in-range : local_of t ≡ record { day = sub_ℕ (minutes_in_range t / 1440) 1; hour = minutes_in_range t / 60 % 24; minute = minutes_in_range t % 60; second = t.second }
  unfolding local_of
  local-in-range =
      let m : ℕ = local_minutes t in
      let n : ℕ = minutes_in_range t in
      let day = same-difference (m / 1440) t.halves (n / 1440) 1 (omega (arith, minutes-shift)) in
      let hour : m / 60 % 24 ≡ n / 60 % 24 = omega (arith, minutes-shift) in
      let minute : m % 60 ≡ n % 60 = omega (arith, minutes-shift) in
      λ i. record { day = day i; hour = hour i; minute = minute i; second = t.second }
