-- The ways through a time's methods, in the words of the code.
use mathlib.Core.Path.{◌≡◌, refl, sym, ap, ap₂, subst, ◌∙◌}
use mathlib.Core.Bool.{Bool, true, false, cond, not, ◌&&◌, and-false}
use mathlib.Core.List.{List, [], ◌∷◌, ◌++◌, append_assoc}
use Prim.Native.Nat.{ℕ, zero, suc, zero-le, ◌+◌, ◌-◌, ◌*◌, ◌/◌, ◌%◌, ◌^◌, ◌≤◌, ◌<◌}
use native.Mathlib.Nat.{one-mul, zero-mul, mod-lt, div-one}
use native.Mathlib.Omega.{arith}
use lib.Bits.{bit_and, bit_or, and_mask, mask_lt, or_shifted}
use lib.Dec.{eqb, ltb}
use lib.IntN.{pos, negsuc, sub_ℕ, ◌-ℤ◌}
use lib.ListN.{length, take, get_or, set, length-append}
use lib.Pow.{shl_exact}
use lib.Seq.{sets, length-sets}
use lib.Signed.{mag}
use mir.Facts.{to_z-of_z, to_z_pos}
use mir.Syntax.{w64}
use mir.Val.{SFits, to_z, of_z}
use borrow.Author.Tests.{le-leb, lt-leb, le-ltb, eq-eqb, ne_eqb}
use Rattle.octets.specs.Counts.{as_octets, size_of}
use Rattle.octets.specs.Numbers.{value, digits}
use Rattle.octets.proofs.Numbers.{length_digits}
use Rattle.octets.proofs.Lists.{sets-append}
use Rattle.values.specs.declared.Time.{Time}
use Rattle.values.specs.declared.Local.{Local}
use Rattle.std.specs.Prelude.{Result, Err}
use Rattle.values.specs.declared.TimeError.{TimeError}
use Rattle.values.specs.declared.TimeError.TheVariants.{Length}
use Rattle.values.specs.Times.{bits, long_flag, offset_flag, offset_octet, time_of, in_range, is_time}
use Rattle.values.specs.Times.{canonical, sign, time_octets, local_minutes, local_of, error_of, checked, wrong_time}
use Rattle.values.specs.Layout.{first_bits, second_octets, offset_octets}
use Rattle.values.specs.Calls.{taken_time}
use Rattle.values.proofs.Fields.{field-none}
use Rattle.values.proofs.Times.{bounds, sign_le}

-- a flag times a value
zeroed : (a b : ℕ) → a ≡ 0 → 0 ≡ a * b
zeroed a b e = sym (ap (λ n. n * b) e ∙ zero-mul b)

oned : (a b : ℕ) → a < 2 → (a ≡ 0 → ⊥) → b ≡ a * b
oned a b h e = let f : a ≡ 1 = omega arith in sym (ap (λ n. n * b) f ∙ one-mul b)

pub flag-less : (w k : ℕ) → bit_and (w / 2 ^ k) 1 < 2
flag-less w k = mask_lt (w / 2 ^ k) 1

one_bit : (w k : ℕ) → bit_and (w / 2 ^ k) 1 ≡ w / 2 ^ k % 2
one_bit w k = and_mask (w / 2 ^ k) 1

module _ (s : List ℕ) (long : ℕ) where
  pub second_none : long ≡ 0 → 0 ≡ long * (get_or s 4 0 / 4)
  second_none e = zeroed long (get_or s 4 0 / 4) e

  pub second-some : long < 2 → (long ≡ 0 → ⊥) → get_or s 4 0 / 2 ^ 2 ≡ long * (get_or s 4 0 / 4)
  second-some h e = oned long (get_or s 4 0 / 4) h e

  module _ (moved : ℕ) where
    pub offset-none : moved ≡ 0 → 0 ≡ moved * get_or s (4 + 2 * long) 0
    offset-none e = zeroed moved (get_or s (4 + 2 * long) 0) e

    pub offset-short : moved < 2 → (moved ≡ 0 → ⊥) → long ≡ 0 → get_or s 4 0 ≡ moved * get_or s (4 + 2 * long) 0
    offset-short h e l = ap (λ n. get_or s (4 + 2 * n) 0) (sym l) ∙ oned moved (get_or s (4 + 2 * long) 0) h e

    pub offset-long : moved < 2 → (moved ≡ 0 → ⊥) → long < 2 → (long ≡ 0 → ⊥) → get_or s 6 0 ≡ moved * get_or s (4 + 2 * long) 0
    offset-long h e k l =
        let one : 1 ≡ long = omega arith in
        ap (λ n. get_or s (4 + 2 * n) 0) one ∙ oned moved (get_or s (4 + 2 * long) 0) h e

pub ruleset second-ways = (second_none, second-some)

pub ruleset offset-ways = (offset-none, offset-short, offset-long)

-- the sense of an offset
module _ (o : ℕ) where
  pub sense-plus : bit_and (o / 2 ^ 5) 1 ≡ 0 → false ≡ eqb (o / 32 % 2) 1 && not (eqb (o % 32) 0)
  sense-plus e = rw (sym (one_bit o 5) ∙ e) refl

  module _ (e : bit_and (o / 2 ^ 5) 1 ≡ 0 → ⊥) where
    odd : o / 32 % 2 ≡ 1
    odd =
        let f : o / 32 % 2 ≡ 0 → ⊥ = λ q. e (one_bit o 5 ∙ q) in
        omega (arith, f, mod-lt (o / 32) {m = 2} (omega arith))

    pub sense-none : bit_and o 31 ≡ 0 → false ≡ eqb (o / 32 % 2) 1 && not (eqb (o % 32) 0)
    sense-none f = rw (odd, sym (and_mask o 5) ∙ f) refl

    pub sense-minus : (bit_and o 31 ≡ 0 → ⊥) → true ≡ eqb (o / 32 % 2) 1 && not (eqb (o % 32) 0)
    sense-minus f = rw (odd, ne_eqb (o % 32) 0 (λ q. f (and_mask o 5 ∙ q))) refl

pub ruleset sense-ways = (sense-plus, sense-none, sense-minus)

-- the range of a time: each test that fails, and all that hold
module _ (t : Time) where
  pub valid-day : 99_999 < t.day → false ≡ in_range t
  unfolding in_range
  valid-day h = rw (lt-leb t.day 99_999 h) refl

  module _ (d : t.day ≤ 99_999) where
    pub valid-hour : 23 < t.hour → false ≡ in_range t
    unfolding in_range
    valid-hour h = rw (le-leb t.day 99_999 d, lt-leb t.hour 23 h) refl

    module _ (o : t.hour ≤ 23) where
      pub valid-minute : 59 < t.minute → false ≡ in_range t
      unfolding in_range
      valid-minute h = rw (le-leb t.day 99_999 d, le-leb t.hour 23 o, lt-leb t.minute 59 h) refl

      module _ (m : t.minute ≤ 59) where
        pub valid-second : 59 < t.second → false ≡ in_range t
        unfolding in_range
        valid-second h = rw (le-leb t.day 99_999 d, le-leb t.hour 23 o, le-leb t.minute 59 m, lt-leb t.second 59 h) refl

        module _ (s : t.second ≤ 59) where
          pub valid-halves : 31 < t.halves → false ≡ in_range t
          unfolding in_range
          valid-halves h = rw (le-leb t.day 99_999 d, le-leb t.hour 23 o, le-leb t.minute 59 m, le-leb t.second 59 s, lt-leb t.halves 31 h) refl

          pub valid-all : t.halves ≤ 31 → true ≡ in_range t
          unfolding in_range
          valid-all h = rw (le-leb t.day 99_999 d, le-leb t.hour 23 o, le-leb t.minute 59 m, le-leb t.second 59 s, le-leb t.halves 31 h) refl

pub ruleset valid-ways = (valid-day, valid-hour, valid-minute, valid-second, valid-halves, valid-all)

-- canonical form
module _ (t : Time) where
  pub canonical-same : (t.halves ≡ 0 → ⊥) → t ≡ canonical t
  unfolding canonical
  canonical-same h = λ i. record { day = t.day; hour = t.hour; minute = t.minute; second = t.second; minus = go t.minus i; halves = t.halves }
    where
      go : (m : Bool) → m ≡ m && not (eqb t.halves 0)
      go true = rw (ne_eqb t.halves 0 h) refl
      go false = refl

  pub canonical-zero : t.halves ≡ 0
      → ◌≡◌ {A = Time} (record { day = t.day; hour = t.hour; minute = t.minute; second = t.second; minus = false; halves = 0 }) (canonical t)
  unfolding canonical
  canonical-zero h = λ i. record { day = t.day; hour = t.hour; minute = t.minute; second = t.second; minus = go i; halves = sym h i }
    where
      go : false ≡ t.minus && not (eqb t.halves 0)
      go = rw (eq-eqb t.halves 0 h) (sym (and-false t.minus))

pub ruleset canonical-ways = (canonical-same, canonical-zero)

-- a time taken from octets
pub taken-short : (s : List ℕ) → length s < 4 → Err Length ≡ taken_time s
unfolding taken_time is_time wrong_time error_of
taken-short s h = rw (ne_eqb (length s) (4 + 2 * long_flag s + offset_flag s) (λ e. omega arith)) refl

module _ (s : List ℕ) (w : ℕ) (e : w ≡ value (take 4 s)) where
  flag : (k : ℕ) → bit_and (w / 2 ^ k) 1 ≡ bits s k 1
  unfolding bits
  flag k = one_bit w k ∙ ap (λ n. n / 2 ^ k % 2) e

  long-flag : bit_and (w / 2 ^ 11) 1 ≡ long_flag s
  unfolding long_flag
  long-flag = flag 11

  offset-flag : bit_and (w / 2 ^ 12) 1 ≡ offset_flag s
  unfolding offset_flag
  offset-flag = flag 12

  pub taken-size : (length s ≡ 4 + 2 * bit_and (w / 2 ^ 11) 1 + bit_and (w / 2 ^ 12) 1 → ⊥) → Err Length ≡ taken_time s
  unfolding taken_time is_time wrong_time error_of
  taken-size g = rw (ne_eqb (length s) (4 + 2 * long_flag s + offset_flag s) (λ q. g (q ∙ ap₂ (λ x y. 4 + 2 * x + y) (sym long-flag) (sym offset-flag)))) refl

  module _ (second offset : ℕ) (minus : Bool)
      (f : second ≡ bit_and (w / 2 ^ 11) 1 * (get_or s 4 0 / 4))
      (g : offset ≡ bit_and (w / 2 ^ 12) 1 * get_or s (4 + 2 * bit_and (w / 2 ^ 11) 1) 0)
      (m : minus ≡ eqb (offset / 32 % 2) 1 && not (eqb (offset % 32) 0)) where
    abbrev made : Time
    made = record { day = bit_and (w / 2 ^ 14) 131071; hour = bit_and (w / 2 ^ 6) 31; minute = bit_and w 63; second = second; minus = minus; halves = bit_and offset 31 }

    offset-is : offset ≡ offset_octet s
    unfolding offset_octet
    offset-is = g ∙ ap₂ (λ x y. x * get_or s (4 + 2 * y) 0) offset-flag long-flag

    made-is : made ≡ time_of s
    unfolding time_of bits
    made-is = λ i. record {
      day = (and_mask (w / 2 ^ 14) 17 ∙ ap (λ n. n / 2 ^ 14 % 2 ^ 17) e) i;
      hour = (and_mask (w / 2 ^ 6) 5 ∙ ap (λ n. n / 2 ^ 6 % 2 ^ 5) e) i;
      minute = (and_mask w 6 ∙ ap (λ n. n % 2 ^ 6) e ∙ ap (λ n. n % 2 ^ 6) (sym (div-one (value (take 4 s))))) i;
      second = (f ∙ ap (λ n. n * (get_or s 4 0 / 4)) long-flag) i;
      minus = (m ∙ ap (λ n. eqb (n / 32 % 2) 1 && not (eqb (n % 32) 0)) offset-is) i;
      halves = (and_mask offset 5 ∙ ap (λ n. n % 32) offset-is) i;
    }

    pub taken-right : length s ≡ 4 + 2 * bit_and (w / 2 ^ 11) 1 + bit_and (w / 2 ^ 12) 1 → (r : Result Time TimeError) → r ≡ checked made → r ≡ taken_time s
    unfolding taken_time checked wrong_time
    taken-right h r q =
        let size : eqb (length s) (4 + 2 * long_flag s + offset_flag s) ≡ true =
        eq-eqb (length s) (4 + 2 * long_flag s + offset_flag s) (h ∙ ap₂ (λ x y. 4 + 2 * x + y) long-flag offset-flag) in
        rw (field-none s, size) (q ∙ ap checked made-is)

pub ruleset take-ways = (taken-short, taken-size, taken-right)

-- local time
module _ (t : Time) where
  pub minutes-minus : t.minus ≡ true → (t.day * 24 + t.hour) * 60 + t.minute + (1440 - 30) * t.halves ≡ local_minutes t
  unfolding local_minutes
  minutes-minus y = rw y (omega arith)

  pub minutes-plus : t.minus ≡ false → (t.day * 24 + t.hour) * 60 + t.minute + (1440 + 30) * t.halves ≡ local_minutes t
  unfolding local_minutes
  minutes-plus y = rw y (omega arith)

pub ruleset minutes-ways = (minutes-minus, minutes-plus)

-- the signed day
difference : (n v : ℕ) → pos n -ℤ pos v ≡ sub_ℕ n v
difference n zero = rw (le-ltb n 0 zero-le) (ap pos (omega arith))
difference n (suc v) = refl

day-small : (n v : ℕ) → n < 2 ^ 63 → v < 2 ^ 63 → mag (sub_ℕ n v) < 2 ^ 63
day-small n v h k = go (ltb n v)
  where
    go : (b : Bool) → mag (cond b (negsuc (v - suc n)) (pos (n - v))) < 2 ^ 63
    go true = omega arith
    go false = omega arith

day-is : (n v : ℕ) → n < 2 ^ 63 → v < 2 ^ 63 → to_z w64 n -ℤ to_z w64 v ≡ sub_ℕ n v
day-is n v h k = ap₂ (λ x y. x -ℤ y) (to_z_pos w64 h) (to_z_pos w64 k) ∙ difference n v

pub day-fits : (n v : ℕ) → n < 2 ^ 52 → v < 2 ^ 32 → SFits w64 (to_z w64 (n / 1440) -ℤ to_z w64 v)
day-fits n v h k =
    subst (SFits w64) (sym (day-is (n / 1440) v (omega arith) (omega arith))) (record { sfits = day-small (n / 1440) v (omega arith) (omega arith) })

pub local-is : (t : Time) (n : ℕ) → n ≡ local_minutes t → n < 2 ^ 52 → t.halves < 2 ^ 32
    → ◌≡◌ {A = Local} (record { day = to_z w64 (of_z w64 (to_z w64 (n / 1440) -ℤ to_z w64 t.halves)); hour = n / 60 % 24; minute = n % 60; second = t.second }) (local_of t)
unfolding local_of
local-is t n e h k =
    let d : to_z w64 (of_z w64 (to_z w64 (n / 1440) -ℤ to_z w64 t.halves)) ≡ sub_ℕ (local_minutes t / 1440) t.halves =
    to_z-of_z (day-fits n t.halves h k) ∙ day-is (n / 1440) t.halves (omega arith) (omega arith) ∙ ap (λ m. sub_ℕ (m / 1440) t.halves) e in
    λ i. record { day = d i; hour = e i / 60 % 24; minute = e i % 60; second = t.second }

-- the normal octets: their size
module _ (t : Time) where
  pub size-4 : t.second ≡ 0 → t.halves ≡ 0 → as_octets 4 ≡ size_of (time_octets t)
  unfolding time_octets digits
  size-4 p q = rw (eq-eqb t.second 0 p, eq-eqb t.halves 0 q) refl

  pub size-5 : t.second ≡ 0 → (t.halves ≡ 0 → ⊥) → as_octets 5 ≡ size_of (time_octets t)
  unfolding time_octets digits
  size-5 p q = rw (eq-eqb t.second 0 p, ne_eqb t.halves 0 q) refl

  pub size-6 : (t.second ≡ 0 → ⊥) → t.halves ≡ 0 → as_octets 6 ≡ size_of (time_octets t)
  unfolding time_octets digits
  size-6 p q = rw (ne_eqb t.second 0 p, eq-eqb t.halves 0 q) refl

  pub size-7 : (t.second ≡ 0 → ⊥) → (t.halves ≡ 0 → ⊥) → as_octets 7 ≡ size_of (time_octets t)
  unfolding time_octets digits
  size-7 p q = rw (ne_eqb t.second 0 p, ne_eqb t.halves 0 q) refl

pub ruleset size-ways = (size-4, size-5, size-6, size-7)

pub sign_zero : (n : ℕ) → n ≡ 0 → 0 ≡ sign n
unfolding sign
sign_zero n e = rw (eq-eqb n 0 e) refl

pub sign-some : (n : ℕ) → (n ≡ 0 → ⊥) → 1 ≡ sign n
unfolding sign
sign-some n e = rw (ne_eqb n 0 e) refl

-- the first 32 bits put together
pack : (d m l h n : ℕ) → d < 2 ^ 17 → m < 2 → l < 2 → h < 2 ^ 5 → n < 2 ^ 6
    → bit_or (bit_or (bit_or (bit_or (d * 2 ^ 14 % 2 ^ 32) (m * 2 ^ 12 % 2 ^ 32)) (l * 2 ^ 11 % 2 ^ 32)) (h * 2 ^ 6 % 2 ^ 32)) n
    ≡ d * 2 ^ 14 + m * 2 ^ 12 + l * 2 ^ 11 + h * 2 ^ 6 + n
pack d m l h n dh mh lh hh nh =
    let o1 : bit_or (d * 2 ^ 14 % 2 ^ 32) (m * 2 ^ 12 % 2 ^ 32) ≡ (d * 4 + m) * 2 ^ 12 =
    ap₂ bit_or (shl_exact 17 14 32 dh (omega arith)) (shl_exact 1 12 32 mh (omega arith)) ∙ or_shifted d 14 (m * 2 ^ 12) (omega arith) ∙ omega arith in
    let o2 : bit_or ((d * 4 + m) * 2 ^ 12) (l * 2 ^ 11 % 2 ^ 32) ≡ (d * 8 + m * 2 + l) * 2 ^ 11 =
    ap (bit_or ((d * 4 + m) * 2 ^ 12)) (shl_exact 1 11 32 lh (omega arith)) ∙ or_shifted (d * 4 + m) 12 (l * 2 ^ 11) (omega arith) ∙ omega arith in
    let o3 : bit_or ((d * 8 + m * 2 + l) * 2 ^ 11) (h * 2 ^ 6 % 2 ^ 32) ≡ ((d * 8 + m * 2 + l) * 32 + h) * 2 ^ 6 =
    ap (bit_or ((d * 8 + m * 2 + l) * 2 ^ 11)) (shl_exact 5 6 32 hh (omega arith)) ∙ or_shifted (d * 8 + m * 2 + l) 11 (h * 2 ^ 6) (omega arith) ∙ omega arith in
    ap (λ x. bit_or (bit_or (bit_or x (l * 2 ^ 11 % 2 ^ 32)) (h * 2 ^ 6 % 2 ^ 32)) n) o1
    ∙ ap (λ x. bit_or (bit_or x (h * 2 ^ 6 % 2 ^ 32)) n) o2
    ∙ ap (λ x. bit_or x n) o3
    ∙ or_shifted ((d * 8 + m * 2 + l) * 32 + h) 6 n nh ∙ omega arith

pub first-bits : (t : Time) (m l : ℕ) → in_range t ≡ true → m ≡ sign t.halves → l ≡ sign t.second
    → bit_or (bit_or (bit_or (bit_or (t.day * 2 ^ 14 % 2 ^ 32) (m * 2 ^ 12 % 2 ^ 32)) (l * 2 ^ 11 % 2 ^ 32)) (t.hour * 2 ^ 6 % 2 ^ 32)) t.minute ≡ first_bits t
unfolding first_bits
first-bits t m l v p q =
    let b = bounds t v in
    pack t.day m l t.hour t.minute (omega (arith, b.day)) (omega (arith, p, sign_le t.halves)) (omega (arith, q, sign_le t.second))
    (omega (arith, b.hour)) (omega (arith, b.minute))
    ∙ ap₂ (λ x y. t.day * 2 ^ 14 + x * 2 ^ 12 + y * 2 ^ 11 + t.hour * 2 ^ 6 + t.minute) p q

-- the octets after the first four
module _ (n : ℕ) (out : List ℕ) (at : ℕ) where
  second-nil : n ≡ 0 → second_octets n ≡ []
  unfolding second_octets
  second-nil e = rw (eq-eqb n 0 e) refl

  second-two : (n ≡ 0 → ⊥) → second_octets n ≡ (n * 4) ∷ 0 ∷ []
  unfolding second_octets
  second-two e = rw (ne_eqb n 0 e) refl

  pub no-second-end : n ≡ 0 → at ≡ at + length (second_octets n)
  no-second-end e = omega (arith, ap length (second-nil e))

  pub no-second-out : n ≡ 0 → out ≡ sets out at (second_octets n)
  no-second-out e = sym (ap (sets out at) (second-nil e))

  module _ (e : n ≡ 0 → ⊥) where
    pub second-room : at + length (second_octets n) ≤ length out → at < length out
    second-room h = omega (arith, ap length (second-two e))

    pub second-room-2 : at + length (second_octets n) ≤ length out → at + 1 < length out
    second-room-2 h = omega (arith, ap length (second-two e))

    pub second-end : at + 2 ≡ at + length (second_octets n)
    second-end = omega (arith, ap length (second-two e))

    pub second-out : (r : ℕ) → n < 64 → r ≡ n * 2 ^ 2 % 2 ^ 32 % 256 → set (set out at r) (at + 1) 0 ≡ sets out at (second_octets n)
    second-out r h f =
        let v : r ≡ n * 4 = f ∙ omega arith in
        let one : at + 1 ≡ suc at = omega arith in
        (λ i. set (set out at (v i)) (one i) 0) ∙ ap (sets out at) (sym (second-two e))

pub ruleset second-puts = (no-second-end, no-second-out, second-end, second-out)

module _ (m : Bool) (n : ℕ) (out : List ℕ) (at : ℕ) where
  pub no-offset-out : n ≡ 0 → out ≡ sets out at (offset_octets m n)
  unfolding offset_octets
  no-offset-out e = rw (eq-eqb n 0 e) refl

  module _ (e : n ≡ 0 → ⊥) where
    offset-one : offset_octets m n ≡ (cond m 32 0 + n) ∷ []
    unfolding offset_octets
    offset-one = rw (ne_eqb n 0 e) refl

    pub offset-room : at + length (offset_octets m n) ≤ length out → at < length out
    offset-room h = omega (arith, ap length offset-one)

    pub minus-out : (r : ℕ) → m ≡ true → n < 32 → r ≡ bit_or 32 n % 256 → set out at r ≡ sets out at (offset_octets m n)
    minus-out r y h f =
        let v : r ≡ 32 + n = f ∙ ap (λ x. x % 256) (or_shifted 1 5 n h) ∙ omega arith in
        ap (set out at) (v ∙ ap (λ b. cond b 32 0 + n) (sym y)) ∙ ap (sets out at) (sym offset-one)

    pub plus-out : (r : ℕ) → m ≡ false → n < 32 → r ≡ n % 256 → set out at r ≡ sets out at (offset_octets m n)
    plus-out r y h f =
        let v : r ≡ 0 + n = f ∙ omega arith in
        ap (set out at) (v ∙ ap (λ b. cond b 32 0 + n) (sym y)) ∙ ap (sets out at) (sym offset-one)

pub ruleset offset-puts = (no-offset-out, minus-out, plus-out)

-- all octets of a time, in their parts
time-parts : (t : Time) → time_octets t ≡ digits 4 (first_bits t) ++ (second_octets t.second ++ offset_octets t.minus t.halves)
unfolding time_octets first_bits second_octets offset_octets
time-parts t = append_assoc (digits 4 (first_bits t)) (second_octets t.second) (offset_octets t.minus t.halves)

module _ (t : Time) (out : List ℕ) (at : ℕ) (h : at + length (time_octets t) ≤ length out) where
  size-sum : length (time_octets t) ≡ 4 + (length (second_octets t.second) + length (offset_octets t.minus t.halves))
  size-sum = ap length (time-parts t) ∙ simp (length-append, length_digits)

  pub first-room : at + 4 ≤ length out
  first-room = omega (arith, size-sum)

  module _ (w : ℕ) (p : w ≡ first_bits t) (one : List ℕ) (q : one ≡ sets out at (digits 4 w)) where
    pub seconds-room : at + 4 + length (second_octets t.second) ≤ length one
    seconds-room = omega (arith, size-sum, ap length q ∙ length-sets out at (digits 4 w))

    module _ (k : ℕ) (two : List ℕ) (u : k ≡ at + 4 + length (second_octets t.second)) (v : two ≡ sets one (at + 4) (second_octets t.second)) where
      pub offsets-room : k + length (offset_octets t.minus t.halves) ≤ length two
      offsets-room = omega (arith, u, size-sum, ap length v ∙ length-sets one (at + 4) (second_octets t.second) ∙ ap length q ∙ length-sets out at (digits 4 w))

      pub time-stored : (three : List ℕ) → three ≡ sets two k (offset_octets t.minus t.halves) → three ≡ sets out at (time_octets t)
      time-stored three z =
          let D = digits 4 (first_bits t) in
          let S = second_octets t.second in
          let O = offset_octets t.minus t.halves in
          z ∙ ap₂ (λ l n. sets l n O) v u ∙ sets-append one (at + 4) S O
          ∙ ap (λ l. sets l (at + 4) (S ++ O)) (q ∙ ap (λ n. sets out at (digits 4 n)) p)
          ∙ ap (λ n. sets (sets out at D) (at + n) (S ++ O)) (sym (length_digits 4 (first_bits t)))
          ∙ sets-append out at D (S ++ O) ∙ ap (sets out at) (sym (time-parts t))

pub second-small : (t : Time) → in_range t ≡ true → t.second < 64
second-small t v = omega (arith, (bounds t v).second)

pub halves_small : (t : Time) → in_range t ≡ true → t.halves < 32
halves_small t v = omega (arith, (bounds t v).halves)
