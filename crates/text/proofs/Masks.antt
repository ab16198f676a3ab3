-- Tags and tokens kept as a mask: the bit of a number is set exactly where it is among those kept.
use Prim.Native.Nat.{ℕ, zero, suc, ◌+◌, ◌-◌, ◌*◌, ◌/◌, ◌%◌, ◌^◌, ◌<◌, min}
use mathlib.Core.Path.{◌≡◌, refl, sym, ap, ap₂, ◌∙◌}
use mathlib.Core.List.{List, [], ◌∷◌}
use mathlib.Core.Bool.{Bool, true, false, cond, ◌&&◌, ◌||◌, and-false, or-true, or-false}
use lib.Dec.{eqb, ltb}
use lib.Arith.{bin_ind}
use lib.Bits.{bit_or, bit_and, or_shr, or_mod, or_zero_r, and_shr, and_mod, and_step, and_mask}
use lib.Pow.{pow-add, pow_pos, shl-shr, shl_exact, shr-shr, pow-lt}
use native.Mathlib.Nat.{one-mul, mul-mod_left, mod-lt, div-eq_of_lt, div-one, div-add-mod', zero-min}
use native.Mathlib.Omega.{arith}
use borrow.Author.Tests.{eqb-true, eqb-false, eq-eqb, ltb-true, ltb-false}
use Rattle.octets.specs.Numbers.{among}
use Rattle.text.specs.Text.{token}
use Rattle.text.specs.Leaves.{mask_of, token_bit}
use Rattle.text.specs.Weighing.{bit, Marks}

power_below : (u t : ℕ) → t < u → 2 ^ u / 2 ^ t % 2 ≡ 0
power_below u t h =
    let e : (u - t - 1) + 1 + t ≡ u = omega arith in
    let f : 2 ^ u ≡ 2 ^ (u - t - 1) * 2 * 2 ^ t =
    ap (λ (n : ℕ). 2 ^ n) (sym e) ∙ pow-add 2 (u - t - 1 + 1) t ∙ ap (λ (n : ℕ). n * 2 ^ t) (pow-add 2 (u - t - 1) 1) in
    ap (λ (n : ℕ). n / 2 ^ t % 2) f ∙ ap (λ (n : ℕ). n % 2) (shl-shr (2 ^ (u - t - 1) * 2) t) ∙ mul-mod_left (2 ^ (u - t - 1)) 2

power-above : (u t : ℕ) → u < t → 2 ^ u / 2 ^ t % 2 ≡ 0
power-above u t h = ap (λ (n : ℕ). n % 2) (div-eq_of_lt (pow-lt h))

power-same : (t : ℕ) → 2 ^ t / 2 ^ t % 2 ≡ 1
power-same t = ap (λ (n : ℕ). n / 2 ^ t % 2) (sym (one-mul (2 ^ t))) ∙ ap (λ (n : ℕ). n % 2) (shl-shr 1 t)

power-other : (u t : ℕ) → eqb t u ≡ false → 2 ^ u / 2 ^ t % 2 ≡ 0
power-other u t e = go (ltb t u) refl
  where
    go : (b : Bool) → ltb t u ≡ b → 2 ^ u / 2 ^ t % 2 ≡ 0
    go true l = power_below u t (ltb-true t u l)
    go false l = power-above u t (omega (arith, ltb-false t u l, eqb-false t u e))

bit-or : (m b t : ℕ) → bit_or m b / 2 ^ t % 2 ≡ bit_or (m / 2 ^ t % 2) (b / 2 ^ t % 2)
bit-or m b t = ap (λ (n : ℕ). n % 2) (or_shr m b t) ∙ or_mod (m / 2 ^ t) (b / 2 ^ t) 1

or-one : (x : ℕ) → x < 2 → eqb (bit_or x 1) 1 ≡ true
or-one zero h = refl
or-one (suc zero) h = refl
or-one (suc (suc x)) h = absurd (omega arith)

-- the bit of one number more
pub bit-more : (m u t : ℕ) → bit (bit_or m (2 ^ u)) t ≡ eqb t u || bit m t
bit-more m u t = ap (λ (n : ℕ). eqb n 1) (bit-or m (2 ^ u) t) ∙ go (eqb t u) refl
  where
    go : (b : Bool) → eqb t u ≡ b → eqb (bit_or (m / 2 ^ t % 2) (2 ^ u / 2 ^ t % 2)) 1 ≡ b || bit m t
    go true e =
        ap (λ (n : ℕ). eqb (bit_or (m / 2 ^ t % 2) n) 1) (ap (λ (n : ℕ). 2 ^ n / 2 ^ t % 2) (sym (eqb-true t u e)) ∙ power-same t)
        ∙ or-one (m / 2 ^ t % 2) (mod-lt (m / 2 ^ t) (omega arith))
    go false e = ap (λ (n : ℕ). eqb (bit_or (m / 2 ^ t % 2) n) 1) (power-other u t e) ∙ ap (λ (n : ℕ). eqb n 1) (or_zero_r (m / 2 ^ t % 2))

pub bit-none : (t : ℕ) → bit 0 t ≡ false
bit-none t = ap (λ (n : ℕ). eqb (n % 2) 1) (div-eq_of_lt (pow_pos t))

bit_is : (t : ℕ) (ts : List ℕ) → bit (mask_of ts) t ≡ among t ts
unfolding mask_of among
bit_is t [] = bit-none t
bit_is t (u ∷ ts) = bit-more (mask_of ts) u t ∙ ap (λ b. eqb t u || b) (bit_is t ts)

-- the code's test, (mask >> t) & 1 == 1
pub bit_test : (mask t : ℕ) → eqb (bit_and (mask / 2 ^ t) 1) 1 ≡ bit mask t
bit_test mask t = ap (λ (n : ℕ). eqb n 1) (and_mask (mask / 2 ^ t) 1)

pub mask-test : (t : ℕ) (ts : List ℕ) → eqb (bit_and (mask_of ts / 2 ^ t) 1) 1 ≡ among t ts
mask-test t ts = bit_test (mask_of ts) t ∙ bit_is t ts

-- the code's store, mask | (1 << t), in a mask of so many bits
pub mask-more : (bits t : ℕ) (ts : List ℕ) → t < bits → bit_or (mask_of ts) (1 * 2 ^ t % 2 ^ bits) ≡ mask_of (t ∷ ts)
unfolding mask_of
mask-more bits t ts h = ap (bit_or (mask_of ts)) (shl_exact 1 t bits (omega arith) (omega arith) ∙ one-mul (2 ^ t))

-- ---- a mask whose bits are all in another: `and` with that one leaves it as it is
and_one : (x : ℕ) → x < 2 → bit_and 1 x ≡ 1 → x ≡ 1
and_one zero h e = absurd (omega arith)
and_one (suc zero) h e = refl
and_one (suc (suc x)) h e = absurd (omega arith)

pub kept-within : (a b : ℕ) → bit_and a b ≡ a → (t : ℕ) → bit a t ≡ true → bit b t ≡ true
kept-within a b e t h =
    let one : a / 2 ^ t % 2 ≡ 1 = eqb-true (a / 2 ^ t % 2) 1 h in
    let both : bit_and (a / 2 ^ t % 2) (b / 2 ^ t % 2) ≡ a / 2 ^ t % 2 =
    sym (ap (λ (n : ℕ). n % 2) (and_shr a b t) ∙ and_mod (a / 2 ^ t) (b / 2 ^ t) 1) ∙ ap (λ (n : ℕ). n / 2 ^ t % 2) e in
    eq-eqb (b / 2 ^ t % 2) 1 (and_one (b / 2 ^ t % 2) (mod-lt (b / 2 ^ t) (omega arith)) (rw one at both))

bit-half : (a t : ℕ) → bit (a / 2) t ≡ bit a (1 + t)
bit-half a t = ap (λ (n : ℕ). eqb (n % 2) 1) (shr-shr a 1 t)

low-kept : (x y : ℕ) → x < 2 → (x ≡ 1 → y ≡ 1) → min x y ≡ x
low-kept zero y h f = zero-min y
low-kept (suc zero) y h f = ap (min 1) (f refl)
low-kept (suc (suc x)) y h f = absurd (omega arith)

low_bit : (a b : ℕ) → ((t : ℕ) → bit a t ≡ true → bit b t ≡ true) → a % 2 ≡ 1 → b % 2 ≡ 1
low_bit a b f h =
    let g : a / 2 ^ 0 % 2 ≡ 1 → b / 2 ^ 0 % 2 ≡ 1 = λ q. eqb-true (b / 2 ^ 0 % 2) 1 (f 0 (eq-eqb (a / 2 ^ 0 % 2) 1 q)) in
    ap (λ (n : ℕ). n % 2) (sym (div-one b)) ∙ g (ap (λ (n : ℕ). n % 2) (div-one a) ∙ h)

-- the lowest bit, and the others
kept_step : (a b : ℕ) → bit_and (a / 2) (b / 2) ≡ a / 2 → min (a % 2) (b % 2) ≡ a % 2 → bit_and a b ≡ a
kept_step a b p q = and_step a b ∙ ap₂ (λ (x y : ℕ). x * 2 + y) p q ∙ div-add-mod' a 2

pub within-kept : (a b : ℕ) → ((t : ℕ) → bit a t ≡ true → bit b t ≡ true) → bit_and a b ≡ a
within-kept a =
    bin_ind (λ (n : ℕ). (b : ℕ) → ((t : ℕ) → bit n t ≡ true → bit b t ≡ true) → bit_and n b ≡ n) (λ b f. refl)
    (λ n ih b f. kept_step n b (ih (b / 2) (λ t h. bit-half b t ∙ f (1 + t) (sym (bit-half n t) ∙ h)))
    (low-kept (n % 2) (b % 2) (mod-lt n (omega arith)) (low_bit n b f)))
    a

-- ---- the tokens among octets as a mask: what a loop over them knows with so many octets left
pub record Marking (mask : ℕ) (left octets : List ℕ) : Type 0 where
  pub bits : (t : ℕ) → bit mask t || token t && among t left ≡ token t && among t octets

pub mark-begin : (octets : List ℕ) → Marking 0 octets octets
mark-begin octets = record { bits = λ t. ap (λ b. b || token t && among t octets) (bit-none t) }

pub mark-done : (mask : ℕ) (octets : List ℕ) → Marking mask [] octets → Marks mask octets
unfolding among
mark-done mask octets inv = record { bits = λ t. sym (ap (λ b. bit mask t || b) (and-false (token t)) ∙ or-false (bit mask t)) ∙ inv.bits t }

pub mark-one : (m b t : ℕ) → bit (bit_or m (token_bit b)) t ≡ bit m t || token t && eqb t b
unfolding token_bit
mark-one m b t = go (token b) refl (eqb t b) refl
  where
    same : eqb t b ≡ true → (k : Bool) → token b ≡ k → token t ≡ k
    same q k p = ap token (eqb-true t b q) ∙ p

    go : (k : Bool) → token b ≡ k → (e : Bool) → eqb t b ≡ e → bit (bit_or m (cond k (2 ^ b) 0)) t ≡ bit m t || token t && e
    go true p true q = bit-more m b t ∙ rw (q, same q true p) (sym (or-true (bit m t)))
    go true p false q = bit-more m b t ∙ rw (q, and-false (token t)) (sym (or-false (bit m t)))
    go false p true q = rw (or_zero_r m, same q false p) (sym (or-false (bit m t)))
    go false p false q = rw (or_zero_r m, and-false (token t)) (sym (or-false (bit m t)))

pub mark-more : (mask b r : ℕ) (left octets : List ℕ) → Marking mask (b ∷ left) octets → r ≡ token_bit b → Marking (bit_or mask r) left octets
unfolding among
mark-more mask b r left octets inv e =
    record {
      bits = λ t.
          ap (λ (n : ℕ). bit (bit_or mask n) t || token t && among t left) e
          ∙ ap (λ c. c || token t && among t left) (mark-one mask b t)
          ∙ regroup (bit mask t) (token t) (eqb t b) (among t left) ∙ inv.bits t;
    }
  where
    regroup : (x k a l : Bool) → (x || k && a) || k && l ≡ x || k && (a || l)
    regroup true k a l = refl
    regroup false true a l = refl
    regroup false false a l = refl
