-- Numbers in octets, both ways.
use mathlib.Core.Path.{◌≡◌, refl, sym, ap, subst, ◌∙◌}
use mathlib.Core.Bool.{Bool, true, false}
use mathlib.Core.List.{List, [], ◌∷◌, ◌++◌}
use Prim.Native.Nat.{ℕ, zero, suc, ◌+◌, ◌*◌, ◌/◌, ◌%◌, ◌^◌, ◌≤◌, ◌<◌}
use native.Mathlib.Omega.{arith}
use native.Mathlib.Nat.{div-add-mod', mod-lt, pow-suc, pow-succ', mul_assoc, add-mul, add_assoc, div-lt_iff_lt-mul, one-le-pow}
use lib.Arith.{digits_lt, digits_div, digits_mod, mod-mul}
use lib.Dec.{ltb}
use lib.ListN.{length, take, drop, get_or, length-append, length-take, get_or-eq_default}
use lib.Pow.{pow-add}
use lib.Seq.{get_or-drop, get_or-take}
use borrow.Author.Tests.{ltb-true, ltb-false}
use Rattle.octets.specs.Numbers.{value, digits, Octets}

-- a number that is none of those below, one after the other
pub above : {k : ℕ} (n : ℕ) → k ≤ n → (n ≡ k → ⊥) → suc k ≤ n
above n h e = omega arith

pub pow_pos : (w : ℕ) → 0 < 256 ^ w
pow_pos w = one-le-pow w 256 (omega arith)

pub length_digits : (w n : ℕ) → length (digits w n) ≡ w
unfolding digits
length_digits zero n = refl
length_digits (suc w) n = ap suc (length_digits w (n % 256 ^ w))

pub value-digits : (w n : ℕ) → n < 256 ^ w → value (digits w n) ≡ n
unfolding digits value
value-digits zero n h = omega arith
value-digits (suc w) n h = rw (length_digits w (n % 256 ^ w), value-digits w (n % 256 ^ w) (mod-lt n (pow_pos w))) (div-add-mod' n (256 ^ w))

pub octets-drop : (n : ℕ) (o : List ℕ) → Octets o → Octets (drop n o)
octets-drop n o h i = rw (get_or-drop n o i 0) (h (n + i))

pub octets-take : (n : ℕ) (o : List ℕ) → Octets o → Octets (take n o)
octets-take n o h i = go (ltb i n) refl
  where
    go : (b : Bool) → ltb i n ≡ b → get_or (take n o) i 0 < 256
    go true e = let l = ltb-true i n e in rw (get_or-take n o i 0) (h i)
    go false e = rw (get_or-eq_default (take n o) 0 {n = i} (simp length-take (omega (arith, ltb-false i n e)))) (omega arith)

-- lists of octets put together, and the digits of a number
pub octets-none : Octets []
octets-none i = omega arith

pub octets-cons : (b : ℕ) (o : List ℕ) → b < 256 → Octets o → Octets (b ∷ o)
octets-cons b o h g zero = h
octets-cons b o h g (suc i) = g i

pub octets-append : (a b : List ℕ) → Octets a → Octets b → Octets (a ++ b)
octets-append [] b h g = g
octets-append (x ∷ a) b h g = octets-cons x (a ++ b) (h 0) (octets-append a b (λ i. h (suc i)) g)

pub octets-digits : (w n : ℕ) → n < 256 ^ w → Octets (digits w n)
unfolding digits
octets-digits zero n h = octets-none
octets-digits (suc w) n h = octets-cons (n / 256 ^ w) (digits w (n % 256 ^ w)) ((div-lt_iff_lt-mul (pow_pos w)).1 (rw pow-succ' at h)) (octets-digits w (n % 256 ^ w) (mod-lt n (pow_pos w)))

pub value-lt : (o : List ℕ) → Octets o → value o < 256 ^ length o
unfolding value
value-lt [] h = omega arith
value-lt (b ∷ bs) h = rw (pow-succ' 256 (length bs)) (digits_lt (h 0) (value-lt bs (λ i. h (suc i))))

pub value-of-length : (n : ℕ) (o : List ℕ) → Octets o → length o ≡ n → value o < 256 ^ n
value-of-length n o h e = subst (λ m. value o < 256 ^ m) e (value-lt o h)

-- octets are the digits of the number that they write
pub digits_value : (o : List ℕ) → Octets o → digits (length o) (value o) ≡ o
unfolding digits value
digits_value [] h = refl
digits_value (b ∷ bs) h =
    let l = value-lt bs (λ i. h (suc i)) in
    rw (digits_div b l, digits_mod b l, digits_value bs (λ i. h (suc i)))

-- octets behind octets
pub value-append : (a b : List ℕ) → value (a ++ b) ≡ value a * 256 ^ length b + value b
unfolding value
value-append [] b = omega arith
value-append (x ∷ a) b = step (value-append a b)
  where
    step : value (a ++ b) ≡ value a * 256 ^ length b + value b → x * 256 ^ length (a ++ b) + value (a ++ b) ≡ (x * 256 ^ length a + value a) * 256 ^ length b + value b
    step e = rw (length-append a b, pow-add 256 (length a) (length b), e, ← mul_assoc x (256 ^ length a) (256 ^ length b), add-mul (x * 256 ^ length a) (value a) (256 ^ length b), add_assoc (x * 256 ^ length a * 256 ^ length b) (value a * 256 ^ length b) (value b))

-- the digits of a number's low octets, by the first of them
pub digits_more : (w n : ℕ) → digits (suc w) (n % 256 ^ suc w) ≡ n / 256 ^ w % 256 ∷ digits w (n % 256 ^ w)
unfolding digits
digits_more w n =
    let p : 0 < 256 ^ w = pow_pos w in
    let e : n % 256 ^ suc w ≡ n / 256 ^ w % 256 * 256 ^ w + n % 256 ^ w = ap (λ m. n % m) (pow-succ' 256 w) ∙ mod-mul n {m = 256} {c = 256 ^ w} (omega arith) p in
    let r : n % 256 ^ w < 256 ^ w = mod-lt n p in
    rw (e, digits_div (n / 256 ^ w % 256) r, digits_mod (n / 256 ^ w % 256) r)

-- so many octets as bits
pub pow-octets : (w : ℕ) → 2 ^ (8 * w) ≡ 256 ^ w
pow-octets zero = refl
pow-octets (suc w) = let e : 8 * suc w ≡ 8 * w + 8 = omega arith in ap (λ m. 2 ^ m) e ∙ pow-add 2 (8 * w) 8 ∙ ap (λ m. m * 256) (pow-octets w) ∙ sym (pow-suc 256 w)
