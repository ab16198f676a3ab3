-- Numbers and octets by shifts and masks, and octets stored in a lent list.
use mathlib.Core.Path.{◌≡◌, sym, ap, ap₂, ◌∙◌}
use mathlib.Core.Bool.{Bool, true, false}
use mathlib.Core.List.{List, [], ◌∷◌, ◌++◌}
use Prim.Native.Nat.{ℕ, suc, ◌+◌, ◌*◌, ◌/◌, ◌%◌, ◌^◌, ◌≤◌, ◌<◌}
use native.Mathlib.Omega.{arith}
use lib.Bits.{bit_and, bit_or, and_mask, mask_lt}
use lib.ListN.{length, take, drop, get_or, set, length-drop, length-set}
use lib.Seq.{sets, length-sets, get_or-drop, drop-drop}
use mir.Syntax.{w8}
use mir.Val.{Fits}
use Rattle.octets.specs.Numbers.{value, digits}
use Rattle.octets.proofs.Reading.{joined}
use Rattle.octets.proofs.Lists.{sets-append, get_d-here}
use Rattle.octets.proofs.Puts.{puts-invalid, asked-ways}

-- two octets
value-two : (l : List ℕ) → 2 ≤ length l → value (take 2 l) ≡ get_or l 0 0 * 256 + get_or l 1 0
unfolding value
value-two [] h = absurd (omega arith)
value-two (a ∷ []) h = absurd (omega arith)
value-two (a ∷ b ∷ l) h = omega arith

value-two-at : (s : List ℕ) (at : ℕ) → at + 2 ≤ length s → value (take 2 (drop at s)) ≡ get_or s at 0 * 256 + get_or s (at + 1) 0
value-two-at s at h =
    value-two (drop at s) (simp length-drop (omega arith))
    ∙ ap₂ (λ x y. x * 256 + y) (get_d-here s at 0) (get_or-drop at s 1 0)

module _ (s : List ℕ) (at : ℕ) (h : at + 2 ≤ length s) (g : get_or s at 0 < 256) (k : get_or s (at + 1) 0 < 256) where
  both : bit_or (get_or s at 0 * 2 ^ 8 % 2 ^ 32) (get_or s (at + 1) 0) ≡ get_or s at 0 * 256 + get_or s (at + 1) 0
  both = joined 8 8 (get_or s at 0) (get_or s (at + 1) 0) (omega arith) g k

  pub two-value : bit_or (get_or s at 0 * 2 ^ 8 % 2 ^ 32) (get_or s (at + 1) 0) ≡ value (take 2 (drop at s))
  two-value = both ∙ sym (value-two-at s at h)

  pub two-small : bit_or (get_or s at 0 * 2 ^ 8 % 2 ^ 32) (get_or s (at + 1) 0) < 65536
  two-small = omega (arith, both)

-- four octets are two and two
value-four : (l : List ℕ) → 4 ≤ length l → value (take 4 l) ≡ value (take 2 l) * 65536 + value (take 2 (drop 2 l))
unfolding value
value-four [] h = absurd (omega arith)
value-four (a ∷ []) h = absurd (omega arith)
value-four (a ∷ b ∷ []) h = absurd (omega arith)
value-four (a ∷ b ∷ c ∷ []) h = absurd (omega arith)
value-four (a ∷ b ∷ c ∷ d ∷ l) h = omega arith

pub four-value : (s : List ℕ) (at x y : ℕ) → at + 4 ≤ length s → x ≡ value (take 2 (drop at s)) → x < 65536 → y ≡ value (take 2 (drop (at + 2) s)) → y < 65536
    → bit_or (x * 2 ^ 16 % 2 ^ 32) y ≡ value (take 4 (drop at s))
four-value s at x y h p g q k =
    joined 16 16 x y (omega arith) g k ∙ ap₂ (λ a b. a * 65536 + b) p (q ∙ ap (λ l. value (take 2 l)) (sym (drop-drop 2 at s)))
    ∙ sym (value-four (drop at s) (simp length-drop (omega arith)))

-- low bits
pub low_fits : (n : ℕ) → Fits w8 (bit_and n 255)
low_fits n = record { fits = mask_lt n 8 }

pub low-is : (n : ℕ) → bit_and n 255 ≡ n % 256
low-is n = and_mask n 8

-- stores one after the other
pub stored-length : (out after vs : List ℕ) (i v j : ℕ) → after ≡ sets (set out i v) j vs → length after ≡ length out
stored-length out after vs i v j e = ap length e ∙ length-sets (set out i v) j vs ∙ length-set out i v

digits-two : (n : ℕ) → n < 65536 → digits 2 n ≡ (n / 2 ^ 8 % 256) ∷ (n % 256) ∷ []
unfolding digits
digits-two n h =
    let a : n / 256 ^ 1 ≡ n / 2 ^ 8 % 256 = omega arith in
    let b : n % 256 ^ 1 / 256 ^ 0 ≡ n % 256 = omega arith in
    λ i. a i ∷ b i ∷ []

pub put_two : (n : ℕ) (out : List ℕ) (at a b : ℕ) → n < 65536 → a ≡ n / 2 ^ 8 % 256 → b ≡ n % 256 → set (set out at a) (at + 1) b ≡ sets out at (digits 2 n)
put_two n out at a b h p q =
    let one : at + 1 ≡ suc at = omega arith in
    (λ i. set (set out at (p i)) (one i) (q i)) ∙ ap (sets out at) (sym (digits-two n h))

digits-four : (n : ℕ) → n < 2 ^ 32 → digits 4 n ≡ digits 2 (n / 2 ^ 16) ++ digits 2 (n % 2 ^ 16)
unfolding digits
digits-four n h =
    let a : n / 256 ^ 3 ≡ n / 2 ^ 16 / 256 ^ 1 = omega arith in
    let b : n % 256 ^ 3 / 256 ^ 2 ≡ n / 2 ^ 16 % 256 ^ 1 / 256 ^ 0 = omega arith in
    let c : n % 256 ^ 3 % 256 ^ 2 / 256 ^ 1 ≡ n % 2 ^ 16 / 256 ^ 1 = omega arith in
    let d : n % 256 ^ 3 % 256 ^ 2 % 256 ^ 1 / 256 ^ 0 ≡ n % 2 ^ 16 % 256 ^ 1 / 256 ^ 0 = omega arith in
    λ i. a i ∷ b i ∷ c i ∷ d i ∷ []

pub low_half : (n : ℕ) → bit_and n 65535 < 65536
low_half n = mask_lt n 16

module _ (n : ℕ) (out : List ℕ) (at : ℕ) (first : List ℕ) (p : first ≡ sets out at (digits 2 (n / 2 ^ 16))) where
  pub four-room : at + 4 ≤ length out → at + 2 + 2 ≤ length first
  four-room h = omega (arith, ap length p ∙ length-sets out at (digits 2 (n / 2 ^ 16)))

  pub put_four : (after : List ℕ) → n < 2 ^ 32 → after ≡ sets first (at + 2) (digits 2 (bit_and n 65535)) → after ≡ sets out at (digits 4 n)
  unfolding digits
  put_four after h q =
      q ∙ ap₂ (λ l m. sets l (at + 2) (digits 2 m)) p (and_mask n 16)
      ∙ sets-append out at (digits 2 (n / 2 ^ 16)) (digits 2 (n % 2 ^ 16)) ∙ ap (sets out at) (sym (digits-four n h))

-- what a test answered that is put only where it holds
module _ (valid v : Bool) (e : v ≡ valid) where
  pub put-valid : v ≡ true → valid ≡ true
  put-valid y = sym e ∙ y

  pub put-none : v ≡ false → valid ≡ false
  put-none n = sym e ∙ n

pub ruleset put-ways = (puts-invalid, asked-ways, put-valid, put-none)
