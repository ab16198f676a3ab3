-- Numbers at so many tags from one on, added up.
use mathlib.Core.Path.{◌≡◌, refl, ap₂}
use mathlib.Core.Bool.{Bool, true, false}
use Prim.Native.Nat.{ℕ, zero, suc, ◌+◌, ◌≤◌, ◌<◌}
use native.Mathlib.Omega.{arith}
use lib.Dec.{eqb}
use borrow.Author.Tests.{eqb-true, eqb-false}

unfoldable pub sum : ℕ → ℕ → (ℕ → ℕ) → ℕ
sum zero tag f = 0
sum (suc n) tag f = f tag + sum n (suc tag) f

-- numbers that are the same from a tag on
pub sum_same : (n start : ℕ) (f g : ℕ → ℕ) → ((t : ℕ) → start ≤ t → f t ≡ g t) → sum n start f ≡ sum n start g
unfolding sum
sum_same zero start f g h = refl
sum_same (suc n) start f g h = ap₂ (λ x y. x + y) (h start (omega arith)) (sum_same n (suc start) f g (λ t q. h t (omega arith)))

pub sum-none : (n start : ℕ) (f : ℕ → ℕ) → ((t : ℕ) → f t ≡ 0) → sum n start f ≡ 0
unfolding sum
sum-none zero start f h = refl
sum-none (suc n) start f h = omega (arith, h start, sum-none n (suc start) f h)

-- numbers that are nowhere greater
pub sum-most : (n start : ℕ) (f g : ℕ → ℕ) → ((t : ℕ) → f t ≤ g t) → sum n start f ≤ sum n start g
unfolding sum
sum-most zero start f g h = omega arith
sum-most (suc n) start f g h = omega (arith, h start, sum-most n (suc start) f g h)

-- numbers of which one is greater by so much
pub sum_more : (n start tag more : ℕ) (f g : ℕ → ℕ) → f tag ≡ more + g tag → ((t : ℕ) → (t ≡ tag → ⊥) → f t ≡ g t) → start ≤ tag → tag < start + n → sum n start f ≡ more + sum n start g
unfolding sum
sum_more zero start tag more f g e h a b = absurd (omega arith)
sum_more (suc n) start tag more f g e h a b = go (eqb start tag) refl (λ c d. sum_more n (suc start) tag more f g e h c d)
  where
    go : (s : Bool) → eqb start tag ≡ s → (suc start ≤ tag → tag < suc start + n → sum n (suc start) f ≡ more + sum n (suc start) g)
        → f start + sum n (suc start) f ≡ more + (g start + sum n (suc start) g)
    go true s ih =
        let z : start ≡ tag = eqb-true start tag s in
        let now : f start ≡ more + g start = rw z e in
        let later = sum_same n (suc start) f g (λ t w. h t (λ y. omega arith)) in
        omega arith
    go false s ih =
        let z = eqb-false start tag s in
        let now = h start z in
        let later = ih (omega arith) (omega arith) in
        omega arith
