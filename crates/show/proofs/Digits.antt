-- Laws of decimal digits: how a number's last digit stands behind the others, how many there are, and that they tell the number.
use mathlib.Core.Path.{◌≡◌, refl, sym, ap, ◌∙◌}
use mathlib.Core.Bool.{Bool, true, false}
use mathlib.Core.List.{List, [], ◌∷◌, ◌++◌}
use Prim.Native.Nat.{ℕ, zero, suc, ◌+◌, ◌-◌, ◌*◌, ◌/◌, ◌%◌, ◌^◌, ◌≤◌, ◌<◌}
use native.Mathlib.Nat.{pow-suc}
use native.Mathlib.Omega.{arith}
use lib.Dec.{ltb}
use lib.ListN.{length, length-append}
use borrow.Author.Tests.{lt-ltb, le-ltb, ltb-true, ltb-false}
use Rattle.show.specs.Digits.{tens, decimal, told}

-- ---- steps enough are steps enough

tens-one : (k n : ℕ) → ltb n 10 ≡ true → tens (suc k) n ≡ (48 + n) ∷ []
unfolding tens
tens-one k n e = rw e

tens-more : (k n : ℕ) → ltb n 10 ≡ false → tens (suc k) n ≡ tens k (n / 10) ++ ((48 + n % 10) ∷ [])
unfolding tens
tens-more k n e = rw e

same_by : (k m n : ℕ) (b : Bool) → ltb n 10 ≡ b → (ltb n 10 ≡ false → tens k (n / 10) ≡ tens m (n / 10)) → tens (suc k) n ≡ tens (suc m) n
same_by k m n true e f = tens-one k n e ∙ sym (tens-one m n e)
same_by k m n false e f = tens-more k n e ∙ ap (λ (o : List ℕ). o ++ ((48 + n % 10) ∷ [])) (f e) ∙ sym (tens-more m n e)

tens-same : (k m n : ℕ) → n < k → n < m → tens k n ≡ tens m n
tens-same zero m n h g = absurd (omega arith)
tens-same (suc k) zero n h g = absurd (omega arith)
tens-same (suc k) (suc m) n h g = same_by k m n (ltb n 10) refl (λ e. tens-same k m (n / 10) (omega (arith, ltb-false n 10 e)) (omega (arith, ltb-false n 10 e)))

-- ---- a digit alone, and a last digit behind the others

pub decimal-one : (n : ℕ) → n < 10 → decimal n ≡ (48 + n) ∷ []
unfolding decimal
decimal-one n h = tens-one n n (lt-ltb n 10 h)

pub decimal-more : (n : ℕ) → 10 ≤ n → decimal n ≡ decimal (n / 10) ++ ((48 + n % 10) ∷ [])
unfolding decimal
decimal-more n h = tens-more n n (le-ltb n 10 h) ∙ ap (λ (o : List ℕ). o ++ ((48 + n % 10) ∷ [])) (tens-same n (suc (n / 10)) (n / 10) (omega arith) (omega arith))

pub length_more : (n : ℕ) → 10 ≤ n → length (decimal n) ≡ length (decimal (n / 10)) + 1
length_more n h = ap length (decimal-more n h) ∙ length-append (decimal (n / 10)) ((48 + n % 10) ∷ [])

-- a claim of every number that holds of a digit and goes from the other digits to one more
pub by-tens : (P : ℕ → Type 0) → ((n : ℕ) → n < 10 → P n) → ((n : ℕ) → 10 ≤ n → P (n / 10) → P n) → (n : ℕ) → P n
by-tens P one more n = go (suc n) n (omega arith)
  where
    each : (k n : ℕ) (b : Bool) → ltb n 10 ≡ b → n < suc k → ((m : ℕ) → m < k → P m) → P n
    each k n true e h f = one n (ltb-true n 10 e)
    each k n false e h f = more n (ltb-false n 10 e) (f (n / 10) (omega (arith, ltb-false n 10 e)))

    go : (k n : ℕ) → n < k → P n
    go zero n h = absurd (omega arith)
    go (suc k) n h = each k n (ltb n 10) refl h (λ m g. go k m g)

-- ---- how many there are

pub decimal-some : (n : ℕ) → 1 ≤ length (decimal n)
decimal-some = by-tens (λ n. 1 ≤ length (decimal n)) (λ n h. omega (arith, ap length (decimal-one n h))) (λ n h f. omega (arith, length_more n h))

few-by : (k n : ℕ) (b : Bool) → ltb n 10 ≡ b → (ltb n 10 ≡ false → length (decimal (n / 10)) ≤ k) → length (decimal n) ≤ suc k
few-by k n true e f = omega (arith, ap length (decimal-one n (ltb-true n 10 e)))
few-by k n false e f = omega (arith, length_more n (ltb-false n 10 e), f e)

pub decimal-few : (k n : ℕ) → n < 10 ^ suc k → length (decimal n) ≤ suc k
decimal-few zero n h = few-by zero n (ltb n 10) refl (λ e. absurd (omega (arith, ltb-false n 10 e)))
decimal-few (suc k) n h = few-by (suc k) n (ltb n 10) refl (λ e. decimal-few k (n / 10) (let g : n < 10 ^ suc k * 10 = rw (pow-suc 10 (suc k)) at h in omega arith))

-- ---- they tell the number

told-last : (before : ℕ) (ds : List ℕ) (d : ℕ) → told before (ds ++ (d ∷ [])) ≡ told before ds * 10 + (d - 48)
unfolding told
told-last before [] d = refl
told-last before (e ∷ ds) d = told-last (before * 10 + (e - 48)) ds d

pub decimal-told : (n : ℕ) → told 0 (decimal n) ≡ n
unfolding told
decimal-told =
    by-tens (λ n. told 0 (decimal n) ≡ n)
    (λ n h. ap (told 0) (decimal-one n h) ∙ omega arith)
    (λ n h f. ap (told 0) (decimal-more n h) ∙ told-last 0 (decimal (n / 10)) (48 + n % 10) ∙ omega (arith, f))
