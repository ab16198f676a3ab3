-- Going over the objects of a recording: the number that bounds the walk is never seen, one equation for an object and one for where none stands.
use mathlib.Core.Path.{◌≡◌, refl, sym, ap, ◌∙◌}
use mathlib.Core.Bool.{Bool, true, false, cond}
use mathlib.Core.List.{List, [], ◌∷◌, ◌++◌}
use Prim.Native.Nat.{ℕ, zero, suc, ◌+◌, ◌-◌, ◌≤◌, ◌<◌}
use native.Mathlib.Omega.{arith}
use native.Mathlib.Nat.{not-suc-le-zero}
use lib.ListN.{length, take, drop, length-append, length-drop, length-take}
use lib.Seq.{take-nil, take-append-le, drop-append-le}
use borrow.Author.Tests.{leb-true, leb-false, le-leb, lt-leb}
use Rattle.octets.specs.Numbers.{value, Octets}
use Rattle.octets.proofs.Numbers.{octets-take}
use Rattle.recording.specs.Recording.{announced, whole, first_of, behind_of, stopped, preceded, walk, objects_at}

-- ---- a part of what is cut
module _ {ℓ} {A : Type ℓ} where
  pub drop-take : (i n : ℕ) (l : List A) → drop i (take n l) ≡ take (n - i) (drop i l)
  drop-take zero n l = let e : n ≡ n - 0 = omega arith in ap (λ (k : ℕ). take k l) e
  drop-take (suc i) zero l = let e : 0 ≡ 0 - suc i = omega arith in ap (λ (k : ℕ). take k (drop (suc i) l)) e
  drop-take (suc i) (suc n) [] = sym (take-nil (suc n - suc i))
  drop-take (suc i) (suc n) (x ∷ l) = let e : n - i ≡ suc n - suc i = omega arith in drop-take i n l ∙ ap (λ (k : ℕ). take k (drop i l)) e

-- ---- what a whole object at the start of a part says
pub whole-fits : (s : List ℕ) → whole s ≡ true → 2 + announced s ≤ length s
unfolding whole
whole-fits s h = leb-true (2 + announced s) (length s) h

pub part-short : (s : List ℕ) → whole s ≡ false → length s < 2 + announced s
unfolding whole
part-short s h = leb-false (2 + announced s) (length s) h

pub fits_whole : (s : List ℕ) → 2 + announced s ≤ length s → whole s ≡ true
unfolding whole
fits_whole s h = le-leb (2 + announced s) (length s) h

pub short-part : (s : List ℕ) → length s < 2 + announced s → whole s ≡ false
unfolding whole
short-part s h = lt-leb (2 + announced s) (length s) h

pub size_small : (s : List ℕ) → Octets s → announced s < 65_536
unfolding announced value
size_small s os = go (take 2 s) (octets-take 2 s os) (rw length-take (omega arith))
  where
    go : (l : List ℕ) → Octets l → length l ≤ 2 → value l < 65_536
    go [] o h = omega arith
    go (a ∷ []) o h = let p = o 0 in omega arith
    go (a ∷ b ∷ []) o h = let p = o 0 in let q = o 1 in omega arith
    go (a ∷ b ∷ c ∷ l) o h = absurd (omega arith)

pub length-first : (s : List ℕ) → whole s ≡ true → length (first_of s) ≡ announced s
length-first s h = let f = whole-fits s h in rw (length-take (announced s) (drop 2 s), length-drop 2 s) (omega arith)

pub length-behind : (s : List ℕ) → length (behind_of s) ≡ length s - (2 + announced s)
length-behind s = length-drop (2 + announced s) s

-- ---- the bound
walk_same : (j k at : ℕ) (s : List ℕ) → length s < j → length s < k → walk j at s ≡ walk k at s
unfolding walk
walk_same zero k at s h g = absurd (not-suc-le-zero h)
walk_same (suc j) zero at s h g = absurd (not-suc-le-zero g)
walk_same (suc j) (suc k) at s h g = go (whole s) refl (λ p q. walk_same j k (at + (2 + announced s)) (behind_of s) p q)
  where
    go : (b : Bool) → whole s ≡ b
        → (length (behind_of s) < j → length (behind_of s) < k → walk j (at + (2 + announced s)) (behind_of s) ≡ walk k (at + (2 + announced s)) (behind_of s))
        → cond b (preceded (first_of s) (walk j (at + (2 + announced s)) (behind_of s))) (record { objects = []; ends = stopped at s })
        ≡ cond b (preceded (first_of s) (walk k (at + (2 + announced s)) (behind_of s))) (record { objects = []; ends = stopped at s })
    go true e again =
        let f = whole-fits s e in
        let l = length-behind s in
        ap (preceded (first_of s)) (again (omega arith) (omega arith))
    go false e again = refl

pub walk-enough : (k at : ℕ) (s : List ℕ) → length s < k → walk k at s ≡ objects_at at s
unfolding objects_at
walk-enough k at s h = walk_same k (suc (length s)) at s h (omega arith)

-- ---- the two equations
pub at-object : (at : ℕ) (s : List ℕ) → whole s ≡ true → objects_at at s ≡ preceded (first_of s) (objects_at (at + (2 + announced s)) (behind_of s))
unfolding objects_at walk
at-object at s e =
    let f = whole-fits s e in
    let l = length-behind s in
    rw e (ap (preceded (first_of s)) (walk-enough (length s) (at + (2 + announced s)) (behind_of s) (omega arith)))

pub at-stop : (at : ℕ) (s : List ℕ) → whole s ≡ false → objects_at at s ≡ record { objects = []; ends = stopped at s }
unfolding objects_at walk
at-stop at s e = rw e

-- ---- induction over the objects of a part
module _ (P : ℕ → List ℕ → Type 0)
    (object : (at : ℕ) (s : List ℕ) → whole s ≡ true → P (at + (2 + announced s)) (behind_of s) → P at s)
    (stop : (at : ℕ) (s : List ℕ) → whole s ≡ false → P at s) where
  upto : (k at : ℕ) (s : List ℕ) → length s < k → P at s
  upto zero at s h = absurd (not-suc-le-zero h)
  upto (suc k) at s h = go (whole s) refl (λ p. upto k (at + (2 + announced s)) (behind_of s) p)
    where
      go : (b : Bool) → whole s ≡ b → (length (behind_of s) < k → P (at + (2 + announced s)) (behind_of s)) → P at s
      go true e again =
          let f = whole-fits s e in
          let l = length-behind s in
          object at s e (again (omega arith))
      go false e again = stop at s e

  pub by-objects : (at : ℕ) (s : List ℕ) → P at s
  by-objects at s = upto (suc (length s)) at s (omega arith)

-- ---- a whole object stays what it is, whatever follows the part
pub size-append : (s r : List ℕ) → 2 ≤ length s → announced (s ++ r) ≡ announced s
unfolding announced
size-append s r h = ap value (take-append-le 2 s r h)

module _ (s r : List ℕ) (e : whole s ≡ true) where
  two : 2 ≤ length s
  two = let f = whole-fits s e in omega arith

  pub whole_append : whole (s ++ r) ≡ true
  whole_append =
      let f = whole-fits s e in
      let z = size-append s r two in
      let l = length-append s r in
      fits_whole (s ++ r) (omega arith)

  pub first-append : first_of (s ++ r) ≡ first_of s
  first-append =
      let f = whole-fits s e in
      let l : announced s ≤ length (drop 2 s) = rw (length-drop 2 s) (omega arith) in
      ap (λ (n : ℕ). take n (drop 2 (s ++ r))) (size-append s r two) ∙ ap (take (announced s)) (drop-append-le 2 s r two) ∙ take-append-le (announced s) (drop 2 s) r l

  pub behind-append : behind_of (s ++ r) ≡ behind_of s ++ r
  behind-append = ap (λ (n : ℕ). drop (2 + n) (s ++ r)) (size-append s r two) ∙ drop-append-le (2 + announced s) s r (whole-fits s e)
