-- A recording that is cut, and one that is made.
use mathlib.Core.Path.{◌≡◌, refl, ap, ap₂, ◌∙◌}
use mathlib.Core.Bool.{Bool, true, false, cond}
use mathlib.Core.Option.{none, some}
use mathlib.Core.List.{List, [], ◌∷◌}
use Prim.Native.Nat.{ℕ, suc, ◌+◌, ◌-◌, ◌≤◌, ◌<◌}
use native.Mathlib.Omega.{arith}
use native.Mathlib.Nat.{add-zero}
use lib.Dec.{eqb, leb}
use lib.ListN.{length, take, drop, length-take}
use lib.Seq.{take-take}
use borrow.Author.Tests.{leb-true, leb-false, eq-eqb, ne_eqb, eqb-true, eqb-false}
use Rattle.octets.specs.Numbers.{value}
use Rattle.format.specs.Answers.{refusal}
use Rattle.recording.specs.Recording.{Recording, announced, whole, first_of, behind_of, stopped, preceded, objects_at}
use Rattle.recording.specs.Theorems.{taken, whole_in, end_at}
use Rattle.recording.proofs.Walk.{drop-take, whole-fits, part-short, fits_whole, short-part, length-first, length-behind, at-object, at-stop, by-objects}

-- ---- a part that is cut
size-take : (n : ℕ) (s : List ℕ) → 2 ≤ n → announced (take n s) ≡ announced s
unfolding announced
size-take n s h = ap value (take-take 2 n s h)

-- no whole object stands in fewer octets than a part's first object has, nor in a cut of a part that has none
cut-none : (n : ℕ) (s : List ℕ) → (n < 2 + announced s) → whole (take n s) ≡ false
cut-none n s h = go (leb 2 n) refl
  where
    l : length (take n s) ≤ n
    l = rw length-take (omega arith)

    go : (b : Bool) → leb 2 n ≡ b → whole (take n s) ≡ false
    go true e = let z = size-take n s (leb-true 2 n e) in short-part (take n s) (omega (arith, l))
    go false e = let z = leb-false 2 n e in short-part (take n s) (omega (arith, l))

cut_short : (n : ℕ) (s : List ℕ) → whole s ≡ false → whole (take n s) ≡ false
cut_short n s e = go (leb 2 n) refl
  where
    l : length (take n s) ≤ n
    l = rw length-take (omega arith)

    m : length (take n s) ≤ length s
    m = rw length-take (omega arith)

    go : (b : Bool) → leb 2 n ≡ b → whole (take n s) ≡ false
    go true q = let z = size-take n s (leb-true 2 n q) in short-part (take n s) (omega (arith, m, part-short s e))
    go false q = let z = leb-false 2 n q in short-part (take n s) (omega (arith, l))

-- an object that lies before the cut
module _ (n : ℕ) (s : List ℕ) (e : whole s ≡ true) (h : 2 + announced s ≤ n) where
  size-kept : announced (take n s) ≡ announced s
  size-kept = size-take n s (omega arith)

  whole-kept : whole (take n s) ≡ true
  whole-kept =
      let f = whole-fits s e in
      let z = size-kept in
      let l : 2 + announced s ≤ length (take n s) = rw length-take (omega arith) in
      fits_whole (take n s) (omega arith)

  first-kept : first_of (take n s) ≡ first_of s
  first-kept = ap (λ (k : ℕ). take k (drop 2 (take n s))) size-kept ∙ ap (take (announced s)) (drop-take 2 n s) ∙ take-take (announced s) (n - 2) (drop 2 s) (omega arith)

  behind-kept : behind_of (take n s) ≡ take (n - (2 + announced s)) (behind_of s)
  behind-kept = ap (λ (k : ℕ). drop (2 + k) (take n s)) size-kept ∙ drop-take (2 + announced s) n s

-- the objects of a cut part
abbrev Keeps : ℕ → List ℕ → Type 0
Keeps at s = (n : ℕ) → (objects_at at (take n s)).objects ≡ whole_in n (objects_at at s).objects

pub cut_keeps : (at : ℕ) (s : List ℕ) (n : ℕ) → (objects_at at (take n s)).objects ≡ whole_in n (objects_at at s).objects
unfolding preceded whole_in
cut_keeps = by-objects Keeps object stop
  where
    object : (at : ℕ) (s : List ℕ) → whole s ≡ true → Keeps (at + (2 + announced s)) (behind_of s) → Keeps at s
    object at s e ih n = rw (at-object at s e, length-first s e) (go (leb (2 + announced s) n) refl)
      where
        go : (b : Bool) → leb (2 + announced s) n ≡ b
            → (objects_at at (take n s)).objects ≡ cond b (first_of s ∷ whole_in (n - (2 + announced s)) (objects_at (at + (2 + announced s)) (behind_of s)).objects) []
        go true q =
            let h = leb-true (2 + announced s) n q in
            ap (λ (r : Recording). r.objects) (at-object at (take n s) (whole-kept n s e h))
            ∙ ap₂ ◌∷◌ (first-kept n s e h)
            (ap₂ (λ (i : ℕ) (r : List ℕ). (objects_at (at + (2 + i)) r).objects) (size-kept n s e h) (behind-kept n s e h) ∙ ih (n - (2 + announced s)))
        go false q = ap (λ (r : Recording). r.objects) (at-stop at (take n s) (cut-none n s (leb-false (2 + announced s) n q)))

    stop : (at : ℕ) (s : List ℕ) → whole s ≡ false → Keeps at s
    stop at s e n = rw (at-stop at s e, at-stop at (take n s) (cut_short n s e))

-- ---- how a part ends: none refused exactly where its objects take all of it
stopped-is : (at : ℕ) (s : List ℕ) → stopped at s ≡ cond (eqb (length s) 0) none (some (refusal 24 at))
unfolding stopped
stopped-is at [] = refl
stopped-is at (b ∷ s) = rw (ne_eqb (suc (length s)) 0 (λ e. omega arith))

pub record Ends (at : ℕ) (s : List ℕ) : Type 0 where
  pub inside : taken (objects_at at s).objects ≤ length s
  pub told : (objects_at at s).ends ≡ end_at (at + taken (objects_at at s).objects) (at + length s)

pub ends : (at : ℕ) (s : List ℕ) → Ends at s
unfolding preceded taken end_at
ends = by-objects Ends object stop
  where
    object : (at : ℕ) (s : List ℕ) → whole s ≡ true → Ends (at + (2 + announced s)) (behind_of s) → Ends at s
    object at s e ih =
        let f = whole-fits s e in
        let l = length-behind s in
        let b = ih.inside in
        let t = taken (objects_at (at + (2 + announced s)) (behind_of s)).objects in
        let p : at + (2 + announced s) + t ≡ at + (2 + announced s + t) = omega arith in
        let q : at + (2 + announced s) + length (behind_of s) ≡ at + length s = omega arith in
        record {
          inside = rw (at-object at s e, length-first s e) (omega arith);
          told = rw (at-object at s e, length-first s e, ← p, ← q) ih.told;
        }

    stop : (at : ℕ) (s : List ℕ) → whole s ≡ false → Ends at s
    stop at s e =
        record {
          inside = rw (at-stop at s e) (omega arith);
          told = rw (at-stop at s e) (stopped-is at s ∙ go (eqb (length s) 0) refl);
        }
      where
        z : at + 0 ≡ at
        z = add-zero at

        go : (b : Bool) → eqb (length s) 0 ≡ b → cond b none (some (refusal 24 at)) ≡ cond (eqb (at + length s) (at + 0)) none (some (refusal 24 (at + 0)))
        go true q = let i = eqb-true (length s) 0 q in rw (eq-eqb (at + length s) (at + 0) (omega arith))
        go false q = rw (ne_eqb (at + length s) (at + 0) (λ i. eqb-false (length s) 0 q (omega arith)), z)
