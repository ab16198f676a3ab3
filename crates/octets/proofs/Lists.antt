-- Laws of lists beyond lib.Seq and lib.ListN, for this crate and those above: a list laid over another at a place (`sets`), and parts of parts. What a place
-- outside the list would take is lost, so most laws ask nothing.
use mathlib.Core.Path.{◌≡◌, refl, sym, ap, ◌∙◌}
use mathlib.Core.Bool.{Bool, true, false}
use mathlib.Core.List.{List, [], ◌∷◌, ◌++◌, append_assoc}
use Prim.Native.Nat.{ℕ, zero, suc, ◌+◌, ◌-◌, ◌≤◌, ◌<◌, min}
use native.Mathlib.Nat.{add-zero, add-suc, suc-add, le_refl}
use native.Mathlib.Numerals.{add-one}
use native.Mathlib.Omega.{arith}
use lib.Dec.{leb}
use lib.ListN.{length, get_or, set, take, drop, length-drop, length-set}
use lib.Seq.{sets, sets-eq, set-set, set_comm, set_out, drop-set-lt, set-append_left, get_or-set_other, take_all, take-nil, drop-nil, drop-drop, take-add, take-suc, drop-cons, get_or-take, get_or-drop, drop_at, length-take-le, take-append_seam}
use borrow.Author.Tests.{leb-true, leb-false}
use Rattle.std.specs.List.{copy_within}

module _ {ℓ} {A : Type ℓ} where
  -- ---- laid over a list

  pub sets-append : (l : List A) (i : ℕ) (a b : List A) → sets (sets l i a) (i + length a) b ≡ sets l i (a ++ b)
  sets-append l i [] b = ap (λ (n : ℕ). sets l n b) (add-zero i)
  sets-append l i (x ∷ a) b = ap (λ (n : ℕ). sets (sets (set l i x) (suc i) a) n b) (add-suc i (length a) ∙ sym (suc-add i (length a))) ∙ sets-append (set l i x) (suc i) a b

  -- nothing, one element, and one more behind
  pub sets-none : (l : List A) (i : ℕ) → sets l i [] ≡ l
  sets-none l i = refl

  pub sets_last : (l : List A) (i : ℕ) (a : List A) (x : A) → sets l i (a ++ (x ∷ [])) ≡ set (sets l i a) (i + length a) x
  sets_last l i a x = sym (sets-append l i a (x ∷ []))

  -- behind the first element
  pub sets-cons : (x : A) (l : List A) (i : ℕ) (a : List A) → sets (x ∷ l) (suc i) a ≡ x ∷ sets l i a
  sets-cons x l i [] = refl
  sets-cons x l i (y ∷ a) = sets-cons x (set l i y) (suc i) a

  pub sets-out : (l : List A) (i : ℕ) (a : List A) → length l ≤ i → sets l i a ≡ l
  sets-out l i [] h = refl
  sets-out l i (x ∷ a) h = ap (λ (m : List A). sets m (suc i) a) (set_out l i x h) ∙ sets-out l (suc i) a (omega arith)

  -- what lies behind what is laid, and before the place, is as it was
  pub drop-sets : (n : ℕ) (l : List A) (i : ℕ) (a : List A) → i + length a ≤ n → drop n (sets l i a) ≡ drop n l
  drop-sets n l i [] h = refl
  drop-sets n l i (x ∷ a) h = drop-sets n (set l i x) (suc i) a (omega arith) ∙ drop-set-lt n l i x (omega arith)

  pub get_d_sets_before : (l : List A) (i : ℕ) (a : List A) (k : ℕ) (d : A) → k < i → get_or (sets l i a) k d ≡ get_or l k d
  get_d_sets_before l i [] k d h = refl
  get_d_sets_before l i (x ∷ a) k d h = get_d_sets_before (set l i x) (suc i) a k d (omega arith) ∙ get_or-set_other l i k x d (λ e. omega arith)

  -- laid over the first of two lists
  pub sets-left : (a b : List A) (i : ℕ) (c : List A) → i + length c ≤ length a → sets (a ++ b) i c ≡ sets a i c ++ b
  sets-left a b i [] h = refl
  sets-left a b i (x ∷ c) h = ap (λ (m : List A). sets m (suc i) c) (set-append_left a b i x (omega arith)) ∙ sets-left (set a i x) b (suc i) c (simp length-set (omega arith))

  -- the part that was laid
  pub part-of-sets : (l : List A) (i : ℕ) (a : List A) → i + length a ≤ length l → take (length a) (drop i (sets l i a)) ≡ a
  part-of-sets l i a h =
      ap (λ (m : List A). take (length a) (drop i m)) (sets-eq a l i h ∙ append_assoc (take i l) a (drop (i + length a) l))
      ∙ ap (take (length a)) (drop_at (take i l) (a ++ drop (i + length a) l) i (length-take-le i l (omega arith)))
      ∙ take-append_seam a (drop (i + length a) l)

  -- from the start
  pub sets-start : (l a : List A) → sets l 0 a ≡ take (length l) a ++ drop (length a) l
  sets-start l [] = ap (λ (m : List A). m ++ l) (sym (take-nil (length l)))
  sets-start [] (x ∷ a) = sets-out [] 1 a (omega arith)
  sets-start (y ∷ l) (x ∷ a) = sets-cons x l 0 a ∙ ap (λ (m : List A). x ∷ m) (sets-start l a)

  -- two layings: apart, in any order; where the second covers the first, as at the same place where it is as long
  pub set-sets : (l : List A) (i : ℕ) (a : List A) (j : ℕ) (x : A) → j < i → set (sets l i a) j x ≡ sets (set l j x) i a
  set-sets l i [] j x h = refl
  set-sets l i (y ∷ a) j x h = set-sets (set l i y) (suc i) a j x (omega arith) ∙ ap (λ (m : List A). sets m (suc i) a) (set_comm l i j y x (λ e. omega arith))

  pub sets-comm : (l : List A) (i : ℕ) (a : List A) (j : ℕ) (b : List A) → i + length a ≤ j → sets (sets l i a) j b ≡ sets (sets l j b) i a
  sets-comm l i [] j b h = refl
  sets-comm l i (x ∷ a) j b h = sets-comm (set l i x) (suc i) a j b (omega arith) ∙ ap (λ (m : List A). sets m (suc i) a) (sym (set-sets l j b i x (omega arith)))

  set-covered : (l : List A) (i : ℕ) (x : A) (j : ℕ) (b : List A) → j ≤ i → i < j + length b → sets (set l i x) j b ≡ sets l j b
  set-covered l i x j [] h k = absurd (omega arith)
  set-covered l i x j (y ∷ b) h k = go (leb i j) refl (λ lt. set-covered (set l j y) i x (suc j) b lt (omega arith))
    where
      go : (t : Bool) → leb i j ≡ t → (j < i → sets (set (set l j y) i x) (suc j) b ≡ sets (set l j y) (suc j) b) → sets (set l i x) j (y ∷ b) ≡ sets l j (y ∷ b)
      go true e ih = let w : i ≡ j = omega (arith, leb-true i j e) in ap (λ (m : List A). sets m (suc j) b) (ap (λ (n : ℕ). set (set l n x) j y) w ∙ set-set l j x y)
      go false e ih = let w = leb-false i j e in ap (λ (m : List A). sets m (suc j) b) (set_comm l i j x y (λ q. omega arith)) ∙ ih w

  pub sets-covered : (l : List A) (i : ℕ) (a : List A) (j : ℕ) (b : List A) → j ≤ i → i + length a ≤ j + length b → sets (sets l i a) j b ≡ sets l j b
  sets-covered l i [] j b h k = refl
  sets-covered l i (x ∷ a) j b h k = sets-covered (set l i x) (suc i) a j b (omega arith) (omega arith) ∙ set-covered l i x j b h (omega arith)

  pub sets_over : (l : List A) (i : ℕ) (a b : List A) → length a ≤ length b → sets (sets l i a) i b ≡ sets l i b
  sets_over l i a b h = sets-covered l i a i b (le_refl i) (omega arith)

  -- laying what lies there
  pub sets_same : (l : List A) (i n : ℕ) → sets l i (take n (drop i l)) ≡ l
  sets_same [] i n = ap (λ (a : List A). sets [] i (take n a)) (drop-nil i) ∙ ap (sets [] i) (take-nil n)
  sets_same (x ∷ l) zero zero = refl
  sets_same (x ∷ l) zero (suc n) = sets-cons x l 0 (take n l) ∙ ap (λ (m : List A). x ∷ m) (sets_same l 0 n)
  sets_same (x ∷ l) (suc i) n = sets-cons x l i (take n (drop i l)) ∙ ap (λ (m : List A). x ∷ m) (sets_same l i n)

  -- ---- parts of parts

  pub take-of-take : (m n : ℕ) (l : List A) → take m (take n l) ≡ take (min m n) l
  take-of-take zero n l = let e : 0 ≡ min 0 n = omega arith in ap (λ (k : ℕ). take k l) e
  take-of-take (suc m) zero l = let e : 0 ≡ min (suc m) 0 = omega arith in ap (λ (k : ℕ). take k l) e
  take-of-take (suc m) (suc n) [] = sym (take-nil (min (suc m) (suc n)))
  take-of-take (suc m) (suc n) (x ∷ l) = let e : suc (min m n) ≡ min (suc m) (suc n) = omega arith in ap (λ (r : List A). x ∷ r) (take-of-take m n l) ∙ ap (λ (k : ℕ). take k (x ∷ l)) e

  -- a part up to the end, as the code's `&part[at..]` stands
  pub part_to_end : (l : List A) (i : ℕ) → take (length l - i) (drop i l) ≡ drop i l
  part_to_end l i = take_all (length l - i) (drop i l) (rw length-drop (le_refl (length l - i)))

  pub part-split : (l : List A) (i n m : ℕ) → take (n + m) (drop i l) ≡ take n (drop i l) ++ take m (drop (i + n) l)
  part-split l i n m = take-add n m (drop i l) ∙ ap (λ (r : List A). take n (drop i l) ++ take m r) (drop-drop n i l)

  pub length_part : (l : List A) (i n : ℕ) → i + n ≤ length l → length (take n (drop i l)) ≡ n
  length_part l i n h = length-take-le n (drop i l) (rw length-drop (omega arith))

  pub get_d_part : (l : List A) (i n k : ℕ) (d : A) → k < n → get_or (take n (drop i l)) k d ≡ get_or l (i + k) d
  get_d_part l i n k d h = get_or-take n (drop i l) k d h ∙ get_or-drop i l k d

  -- the first element of a part
  pub get_d-here : (l : List A) (i : ℕ) (d : A) → get_or (drop i l) 0 d ≡ get_or l i d
  get_d-here l i d = get_or-drop i l 0 d ∙ ap (λ (n : ℕ). get_or l n d) (add-zero i)

  -- one element more, at the code's i + 1
  pub drop-next : (l : List A) (i : ℕ) (d : A) → i < length l → drop i l ≡ get_or l i d ∷ drop (i + 1) l
  drop-next l i d h = drop-cons l i d h ∙ ap (λ (n : ℕ). get_or l i d ∷ drop n l) (sym (add-one i))

  pub take_next : (l : List A) (i : ℕ) (d : A) → i < length l → take (i + 1) l ≡ take i l ++ (get_or l i d ∷ [])
  take_next l i d h = ap (λ (n : ℕ). take n l) (add-one i) ∙ take-suc l i d h

-- ---- the library's copy of a part between two places to another place
module _ {A : Type 0} where
  pub copy_within-sets : (l : List A) (from end to : ℕ) → end ≤ length l → to + (end - from) ≤ length l → copy_within l from end to ≡ sets l to (take (end - from) (drop from l))
  copy_within-sets l from end to h k =
      let n : length (take (end - from) (drop from l)) ≡ end - from = length-take-le (end - from) (drop from l) (omega (arith, length-drop from l)) in
      sym (rw n at (sets-eq (take (end - from) (drop from l)) l to (omega arith)))
