-- A recording that is made is read back, and is the only one with its objects.
use mathlib.Core.Path.{◌≡◌, refl, sym, ap, ap₂, subst, ◌∙◌}
use mathlib.Core.Bool.{true, false}
use mathlib.Core.Option.{none}
use mathlib.Core.List.{List, [], ◌∷◌, ◌++◌, append_assoc}
use Prim.Native.Nat.{ℕ, ◌+◌, ◌^◌, ◌≤◌, ◌<◌}
use native.Mathlib.Omega.{arith}
use lib.ListN.{length, take, drop, length-append, length-take, take-append-drop, drop_of_length-le}
use lib.Seq.{take_at, drop_at, drop-drop, take-length}
use Rattle.octets.specs.Numbers.{value, digits, Octets}
use Rattle.octets.proofs.Numbers.{length_digits, value-digits, digits_value, octets-take, octets-drop}
use Rattle.recording.specs.Recording.{run, Recording, announced, whole, first_of, behind_of, stopped, preceded, objects_at}
use Rattle.recording.specs.Theorems.{AllSized}
use Rattle.recording.proofs.Walk.{whole-fits, fits_whole, short-part, length-first, at-object, at-stop, by-objects, whole_append, first-append, behind-append, size-append}

-- ---- one object with its size
module _ (b : List ℕ) (h : length b < 256 ^ 2) where
  size-sized : announced (digits 2 (length b) ++ b) ≡ length b
  unfolding announced
  size-sized = ap value (take_at (digits 2 (length b)) b 2 (length_digits 2 (length b))) ∙ value-digits 2 (length b) h

  length-sized : length (digits 2 (length b) ++ b) ≡ 2 + length b
  length-sized = length-append (digits 2 (length b)) b ∙ ap (λ (n : ℕ). n + length b) (length_digits 2 (length b))

  whole-sized : whole (digits 2 (length b) ++ b) ≡ true
  whole-sized = let z = size-sized in let l = length-sized in fits_whole (digits 2 (length b) ++ b) (omega arith)

  first-sized : first_of (digits 2 (length b) ++ b) ≡ b
  first-sized =
      ap (λ (n : ℕ). take n (drop 2 (digits 2 (length b) ++ b))) size-sized
      ∙ ap (take (length b)) (drop_at (digits 2 (length b)) b 2 (length_digits 2 (length b)))
      ∙ take-length b

  behind-sized : behind_of (digits 2 (length b) ++ b) ≡ []
  behind-sized = let z = size-sized in let l = length-sized in drop_of_length-le (digits 2 (length b) ++ b) {i = 2 + announced (digits 2 (length b) ++ b)} (omega arith)

  pub reads_sized : (at : ℕ) (rest : List ℕ) → objects_at at ((digits 2 (length b) ++ b) ++ rest) ≡ preceded b (objects_at (at + (2 + length b)) rest)
  reads_sized at rest =
      let w = whole-sized in
      let s = digits 2 (length b) ++ b in
      at-object at (s ++ rest) (whole_append s rest w)
      ∙ ap₂ preceded (first-append s rest w ∙ first-sized)
      (ap₂ (λ (n : ℕ) (r : List ℕ). objects_at (at + (2 + n)) r) (size-append s rest (rw length-sized (omega arith)) ∙ size-sized) (behind-append s rest w ∙ ap (λ (r : List ℕ). r ++ rest) behind-sized))

pub reads-run : (objects : List (List ℕ)) → AllSized objects → (at : ℕ) → objects_at at (run objects) ≡ record { objects = objects; ends = none }
unfolding run preceded stopped
reads-run [] h at = at-stop at [] (short-part [] (omega arith))
reads-run (b ∷ bs) h at = reads_sized b h.0 at (run bs) ∙ ap (preceded b) (reads-run bs h.1 (at + (2 + length b)))

-- ---- octets that end without refusal
abbrev Only : ℕ → List ℕ → Type 0
Only at s = Octets s → (objects_at at s).ends ≡ none → s ≡ run (objects_at at s).objects

two-octets : (s : List ℕ) → Octets s → 2 ≤ length s → digits 2 (announced s) ≡ take 2 s
unfolding announced
two-octets s os h =
    let l : length (take 2 s) ≡ 2 = rw length-take (omega arith) in
    subst (λ (n : ℕ). digits n (value (take 2 s)) ≡ take 2 s) l (digits_value (take 2 s) (octets-take 2 s os))

split-first : (s : List ℕ) → s ≡ (take 2 s ++ first_of s) ++ behind_of s
split-first s =
    sym (take-append-drop 2 s)
    ∙ ap (λ (r : List ℕ). take 2 s ++ r) (sym (take-append-drop (announced s) (drop 2 s)) ∙ ap (λ (r : List ℕ). first_of s ++ r) (drop-drop (announced s) 2 s))
    ∙ sym (append_assoc (take 2 s) (first_of s) (behind_of s))

pub only-run : (at : ℕ) (s : List ℕ) → Octets s → (objects_at at s).ends ≡ none → s ≡ run (objects_at at s).objects
unfolding run preceded stopped
only-run = by-objects Only object stop
  where
    object : (at : ℕ) (s : List ℕ) → whole s ≡ true → Only (at + (2 + announced s)) (behind_of s) → Only at s
    object at s e ih os q =
        let f = whole-fits s e in
        let p = ap (λ (r : Recording). r.ends) (at-object at s e) in
        let again = ih (octets-drop (2 + announced s) s os) (sym p ∙ q) in
        let d : digits 2 (length (first_of s)) ≡ take 2 s = ap (digits 2) (length-first s e) ∙ two-octets s os (omega arith) in
        split-first s ∙ ap₂ (λ (a r : List ℕ). (a ++ first_of s) ++ r) (sym d) again ∙ sym (ap (λ (r : Recording). run r.objects) (at-object at s e))

    stop : (at : ℕ) (s : List ℕ) → whole s ≡ false → Only at s
    stop at s e os q = none_left s (sym (ap (λ (r : Recording). r.ends) (at-stop at s e)) ∙ q) ∙ sym (ap (λ (r : Recording). run r.objects) (at-stop at s e))
      where
        none_left : (s : List ℕ) → stopped at s ≡ none → s ≡ []
        none_left [] g = refl
        none_left (b ∷ bs) g = let z : ◌≡◌ {A = ℕ} 0 1 = cc in absurd (omega arith)
