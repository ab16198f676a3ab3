-- A text in chunks of one length from a place on, as `as_chunks` gives them: which octets each has, and what is left behind the last.
use Prim.Native.Nat.{ℕ, zero, suc, ◌+◌, ◌-◌, ◌*◌, ◌/◌, ◌<◌}
use mathlib.Core.Path.{◌≡◌, sym, ap, ◌∙◌}
use mathlib.Core.List.{List, []}
use native.Mathlib.Nat.{le_refl, mul-suc, mul_comm, mul-zero}
use native.Mathlib.Omega.{arith}
use lib.ListN.{length, get_or, take, drop, length-drop}
use lib.Seq.{drop-drop, take-take}
use Rattle.std.specs.Simd.{first_chunks}
use Rattle.octets.proofs.Lists.{part_to_end}

-- the text from a place on, as the code's `&s[at..]` stands
abbrev pub left_from : List ℕ → ℕ → List ℕ
left_from s at = take (length s - at) (drop at s)

chunk-at : (n k i : ℕ) (o : List ℕ) → i < k → get_or (first_chunks n k o) i [] ≡ take n (drop (n * i) o)
chunk-at n zero i o h = absurd (omega arith)
chunk-at n (suc k) zero o h = rw mul-zero
chunk-at n (suc k) (suc i) o h =
    let place : n + n * i ≡ n * suc i = omega (arith, mul-suc n i) in
    chunk-at n k i (drop n o) (omega arith) ∙ ap (take n) (drop-drop (n * i) n o ∙ ap (λ (m : ℕ). drop m o) place)

module _ (n : ℕ) (s : List ℕ) (at : ℕ) (chunks : List (List ℕ))
    (front : chunks ≡ first_chunks n (length (left_from s at) / n) (left_from s at)) (count : length chunks ≡ length (left_from s at) / n) where
  -- the octets of a chunk, as a function says them that looks at the first n of what it is lent
  pub chunk-is : (i : ℕ) → i < length chunks → take n (get_or chunks i []) ≡ take n (drop (at + n * i) s)
  chunk-is i h =
      ap (λ c. take n (get_or c i [])) front ∙ ap (take n) (chunk-at n (length (left_from s at) / n) i (left_from s at) (omega (arith, count)))
      ∙ take-take n n (drop (n * i) (left_from s at)) (le_refl n) ∙ ap (λ o. take n (drop (n * i) o)) (part_to_end s at) ∙ ap (take n) (drop-drop (n * i) at s)

  pub chunks-long : length chunks ≡ (length s - at) / n
  chunks-long = count ∙ ap (λ (m : ℕ). m / n) (ap length (part_to_end s at) ∙ length-drop at s)

  pub behind-is : (rest : List ℕ) → rest ≡ drop (length (left_from s at) / n * n) (left_from s at) → rest ≡ drop (at + n * length chunks) s
  behind-is rest e =
      let place : length (left_from s at) / n * n ≡ n * length chunks = mul_comm (length (left_from s at) / n) n ∙ ap (λ (m : ℕ). n * m) (sym count) in
      e ∙ ap (λ (m : ℕ). drop m (left_from s at)) place ∙ ap (drop (n * length chunks)) (part_to_end s at) ∙ drop-drop (n * length chunks) at s
