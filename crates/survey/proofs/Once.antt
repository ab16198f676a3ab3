-- Two places of an object don't tell the same item: so its place is the only one, also that of the first item that a test picks.
use mathlib.Core.Path.{◌≡◌, refl, sym, ap, ◌∙◌, subst}
use mathlib.Core.Bool.{Bool, true, false}
use mathlib.Core.Logic.{◌↔◌}
use mathlib.Core.Option.{Option, none, some, some-injective, none-ne-some}
use mathlib.Core.List.{List, [], ◌∷◌}
use Prim.Native.Nat.{ℕ, ◌+◌, ◌*◌, ◌≤◌, ◌<◌}
use native.Mathlib.Omega.{arith}
use lib.Dec.{eqb}
use lib.ListN.{length, take, drop, get_or, length-drop}
use lib.Seq.{get_or-drop}
use borrow.Author.Tests.{eqb-true}
use Rattle.octets.specs.Numbers.{value, Octets}
use Rattle.octets.specs.Header.{header_size, body_size}
use Rattle.format.specs.Tree.{Items}
use Rattle.format.specs.Judge.{judge}
use Rattle.format.specs.Judge.Judged.{accepted}
use Rattle.survey.specs.First.{first_in, place_at, item_at, as_item}
use Rattle.survey.proofs.First.{first-told, place-seated}

-- the header of a part, in one of the three forms
data Formed (s : List ℕ) : Type 0 where
  short : header_size s ≡ 2 → body_size s ≡ get_or s 1 0 → Formed s
  middle : header_size s ≡ 4 → get_or s 1 0 ≡ 0xFE → body_size s ≡ get_or s 2 0 * 256 + get_or s 3 0 → Formed s
  long : header_size s ≡ 5 → get_or s 1 0 ≡ 0xFF → body_size s ≡ get_or s 2 0 * 65_536 + get_or s 3 0 * 256 + get_or s 4 0 → Formed s

two : (s : List ℕ) → 4 ≤ length s → value (take 2 (drop 2 s)) ≡ get_or s 2 0 * 256 + get_or s 3 0
unfolding value
two [] l = absurd (omega arith)
two (a ∷ []) l = absurd (omega arith)
two (a ∷ b ∷ []) l = absurd (omega arith)
two (a ∷ b ∷ c ∷ []) l = absurd (omega arith)
two (a ∷ b ∷ c ∷ e ∷ s) l = omega arith

three : (s : List ℕ) → 5 ≤ length s → value (take 3 (drop 2 s)) ≡ get_or s 2 0 * 65_536 + get_or s 3 0 * 256 + get_or s 4 0
unfolding value
three [] l = absurd (omega arith)
three (a ∷ []) l = absurd (omega arith)
three (a ∷ b ∷ []) l = absurd (omega arith)
three (a ∷ b ∷ c ∷ []) l = absurd (omega arith)
three (a ∷ b ∷ c ∷ e ∷ []) l = absurd (omega arith)
three (a ∷ b ∷ c ∷ e ∷ f ∷ s) l = omega arith

is-middle : (s : List ℕ) → eqb (get_or s 1 0) 0xFE ≡ true → (header_size s ≡ 4) × (body_size s ≡ value (take 2 (drop 2 s)))
unfolding header_size body_size
is-middle s e = (rw e, rw e)

is-long : (s : List ℕ) → eqb (get_or s 1 0) 0xFE ≡ false → eqb (get_or s 1 0) 0xFF ≡ true → (header_size s ≡ 5) × (body_size s ≡ value (take 3 (drop 2 s)))
unfolding header_size body_size
is-long s e f = (rw (e, f), rw (e, f))

is-short : (s : List ℕ) → eqb (get_or s 1 0) 0xFE ≡ false → eqb (get_or s 1 0) 0xFF ≡ false → (header_size s ≡ 2) × (body_size s ≡ get_or s 1 0)
unfolding header_size body_size
is-short s e f = (rw (e, f), rw (e, f))

formed : (s : List ℕ) → header_size s ≤ length s → Formed s
formed s l = go (eqb (get_or s 1 0) 0xFE) (eqb (get_or s 1 0) 0xFF) refl refl
  where
    go : (p q : Bool) → eqb (get_or s 1 0) 0xFE ≡ p → eqb (get_or s 1 0) 0xFF ≡ q → Formed s
    go true q e f = middle (is-middle s e).0 (eqb-true (get_or s 1 0) 0xFE e) ((is-middle s e).1 ∙ two s (omega (arith, l, (is-middle s e).0)))
    go false true e f = long (is-long s e f).0 (eqb-true (get_or s 1 0) 0xFF f) ((is-long s e f).1 ∙ three s (omega (arith, l, (is-long s e f).0)))
    go false false e f = short (is-short s e f).0 (is-short s e f).1

-- a shorter header of the same item can't lie inside a longer one
module _ (o : List ℕ) (os : Octets o) (p q : ℕ) (same : get_or o p 0 ≡ get_or o q 0) (tagged : 0 < get_or o p 0) where
  -- the octet of a place, from another place on
  read : (i j : ℕ) → p + i ≡ q + j → get_or (drop p o) i 0 ≡ get_or (drop q o) j 0
  read i j e = get_or-drop p o i 0 ∙ ap (λ n. get_or o n 0) e ∙ sym (get_or-drop q o j 0)

  first : (i : ℕ) → q ≡ p + i → get_or (drop p o) i 0 ≡ get_or o p 0
  first i e = get_or-drop p o i 0 ∙ ap (λ n. get_or o n 0) (sym e) ∙ sym same

  low : (i : ℕ) → get_or (drop q o) i 0 < 256
  low i = subst (λ n. n < 256) (sym (get_or-drop q o i 0)) (os (q + i))

  middle-short : q ≡ p + 2 → get_or (drop p o) 2 0 * 256 + get_or (drop p o) 3 0 ≡ get_or (drop q o) 1 0 → ⊥
  middle-short e n = omega (arith, n, first 2 e, read 3 1 (omega arith), tagged)

  long-short : q ≡ p + 3 → get_or (drop p o) 2 0 * 65_536 + get_or (drop p o) 3 0 * 256 + get_or (drop p o) 4 0 ≡ get_or (drop q o) 1 0 → ⊥
  long-short e n = omega (arith, n, first 3 e, read 4 1 (omega arith), tagged)

  long-middle : q ≡ p + 1 → get_or (drop q o) 1 0 ≡ 0xFE
      → get_or (drop p o) 2 0 * 65_536 + get_or (drop p o) 3 0 * 256 + get_or (drop p o) 4 0 ≡ get_or (drop q o) 2 0 * 256 + get_or (drop q o) 3 0 → ⊥
  long-middle e f n = omega (arith, n, f, read 2 1 (omega arith), low 2, low 3)

module _ (o : List ℕ) (os : Octets o) (p q : ℕ) (same : get_or o p 0 ≡ get_or o q 0) (begins : p + header_size (drop p o) ≡ q + header_size (drop q o)) (sizes : body_size (drop p o) ≡ body_size (drop q o)) (tagged : 0 < get_or o p 0) where
  other : 0 < get_or o q 0
  other = omega (arith, same, tagged)

  one_form : Formed (drop p o) → Formed (drop q o) → p ≡ q
  one_form (short a b) (short c d) = omega (arith, a, c, begins)
  one_form (middle a x b) (middle c y d) = omega (arith, a, c, begins)
  one_form (long a x b) (long c y d) = omega (arith, a, c, begins)
  one_form (middle a x b) (short c d) = absurd (middle-short o os p q same tagged (omega (arith, a, c, begins)) (sym b ∙ sizes ∙ d))
  one_form (long a x b) (short c d) = absurd (long-short o os p q same tagged (omega (arith, a, c, begins)) (sym b ∙ sizes ∙ d))
  one_form (long a x b) (middle c y d) = absurd (long-middle o os p q same tagged (omega (arith, a, c, begins)) y (sym b ∙ sizes ∙ d))
  one_form (short a b) (middle c y d) = absurd (middle-short o os q p (sym same) other (omega (arith, a, c, begins)) (sym d ∙ sym sizes ∙ b))
  one_form (short a b) (long c y d) = absurd (long-short o os q p (sym same) other (omega (arith, a, c, begins)) (sym d ∙ sym sizes ∙ b))
  one_form (middle a x b) (long c y d) = absurd (long-middle o os q p (sym same) other (omega (arith, a, c, begins)) x (sym d ∙ sym sizes ∙ b))

place-one : (o : List ℕ) → Octets o → (p q : ℕ) → item_at o p ≡ item_at o q → 0 < get_or o p 0 → p + header_size (drop p o) ≤ length o → p ≡ q
place-one o os p q e t l =
    let b = ap (λ x. x.1) e in
    one_form o os p q (ap (λ x. x.0) e) b (ap (λ x. x.2) e) t
    (formed (drop p o) (omega (arith, l, length-drop p o)))
    (formed (drop q o) (omega (arith, l, b, length-drop q o)))

-- the first item of a tree that a test picks, by its place in the object
pub first-place : (P : ℕ → ℕ → Bool) (o : List ℕ) → Octets o → (t : Items) → judge o ≡ accepted t → (place : ℕ) → place_at P o ≡ some place ↔ first_in P 0 t ≡ some (item_at o place)
unfolding as_item
first-place P o os t h place = (
  (λ e. first-told P o t h ∙ ap (as_item o) e),
  (λ e. go (place_at P o) refl (sym (first-told P o t h) ∙ e)),
)
  where
    go : (p : Option ℕ) → place_at P o ≡ p → as_item o (place_at P o) ≡ some (item_at o place) → place_at P o ≡ some place
    go none q e = absurd (none-ne-some _ (sym (ap (as_item o) q) ∙ e))
    go (some p) q e =
        let s = place-seated P o t h p q in
        let same : item_at o p ≡ item_at o place = some-injective _ _ (sym (ap (as_item o) q) ∙ e) in
        q ∙ ap some (place-one o os p place same s.tagged s.fits)
