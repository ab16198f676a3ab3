-- The limit of rule 13, as the code that asks for it uses it.
use mathlib.Core.Path.{◌≡◌, refl, sym, ◌∙◌, ap}
use mathlib.Core.Bool.{Bool, true, false, not, cond, ◌||◌}
use mathlib.Core.Option.{Option, none, some}
use Prim.Native.Nat.{ℕ, ◌<◌, min}
use native.Mathlib.Nat.{min-eq_left, min-eq_right}
use native.Mathlib.Omega.{arith}
use lib.Dec.{eqb, leb}
use borrow.Author.Tests.{ne_eqb, leb-true, leb-false, lt-leb}
use Rattle.octets.specs.declared.counts.Characters.{Characters}
use Rattle.octets.specs.Counts.{as_characters}
use Rattle.format.specs.Judge.{limit, not_above, shown}

-- only CDATA has a limit
pub short-other : (parent tag : ℕ) (n : Characters) → (tag ≡ 1 → ⊥) → true ≡ shown parent tag n
unfolding shown
short-other parent tag n h = rw (ne_eqb tag 1 h)

-- characters that are counted up to more than each limit keep to a limit as all of them do
Below : ℕ → Option Characters → Type 0
Below most none = Unit {0}
Below most (some m) = m.0 < most

limit-below : (parent : ℕ) → Below 32_769 (limit parent)
unfolding limit Below
limit-below parent = go (eqb parent 0x10) (eqb parent 0x11) (eqb parent 0x12) (eqb parent 0x1A) (eqb parent 0x1B)
  where
    go : (a b c d e : Bool) → Below 32_769 (cond a (some (as_characters 8)) (cond b (some (as_characters 16)) (cond c (some (as_characters 128)) (cond d (some (as_characters 180)) (cond e (some (as_characters 1_200)) none)))))
    go true b c d e = omega arith
    go false true c d e = omega arith
    go false false true d e = omega arith
    go false false false true e = omega arith
    go false false false false true = omega arith
    go false false false false false = tt

capped-leb : (most n m : ℕ) → m < most → leb (min most n) m ≡ leb n m
capped-leb most n m h = go (leb n most) refl
  where
    go : (b : Bool) → leb n most ≡ b → leb (min most n) m ≡ leb n m
    go true e = ap (λ (k : ℕ). leb k m) (min-eq_right (leb-true n most e))
    go false e =
        let past : most < n = omega (arith, leb-false n most e) in
        ap (λ (k : ℕ). leb k m) (min-eq_left (omega arith)) ∙ lt-leb most m h ∙ sym (lt-leb n m (omega arith))

capped-above : (most : ℕ) (n : Characters) (o : Option Characters) → Below most o → not_above (as_characters (min most n.0)) o ≡ not_above n o
unfolding not_above Below
capped-above most n none h = refl
capped-above most n (some m) h = capped-leb most n.0 m.0 h

pub capped-shown : (parent tag : ℕ) (n : Characters) → shown parent tag (as_characters (min 32_769 n.0)) ≡ shown parent tag n
unfolding shown
capped-shown parent tag n = ap (λ b. not (eqb tag 1) || b) (capped-above 32_769 n (limit parent) (limit-below parent))
