-- 'A child of equal meaning': what the test among elements says.
use mathlib.Core.Path.{◌≡◌, refl}
use mathlib.Core.Logic.{◌⊎◌, inl, inr, ◌↔◌}
use mathlib.Core.Bool.{Bool, true, ◌&&◌, ◌||◌, false≢true}
use mathlib.Core.Option.{Option, none, some}
use mathlib.Core.List.{List}
use Prim.Native.Nat.{ℕ, zero, suc}
use lib.Dec.{eqb}
use borrow.Author.Tests.{eqb-true, eq-eqb}
use Rattle.values.specs.Values.{Value}
use Rattle.format.specs.Judge.{stage_after}
use Rattle.format.specs.Meaning.{Meaning}
use Rattle.format.specs.Meaning.Meaning.{nothing, element, leaf}
use Rattle.format.specs.Same.{same_octets, same_maybe, same_attributes, same_meaning}
use Rattle.format.specs.WellFormed.{WellFormed}
use Rattle.octets.proofs.Tests.{and_left, or_elim, or_left}
use Rattle.format.proofs.Same.{octets-same, meaning-exactly}
use Rattle.merge.specs.Keys.{has_equal}
use Rattle.merge.specs.Merged.{then}
use Rattle.merge.specs.Kept.{IsOne}
use Rattle.merge.proofs.Keys.{or_right, value_same}

-- ---- any meaning is the same as itself

attributes-same : (k a : ℕ) (f : ℕ → Option Value) → same_attributes k a f f ≡ true
unfolding same_attributes
attributes-same zero a f = refl
attributes-same (suc k) a f = rw (value_same (f a)) (attributes-same k (suc a) f)

cdata-same : (c : Option (List ℕ)) → same_maybe same_octets c c ≡ true
unfolding same_maybe
cdata-same none = refl
cdata-same (some o) = octets-same o

pub meaning-same : (m : Meaning) → same_meaning m m ≡ true
unfolding same_meaning
meaning-same nothing = refl
meaning-same (element tag f m c after) = rw (eq-eqb tag tag refl, attributes-same 128 0x80 f, cdata-same c, meaning-same m) (meaning-same after)
meaning-same (leaf tag o after) = rw (eq-eqb tag tag refl, octets-same o) (meaning-same after)

-- ---- the first tag of elements, and that it is the same where they mean the same

abbrev pub tag_of : Meaning → ℕ
tag_of nothing = 0
tag_of (element tag f m c after) = tag
tag_of (leaf tag o after) = tag

pub same_tag : (m n : Meaning) → same_meaning m n ≡ true → tag_of m ≡ tag_of n
unfolding same_meaning
same_tag nothing nothing h = refl
same_tag nothing (element tag' g n d more) h = absurd (false≢true h)
same_tag nothing (leaf tag' p more) h = absurd (false≢true h)
same_tag (element tag f m c after) nothing h = absurd (false≢true h)
same_tag (element tag f m c after) (element tag' g n d more) h =
    let inner = same_attributes 128 0x80 f g && same_maybe same_octets c d && same_meaning m n in
    eqb-true tag tag' (and_left (eqb tag tag') inner (and_left (eqb tag tag' && inner) (same_meaning after more) h))
same_tag (element tag f m c after) (leaf tag' p more) h = absurd (false≢true h)
same_tag (leaf tag o after) nothing h = absurd (false≢true h)
same_tag (leaf tag o after) (element tag' g n d more) h = absurd (false≢true h)
same_tag (leaf tag o after) (leaf tag' p more) h =
    eqb-true tag tag' (and_left (eqb tag tag') (same_octets o p) (and_left (eqb tag tag' && same_octets o p) (same_meaning after more) h))

-- ---- among elements

pub equal-here : (tag : ℕ) (f : ℕ → Option Value) (m : Meaning) (c : Option (List ℕ)) (after : Meaning) → has_equal (element tag f m c nothing) (element tag f m c after) ≡ true
unfolding has_equal
equal-here tag f m c after =
    let one = element tag f m c nothing in
    or_left (same_meaning one one) (has_equal one after) (meaning-same one)

pub equal-leaf : (tag : ℕ) (o : List ℕ) (after : Meaning) → has_equal (leaf tag o nothing) (leaf tag o after) ≡ true
unfolding has_equal
equal-leaf tag o after =
    let one = leaf tag o nothing in
    or_left (same_meaning one one) (has_equal one after) (meaning-same one)

pub equal-behind : (one l n : Meaning) → has_equal one n ≡ true → has_equal one (then l n) ≡ true
unfolding has_equal then
equal-behind one nothing n h = h
equal-behind one (element t g x c after) n h = or_right (same_meaning one (element t g x c nothing)) (has_equal one (then after n)) (equal-behind one after n h)
equal-behind one (leaf t p after) n h = or_right (same_meaning one (leaf t p nothing)) (has_equal one (then after n)) (equal-behind one after n h)

pub equal-before : (one l n : Meaning) → has_equal one l ≡ true → has_equal one (then l n) ≡ true
unfolding has_equal then
equal-before one nothing n h = absurd (false≢true h)
equal-before one (element t g x c after) n h =
    let this = same_meaning one (element t g x c nothing) in
    or_elim this (has_equal one after) (λ q. or_left this (has_equal one (then after n)) q) (λ q. or_right this (has_equal one (then after n)) (equal-before one after n q)) h
equal-before one (leaf t p after) n h =
    let this = same_meaning one (leaf t p nothing) in
    or_elim this (has_equal one after) (λ q. or_left this (has_equal one (then after n)) q) (λ q. or_right this (has_equal one (then after n)) (equal-before one after n q)) h

either-exactly : {A B : Type 0} {a b : Bool} → a ≡ true ↔ A → b ≡ true ↔ B → (a || b) ≡ true ↔ (A ⊎ B)
either-exactly {A} {B} {a} {b} p q = (or_elim a b (λ h. inl (p.0 h)) (λ h. inr (q.0 h)), back)
  where
    back : A ⊎ B → (a || b) ≡ true
    back (inl x) = or_left a b (p.1 x)
    back (inr y) = or_right a b (q.1 y)

-- among elements that an object can have, the test finds an element exactly when it is one of them
pub equal-exactly : (one : Meaning) (p d s p' d' s' : ℕ) (n : Meaning) → WellFormed p d s one → WellFormed p' d' s' n → has_equal one n ≡ true ↔ IsOne one n
unfolding has_equal
equal-exactly one p d s p' d' s' nothing ok ok_n = ((λ h. absurd (false≢true h)), (λ h. absurd h))
equal-exactly one p d s p' d' s' (element tag f m c after) ok ok_n =
    let this = meaning-exactly one (element tag f m c nothing) p d s p' d' s' ok (ok_n.0, ok_n.1, ok_n.2, ok_n.3, ok_n.4, tt) in
    let later = equal-exactly one p d s p' d' (stage_after tag) after ok ok_n.5 in
    either-exactly this later
equal-exactly one p d s p' d' s' (leaf tag o after) ok ok_n =
    let this = meaning-exactly one (leaf tag o nothing) p d s p' d' s' ok (ok_n.0, ok_n.1, tt) in
    let later = equal-exactly one p d s p' d' (stage_after tag) after ok ok_n.2 in
    either-exactly this later
