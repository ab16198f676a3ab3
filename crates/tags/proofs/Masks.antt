-- The mask of known attributes: the code's tests of it, and that it tells which tags were seen.
use mathlib.Core.Path.{◌≡◌, refl, sym, ap, ◌∙◌}
use mathlib.Core.Bool.{Bool, true, false, cond, ◌&&◌, ◌||◌, false≢true, and-false}
use mathlib.Core.Option.{Option, none, some}
use mathlib.Core.List.{List, [], ◌∷◌}
use Prim.Native.Nat.{ℕ, ◌-◌, ◌*◌, ◌/◌, ◌%◌, ◌^◌, ◌≤◌, ◌<◌}
use native.Mathlib.Omega.{arith}
use native.Mathlib.Nat.{one-mul}
use lib.Dec.{eqb, leb}
use lib.Bits.{bit_or, bit_and}
use lib.Pow.{shl_exact}
use borrow.Author.Tests.{le-leb, lt-leb, eq-eqb, ne_eqb, eqb-false, eqb-true, ltb-false, leb-true, leb-false}
use Rattle.octets.specs.Numbers.{among}
use Rattle.text.specs.Weighing.{bit}
use Rattle.text.proofs.Masks.{bit_test, bit-more, bit-none}
use Rattle.values.specs.declared.Kind.{Kind}
use Rattle.values.specs.Table.{rows, known, attribute}
use Rattle.values.proofs.Known.{row-holds, attribute-high}
use Rattle.format.specs.Judge.{is_known}
use Rattle.tags.specs.Rules.{has_bit, with_bit, Seen}

pub one_shifted : (k : ℕ) → k < 64 → 1 * 2 ^ k % 2 ^ 64 ≡ 2 ^ k
one_shifted k h = shl_exact 1 k 64 (omega arith) (omega arith) ∙ one-mul (2 ^ k)

bit_below : (mask tag : ℕ) → tag < 0x80 → false ≡ has_bit mask tag
unfolding has_bit
bit_below mask tag h = rw (lt-leb 0x80 tag h)

pub bit_is : (mask tag : ℕ) → 0x80 ≤ tag → tag ≤ 0xBF → eqb (bit_and (mask / 2 ^ (tag - 0x80)) 1) 1 ≡ has_bit mask tag
unfolding has_bit
bit_is mask tag a b = rw (le-leb 0x80 tag a, le-leb tag 0xBF b) (bit_test mask (tag - 0x80))

-- no known item has a tag above the mask's
known-low : (p tag : ℕ) → is_known (known p tag) ≡ true → tag ≤ 0xBF
unfolding known rows is_known
known-low p tag h = go (known p tag) refl h
  where
    go : (o : Option Kind) → known p tag ≡ o → is_known o ≡ true → tag ≤ 0xBF
    go none e q = absurd (false≢true q)
    go (some k) e q = leb-true tag 0xBF (row-holds (λ e t k. leb t 0xBF) (cond (attribute tag) p 0) tag k rows refl e)

small-tag : (mask tag : ℕ) → attribute tag ≡ false → has_bit mask tag ≡ false
unfolding attribute
small-tag mask tag h = sym (bit_below mask tag (omega (arith, ltb-false 0x7F tag h)))

same_bit : (t tag : ℕ) → 0x80 ≤ t → 0x80 ≤ tag → eqb (t - 0x80) (tag - 0x80) ≡ eqb t tag
same_bit t tag a b = go (eqb t tag) refl
  where
    go : (x : Bool) → eqb t tag ≡ x → eqb (t - 0x80) (tag - 0x80) ≡ x
    go true e = eq-eqb (t - 0x80) (tag - 0x80) (ap (λ (n : ℕ). n - 0x80) (eqb-true t tag e))
    go false e = ne_eqb (t - 0x80) (tag - 0x80) (λ q. eqb-false t tag e (omega arith))

-- the bits after an item's: its own and those before
bit-joined : (mask tag t : ℕ) → 0x80 ≤ t → t ≤ 0xBF → has_bit (with_bit mask tag) t ≡ eqb t tag || has_bit mask t
unfolding has_bit with_bit
bit-joined mask tag t a b = rw (le-leb 0x80 t a, le-leb t 0xBF b) (go (leb 0x80 tag) (leb tag 0xBF) refl refl)
  where
    go : (x y : Bool) → leb 0x80 tag ≡ x → leb tag 0xBF ≡ y → bit (cond (x && y) (bit_or mask (2 ^ (tag - 0x80))) mask) (t - 0x80) ≡ eqb t tag || bit mask (t - 0x80)
    go true true p q = bit-more mask (tag - 0x80) (t - 0x80) ∙ ap (λ c. c || bit mask (t - 0x80)) (same_bit t tag a (leb-true 0x80 tag p))
    go true false p q = rw (ne_eqb t tag (λ e. omega (arith, leb-false tag 0xBF q)))
    go false y p q = rw (ne_eqb t tag (λ e. omega (arith, leb-false 0x80 tag p)))

-- the mask after an item tells of its tag too
pub marked : (parent mask tag : ℕ) (seen : List ℕ) → Seen parent mask seen → Seen parent (with_bit mask tag) (tag ∷ seen)
unfolding Seen among
marked parent mask tag seen s t k = go (attribute t) refl (s t k)
  where
    go : (b : Bool) → attribute t ≡ b → has_bit mask t ≡ b && among t seen → has_bit (with_bit mask tag) t ≡ b && (eqb t tag || among t seen)
    go true e h = bit-joined mask tag t (attribute-high t e) (known-low parent t k) ∙ ap (λ c. eqb t tag || c) h
    go false e h = small-tag (with_bit mask tag) t e

pub none-marked : (parent : ℕ) → Seen parent 0 []
unfolding Seen among has_bit
none-marked parent t k = rw (bit-none (t - 0x80), and-false (leb 0x80 t && leb t 0xBF)) (sym (and-false (attribute t)))

-- of a known attribute the mask says what the tags seen say
pub twice-is : (parent mask tag : ℕ) (seen : List ℕ) → Seen parent mask seen
    → (attribute tag && is_known (known parent tag) && among tag seen) ≡ (is_known (known parent tag) && has_bit mask tag)
unfolding Seen
twice-is parent mask tag seen s = go (attribute tag) (is_known (known parent tag)) refl refl
  where
    go : (a b : Bool) → attribute tag ≡ a → is_known (known parent tag) ≡ b → (a && b && among tag seen) ≡ (b && has_bit mask tag)
    go true true p q = sym (s tag q ∙ ap (λ c. c && among tag seen) p)
    go false true p q = sym (s tag q ∙ ap (λ c. c && among tag seen) p)
    go true false p q = refl
    go false false p q = refl
