-- Attributes by rising tag: what one more adds, and that seven tags are all.
use mathlib.Core.Path.{◌≡◌, refl, sym, ap, ap₂, ◌∙◌}
use mathlib.Core.Bool.{cond}
use mathlib.Core.Option.{Option, none, some}
use mathlib.Core.List.{List, [], ◌++◌, append_assoc, append-nil}
use Prim.Native.Nat.{ℕ, zero, suc, ◌+◌, ◌-◌, ◌≤◌, ◌<◌}
use native.Mathlib.Omega.{arith}
use lib.Dec.{leb}
use lib.ListN.{length}
use borrow.Author.Tests.{leb-true}
use Rattle.octets.specs.Header.{framed}
use Rattle.octets.proofs.Answers.{framed-length}
use Rattle.text.specs.Tokens.{Entries}
use Rattle.values.specs.declared.Kind.{Kind}
use Rattle.values.specs.Table.{rows, known, attribute}
use Rattle.values.specs.Values.{Value, octets_of}
use Rattle.values.proofs.Known.{row-holds}
use Rattle.format.specs.Tree.{Items}
use Rattle.format.specs.Meaning.{attributes_in, maybe, rising}
use Rattle.format.proofs.Sums.{sum_more}
use Rattle.format.proofs.Takes.{if_any, in_form, rising-length}
use Rattle.format.proofs.Means.{unknown-attribute}
use Rattle.survey.specs.Normal.{attribute_octets}

-- the octets of one attribute of a set
abbrev pub one_attribute : ℕ → Option Value → List ℕ
one_attribute tag o = maybe (λ v. framed tag (octets_of v)) o

-- two sets that agree from a tag on
pub rising-same : (n start : ℕ) (f g : ℕ → Option Value) → ((t : ℕ) → start ≤ t → f t ≡ g t) → rising n start f ≡ rising n start g
unfolding rising
rising-same zero start f g h = refl
rising-same (suc n) start f g h = ap₂ (λ x y. one_attribute start x ++ y) (h start (omega arith)) (rising-same n (suc start) f g (λ t q. h t (omega arith)))

-- a set that has nothing at so many tags from one on
pub rising_none : (n start : ℕ) (f : ℕ → Option Value) → ((t : ℕ) → start ≤ t → t < start + n → f t ≡ none) → rising n start f ≡ []
unfolding rising maybe
rising_none zero start f h = refl
rising_none (suc n) start f h = rw (h start (omega arith) (omega arith)) (rising_none n (suc start) f (λ t q l. h t (omega arith) (omega arith)))

-- one attribute more
pub rising-more : (n start tag : ℕ) (f g : ℕ → Option Value) (v : Value) → f tag ≡ some v → g tag ≡ none → ((t : ℕ) → (t ≡ tag → ⊥) → f t ≡ g t) → start ≤ tag → tag < start + n
    → length (rising n start f) ≡ length (framed tag (octets_of v)) + length (rising n start g)
unfolding if_any
rising-more n start tag f g v p q h a b =
    let size : Option Value → ℕ = if_any (λ w. in_form.single (octets_of w)) in
    rising-length n start f
    ∙ sum_more n start tag (length (framed tag (octets_of v))) (λ t. size (f t)) (λ t. size (g t)) (rw (p, q) (omega (arith, framed-length tag (octets_of v)))) (λ t d. ap size (h t d)) a b
    ∙ ap (λ x. length (framed tag (octets_of v)) + x) (sym (rising-length n start g))

rising-append : (m n start : ℕ) (f : ℕ → Option Value) → rising (m + n) start f ≡ rising m start f ++ rising n (start + m) f
unfolding rising
rising-append zero n start f = let e : 0 + n ≡ n = omega arith in let g : start + 0 ≡ start = omega arith in rw (e, g)
rising-append (suc m) n start f =
    let e : suc m + n ≡ suc (m + n) = omega arith in
    let g : start + suc m ≡ suc start + m = omega arith in
    rw (e, g)
    (ap (λ x. one_attribute start (f start) ++ x) (rising-append m n (suc start) f)
    ∙ sym (append_assoc (one_attribute start (f start)) (rising m (suc start) f) (rising n (suc start + m) f)))

-- the table knows no tag above 0x86: one test over its rows
pub known-few : (p tag : ℕ) (k : Kind) → known p tag ≡ some k → tag ≤ 0x86
unfolding known rows
known-few p tag k h = leb-true tag 0x86 (row-holds (λ e t l. leb t 0x86) (cond (attribute tag) p 0) tag k rows refl h)

-- so no element has an attribute above it, whatever the token table
pub past-known : (table : Entries) (p : ℕ) (t : Items) (a : ℕ) → 0x87 ≤ a → attributes_in table p t a ≡ none
past-known table p t a h = go (known p a) refl
  where
    go : (k : Option Kind) → known p a ≡ k → attributes_in table p t a ≡ none
    go none e = unknown-attribute table p t a e
    go (some k) e = absurd (omega (arith, known-few p a k e))

-- and seven tags are all that an element's attributes have
pub rising-seven : (p : ℕ) (t : Items) → attribute_octets p t ≡ rising 7 0x80 (attributes_in [] p t)
unfolding attribute_octets
rising-seven p t =
    rising-append 7 121 0x80 (attributes_in [] p t)
    ∙ (ap (λ x. rising 7 0x80 (attributes_in [] p t) ++ x) (rising_none 121 0x87 (attributes_in [] p t) (λ a h l. past-known [] p t a h)) ∙ append-nil (rising 7 0x80 (attributes_in [] p t)))

-- up to an attribute, where there is none before it
pub rising-skip : (start tag : ℕ) (f : ℕ → Option Value) → start ≤ tag → tag ≤ 0x87 → ((t : ℕ) → start ≤ t → t < tag → f t ≡ none) → rising (0x87 - start) start f ≡ rising (0x87 - tag) tag f
rising-skip start tag f a b h =
    let e : 0x87 - start ≡ tag - start + (0x87 - tag) = omega arith in
    let g : start + (tag - start) ≡ tag = omega arith in
    rw (e, rising-append (tag - start) (0x87 - tag) start f, g, rising_none (tag - start) start f (λ t x y. h t x (omega arith)))
