-- The merged meaning of two well-formed meanings is well-formed.
use mathlib.Core.Path.{◌≡◌, refl, sym, ap, ◌∙◌, subst}
use mathlib.Core.Bool.{Bool, true, false, cond, ◌&&◌, ◌||◌, false≢true}
use mathlib.Core.Option.{Option, none, some}
use mathlib.Core.List.{List}
use Prim.Native.Nat.{ℕ, suc, ◌≤◌}
use native.Mathlib.Omega.{arith}
use lib.Dec.{eqb}
use borrow.Author.Tests.{leb-true, le-leb, eqb-true, ne_eqb}
use Rattle.values.specs.declared.Kind.TheVariants.{HoldsItems}
use Rattle.values.specs.Table.{known, attribute}
use Rattle.values.specs.Values.{Value}
use Rattle.format.specs.Judge.{is_items, is_top, latest, stage_after}
use Rattle.format.specs.Meaning.{Meaning}
use Rattle.format.specs.Meaning.Meaning.{nothing, element, leaf}
use Rattle.format.specs.WellFormed.{AttributeOk, CdataOk, PlaceOk, LeafOk, WellFormed, ObjectOk}
use Rattle.format.specs.WellFormed.LeafOk.{language, plainly}
use Rattle.octets.proofs.Tests.{and_left, and_right}
use Rattle.values.proofs.Known.{ElementTag, items-tag, plain-tag, language-tag, known-six}
use Rattle.merge.specs.declared.Services.{Services}
use Rattle.merge.specs.Keys.{merges, partners, same_key, has_partner, has_equal}
use Rattle.merge.specs.Merged.{either, united, then, has_language, languages, new_language, added, paired, merged, same_top}
use Rattle.merge.proofs.Empty.{top-is, tops-partners}

-- ---- stages

pub leaf-tag : (tag : ℕ) (o : List ℕ) → LeafOk tag o → ElementTag tag
leaf-tag tag o (language six words) = subst (λ q. ElementTag q) (sym six) language-tag
leaf-tag tag o (plainly e) = plain-tag tag e

-- after an element comes stage 2
pub after_two : (tag : ℕ) → ElementTag tag → stage_after tag ≡ 2
unfolding stage_after
after_two tag e = rw (e.not_attribute, e.not_table, e.not_cdata)

-- any element but 0x06 may come up to stage 2, 0x06 up to stage 1
latest-other : (tag : ℕ) → ElementTag tag → eqb tag 6 ≡ false → latest tag ≡ 2
unfolding latest
latest-other tag e h = rw (e.not_attribute, e.not_table, h)

latest-six : (tag : ℕ) → eqb tag 6 ≡ true → latest tag ≡ 1
unfolding latest attribute
latest-six tag h = rw (eqb-true tag 6 h)

items-not-six : (tag : ℕ) → known 0 tag ≡ some HoldsItems → eqb tag 6 ≡ false
unfolding is_items
items-not-six tag e = ne_eqb tag 6 (λ q. false≢true (ap is_items (sym known-six ∙ (ap (known 0) (sym q) ∙ e))))

place_other : (p d s r tag : ℕ) → ElementTag tag → eqb tag 6 ≡ false → r ≤ 2 → PlaceOk p d s tag → PlaceOk p d r tag
place_other p d s r tag e h l ok = record { allow = ok.allow; order = rw (latest-other tag e h) (le-leb r 2 l); deep = ok.deep }

-- elements without 0x06 may stand from any stage up to 2 on
restaged : (p d s r : ℕ) → r ≤ 2 → (m : Meaning) → has_language m ≡ false → WellFormed p d s m → WellFormed p d r m
unfolding has_language
restaged p d s r l nothing h ok = tt
restaged p d s r l (element tag f m c after) h ok = (place_other p d s r tag (items-tag tag ok.1) (items-not-six tag ok.1) l ok.0, ok.1, ok.2, ok.3, ok.4, ok.5)
restaged p d s r l (leaf tag o after) h ok = (place_other p d s r tag (leaf-tag tag o ok.1) (first (eqb tag 6) h) l ok.0, ok.1, ok.2)
  where
    first : (b : Bool) → b || has_language after ≡ false → b ≡ false
    first true q = absurd (false≢true (sym q))
    first false q = refl

-- behind an element there is no 0x06
pub six-first : (p d s : ℕ) (m : Meaning) → 2 ≤ s → WellFormed p d s m → has_language m ≡ false
unfolding has_language
six-first p d s nothing l ok = refl
six-first p d s (element tag f m c after) l ok = six-first p d (stage_after tag) after (omega (arith, after_two tag (items-tag tag ok.1))) ok.5
six-first p d s (leaf tag o after) l ok =
    go (eqb tag 6) refl (six-first p d (stage_after tag) after (omega (arith, after_two tag (leaf-tag tag o ok.1))) ok.2)
  where
    go : (b : Bool) → eqb tag 6 ≡ b → has_language after ≡ false → b || has_language after ≡ false
    go true e q = absurd (omega (arith, leb-true s (latest tag) ok.0.order, latest-six tag e))
    go false e q = q

-- ---- elements, then others

then_ok : (p d s : ℕ) (m n : Meaning) → s ≤ 2 → WellFormed p d s m → ((r : ℕ) → r ≤ 2 → WellFormed p d r n) → WellFormed p d s (then m n)
unfolding then
then_ok p d s nothing n l ok next = next s l
then_ok p d s (element tag f m c after) n l ok next =
    (ok.0, ok.1, ok.2, ok.3, ok.4, then_ok p d (stage_after tag) after n (omega (arith, after_two tag (items-tag tag ok.1))) ok.5 next)
then_ok p d s (leaf tag o after) n l ok next =
    (ok.0, ok.1, then_ok p d (stage_after tag) after n (omega (arith, after_two tag (leaf-tag tag o ok.1))) ok.2 next)

pub none-languages : (m : Meaning) → has_language m ≡ false → languages m ≡ nothing
unfolding has_language languages
none-languages nothing h = refl
none-languages (element tag f m c after) h = none-languages after h
none-languages (leaf tag o after) h = go (eqb tag 6) h (none-languages after)
  where
    go : (b : Bool) → b || has_language after ≡ false → (has_language after ≡ false → languages after ≡ nothing) → cond b (leaf tag o (languages after)) (languages after) ≡ nothing
    go true q ih = absurd (false≢true (sym q))
    go false q ih = ih q

languages-ok : (p d s : ℕ) (m : Meaning) → WellFormed p d s m → WellFormed p d 0 (languages m)
unfolding languages
languages-ok p d s nothing ok = tt
languages-ok p d s (element tag f m c after) ok = languages-ok p d (stage_after tag) after ok.5
languages-ok p d s (leaf tag o after) ok = go (eqb tag 6) refl
  where
    quiet : languages after ≡ nothing
    quiet = none-languages after (six-first p d (stage_after tag) after (omega (arith, after_two tag (leaf-tag tag o ok.1))) ok.2)

    go : (b : Bool) → eqb tag 6 ≡ b → WellFormed p d 0 (cond b (leaf tag o (languages after)) (languages after))
    go true e = rw quiet (record { allow = ok.0.allow; order = le-leb 0 (latest tag) (omega arith); deep = ok.0.deep }, ok.1, tt)
    go false e = rw quiet tt

added-ok : (by : Services) (p d s r : ℕ) (m n : Meaning) → r ≤ 2 → WellFormed p d s n → WellFormed p d r (added by m n)
unfolding added
added-ok by p d s r m nothing l ok = tt
added-ok by p d s r m (element tag f n c after) l ok =
    go (cond (merges tag) (has_partner by tag f n m) (has_equal (element tag f n c nothing) m)) (λ x k. added-ok by p d (stage_after tag) x m after k ok.5)
  where
    go : (b : Bool) → ((x : ℕ) → x ≤ 2 → WellFormed p d x (added by m after)) → WellFormed p d r (cond b (added by m after) (element tag f n c (added by m after)))
    go true ih = ih r l
    go false ih =
        let tagged = items-tag tag ok.1 in
        (place_other p d s r tag tagged (items-not-six tag ok.1) l ok.0, ok.1, ok.2, ok.3, ok.4, ih (stage_after tag) (omega (arith, after_two tag tagged)))
added-ok by p d s r m (leaf tag o after) l ok =
    go (eqb tag 6) (has_equal (leaf tag o nothing) m) refl (λ x k. added-ok by p d (stage_after tag) x m after k ok.2)
  where
    go : (b e : Bool) → eqb tag 6 ≡ b → ((x : ℕ) → x ≤ 2 → WellFormed p d x (added by m after)) → WellFormed p d r (cond (b || e) (added by m after) (leaf tag o (added by m after)))
    go true e q ih = ih r l
    go false true q ih = ih r l
    go false false q ih =
        let tagged = leaf-tag tag o ok.1 in
        (place_other p d s r tag tagged q l ok.0, ok.1, ih (stage_after tag) (omega (arith, after_two tag tagged)))

-- ---- pairs

either-attribute : (tag a : ℕ) (v w : Option Value) → AttributeOk tag a v → AttributeOk tag a w → AttributeOk tag a (either v w)
unfolding either
either-attribute tag a none w p q = q
either-attribute tag a (some v) w p q = p

either-cdata : (tag : ℕ) (c d : Option (List ℕ)) → CdataOk tag c → CdataOk tag d → CdataOk tag (either c d)
unfolding either
either-cdata tag none d p q = q
either-cdata tag (some o) d p q = p

pub partners-tag : (by : Services) (tag tag' : ℕ) (f g : ℕ → Option Value) (m n : Meaning) → partners by tag tag' f g m n ≡ true → tag ≡ tag'
unfolding partners
partners-tag by tag tag' f g m n h =
    eqb-true tag tag' (and_right (merges tag) (eqb tag tag') (and_left (merges tag && eqb tag tag') (same_key by tag f g m n) h))

-- merging neither takes a 0x06 of Basic nor adds one
paired-language : (by : Services) (tag : ℕ) (f : ℕ → Option Value) (m : Meaning) (c : Option (List ℕ)) (after : Meaning) (inside : Meaning → Meaning) (a : Meaning)
    → has_language (paired by tag f m c after inside a) ≡ has_language after
unfolding paired has_language
paired-language by tag f m c after inside nothing = refl
paired-language by tag f m c after inside (element tag' g n d more) = go (partners by tag tag' f g m n) (paired-language by tag f m c after inside more)
  where
    go : (b : Bool) → has_language (paired by tag f m c after inside more) ≡ has_language after
        → has_language (cond b (element tag (united f g) (inside n) (either c d) after) (paired by tag f m c after inside more)) ≡ has_language after
    go true ih = refl
    go false ih = ih
paired-language by tag f m c after inside (leaf tag' o more) = paired-language by tag f m c after inside more

merged-language : (by : Services) (b a : Meaning) → has_language (merged by b a) ≡ has_language b
unfolding merged has_language
merged-language by nothing a = refl
merged-language by (element tag f m c after) a =
    paired-language by tag f m c (merged by after a) (λ n. then (new_language m n) (then (merged by m n) (added by m n))) a ∙ merged-language by after a
merged-language by (leaf tag o after) a = ap (λ b. eqb tag 6 || b) (merged-language by after a)

-- the children of two partners
children-ok : (by : Services) (p d : ℕ) (m n : Meaning) → WellFormed p d 0 m → WellFormed p d 0 n → WellFormed p d 0 (merged by m n)
    → WellFormed p d 0 (then (new_language m n) (then (merged by m n) (added by m n)))
unfolding new_language then
children-ok by p d m n ok_m ok_n ih = go (has_language m) refl
  where
    more : (s : ℕ) → s ≤ 2 → WellFormed p d s (merged by m n) → WellFormed p d s (then (merged by m n) (added by m n))
    more s l w = then_ok p d s (merged by m n) (added by m n) l w (λ r k. added-ok by p d 0 r m n k ok_n)

    go : (b : Bool) → has_language m ≡ b → WellFormed p d 0 (then (cond b nothing (languages n)) (then (merged by m n) (added by m n)))
    go true e = more 0 (omega arith) ih
    go false e =
        then_ok p d 0 (languages n) (then (merged by m n) (added by m n)) (omega arith) (languages-ok p d 0 n ok_n)
        (λ r l. more r l (restaged p d 0 r l (merged by m n) (merged-language by m n ∙ e) ih))

paired_ok : (by : Services) (p d s r tag : ℕ) (f : ℕ → Option Value) (m : Meaning) (c : Option (List ℕ)) (after : Meaning) (inside : Meaning → Meaning) (a : Meaning)
    → WellFormed p d s (element tag f m c after) → ((n : Meaning) → WellFormed tag (suc d) 0 n → WellFormed tag (suc d) 0 (inside n)) → WellFormed p d r a
    → WellFormed p d s (paired by tag f m c after inside a)
unfolding paired united
paired_ok by p d s r tag f m c after inside nothing ok within ok_a = ok
paired_ok by p d s r tag f m c after inside (element tag' g n x more) ok within ok_a =
    go (partners by tag tag' f g m n) refl (paired_ok by p d s (stage_after tag') tag f m c after inside more ok within ok_a.5)
  where
    one : tag' ≡ tag → WellFormed p d s (element tag (united f g) (inside n) (either c x) after)
    one e = (
      ok.0,
      ok.1,
      λ a. either-attribute tag a (f a) (g a) (ok.2 a) (subst (λ t. AttributeOk t a (g a)) e (ok_a.2 a)),
      within n (subst (λ t. WellFormed t (suc d) 0 n) e ok_a.3),
      either-cdata tag c x ok.4 (subst (λ t. CdataOk t x) e ok_a.4),
      ok.5,
    )

    go : (b : Bool) → partners by tag tag' f g m n ≡ b → WellFormed p d s (paired by tag f m c after inside more)
        → WellFormed p d s (cond b (element tag (united f g) (inside n) (either c x) after) (paired by tag f m c after inside more))
    go true e ih = one (sym (partners-tag by tag tag' f g m n e))
    go false e ih = ih
paired_ok by p d s r tag f m c after inside (leaf tag' o more) ok within ok_a = paired_ok by p d s (stage_after tag') tag f m c after inside more ok within ok_a.2

-- elements of Basic and of Advanced whose parents become one
pub merged-well : (by : Services) (p d s r : ℕ) (b a : Meaning) → WellFormed p d s b → WellFormed p d r a → WellFormed p d s (merged by b a)
unfolding merged
merged-well by p d s r nothing a ok ok_a = tt
merged-well by p d s r (element tag f m c after) a ok ok_a =
    paired_ok by p d s r tag f m c (merged by after a) (λ n. then (new_language m n) (then (merged by m n) (added by m n))) a
    (ok.0, ok.1, ok.2, ok.3, ok.4, merged-well by p d (stage_after tag) r after a ok.5 ok_a)
    (λ n w. children-ok by tag (suc d) m n ok.3 w (merged-well by tag (suc d) 0 0 m n ok.3 w)) ok_a
merged-well by p d s r (leaf tag o after) a ok ok_a = (ok.0, ok.1, merged-well by p d (stage_after tag) r after a ok.2 ok_a)

top-merged : (by : Services) (tag : ℕ) (f g : ℕ → Option Value) (m n : Meaning) (c d : Option (List ℕ)) → is_top tag ≡ true → merged by (element tag f m c nothing) (element tag g n d nothing)
    ≡ element tag (united f g) (then (new_language m n) (then (merged by m n) (added by m n))) (either c d) nothing
unfolding merged paired
top-merged by tag f g m n c d h = rw (tops-partners by tag f g m n h)

-- two objects with tops of one tag: the merged meaning is one that an object can have, so refusal 16 can't come
pub merged-ok : (by : Services) (b a : Meaning) → ObjectOk b → ObjectOk a → same_top b a ≡ true → ObjectOk (merged by b a)
unfolding same_top
merged-ok by nothing a ok_b ok_a h = absurd ok_b
merged-ok by (leaf t o after) a ok_b ok_a h = absurd ok_b
merged-ok by (element t f m c (element t' f' m' c' after)) a ok_b ok_a h = absurd ok_b
merged-ok by (element t f m c (leaf t' o after)) a ok_b ok_a h = absurd ok_b
merged-ok by (element t f m c nothing) nothing ok_b ok_a h = absurd ok_a
merged-ok by (element t f m c nothing) (leaf t' o after) ok_b ok_a h = absurd ok_a
merged-ok by (element t f m c nothing) (element t' g n d (element t'' f' m' c' after)) ok_b ok_a h = absurd ok_a
merged-ok by (element t f m c nothing) (element t' g n d (leaf t'' o after)) ok_b ok_a h = absurd ok_a
merged-ok by (element t f m c nothing) (element t' g n d nothing) ok_b ok_a h =
    let e : t' ≡ t = sym (eqb-true t t' h) in
    let ok_a' : WellFormed 0 1 0 (element t g n d nothing) = subst (λ x. WellFormed 0 1 0 (element x g n d nothing)) e ok_a in
    let w = merged-well by 0 1 0 0 (element t f m c nothing) (element t g n d nothing) ok_b ok_a' in
    let q = top-merged by t f g m n c d (top-is t ok_b.0.allow) in
    rw (e, q) (rw q at w)
