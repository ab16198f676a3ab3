-- Merging an object with itself gives its own meaning, and so does merging an empty Basic object with Advanced.
use mathlib.Core.Path.{◌≡◌, refl, sym, ap, ◌∙◌, fun_ext, subst}
use mathlib.Core.Bool.{Bool, true, false, cond, ◌||◌, false≢true, or-true}
use mathlib.Core.Option.{Option, none, some}
use mathlib.Core.List.{List}
use Prim.Native.Nat.{ℕ, ◌≤◌}
use native.Mathlib.Omega.{arith}
use lib.Dec.{eqb}
use borrow.Author.Tests.{eqb-true}
use Rattle.values.specs.Values.{Value}
use Rattle.format.specs.Judge.{is_top, stage_after}
use Rattle.format.specs.Meaning.{Meaning}
use Rattle.format.specs.Meaning.Meaning.{nothing, element, leaf}
use Rattle.format.specs.WellFormed.{WellFormed, ObjectOk}
use Rattle.octets.proofs.Tests.{or_left, or_right_false}
use Rattle.values.proofs.Known.{items-tag}
use Rattle.merge.specs.Kept.{empty_top}
use Rattle.merge.specs.declared.Services.{Services}
use Rattle.merge.specs.Keys.{merges, partners, has_partner, has_equal}
use Rattle.merge.specs.Merged.{either, united, then, has_language, languages, new_language, added, paired, merged, same_top, twice}
use Rattle.merge.proofs.Empty.{then-nothing, top-is, tops-partners}
use Rattle.merge.proofs.Keys.{or_right, partners-same, partners-swap}
use Rattle.merge.proofs.Equal.{equal-behind, equal-here, equal-leaf}
use Rattle.merge.proofs.Fine.{leaf-tag, after_two, six-first, none-languages}

-- ---- elements, then others

pub then-assoc : (l m n : Meaning) → then (then l m) n ≡ then l (then m n)
unfolding then
then-assoc nothing m n = refl
then-assoc (element tag f x c after) m n = ap (element tag f x c) (then-assoc after m n)
then-assoc (leaf tag o after) m n = ap (leaf tag o) (then-assoc after m n)

-- an element moved from the head of the second to the end of the first
pub then-element : (l : Meaning) (tag : ℕ) (f : ℕ → Option Value) (m : Meaning) (c : Option (List ℕ)) (after : Meaning)
    → then l (element tag f m c after) ≡ then (then l (element tag f m c nothing)) after
unfolding then
then-element l tag f m c after = sym (then-assoc l (element tag f m c nothing) after)

pub then-leaf : (l : Meaning) (tag : ℕ) (o : List ℕ) (after : Meaning) → then l (leaf tag o after) ≡ then (then l (leaf tag o nothing)) after
unfolding then
then-leaf l tag o after = sym (then-assoc l (leaf tag o nothing) after)

partner-behind : (by : Services) (tag : ℕ) (f : ℕ → Option Value) (m l n : Meaning) → has_partner by tag f m n ≡ true → has_partner by tag f m (then l n) ≡ true
unfolding has_partner then
partner-behind by tag f m nothing n h = h
partner-behind by tag f m (element t g x c after) n h = or_right (partners by tag t f g m x) (has_partner by tag f m (then after n)) (partner-behind by tag f m after n h)
partner-behind by tag f m (leaf t o after) n h = partner-behind by tag f m after n h

partner-here : (by : Services) (tag : ℕ) (f : ℕ → Option Value) (m : Meaning) (c : Option (List ℕ)) (after : Meaning) → merges tag ≡ true → has_partner by tag f m (element tag f m c after) ≡ true
unfolding has_partner
partner-here by tag f m c after h = or_left (partners by tag tag f f m m) (has_partner by tag f m after) (partners-same by tag f m h)

-- ---- nothing is added of what is there

added-there : (by : Services) (l n : Meaning) → added by (then l n) n ≡ nothing
unfolding added
added-there by l nothing = refl
added-there by l (element tag f m c after) =
    rw (stays (merges tag) refl) (subst (λ x. added by x after ≡ nothing) (sym (then-element l tag f m c after)) (added-there by (then l (element tag f m c nothing)) after))
  where
    all : Meaning
    all = then l (element tag f m c after)

    stays : (b : Bool) → merges tag ≡ b → cond b (has_partner by tag f m all) (has_equal (element tag f m c nothing) all) ≡ true
    stays true h = partner-behind by tag f m l (element tag f m c after) (partner-here by tag f m c after h)
    stays false h = equal-behind (element tag f m c nothing) l (element tag f m c after) (equal-here tag f m c after)
added-there by l (leaf tag o after) =
    rw (equal-behind (leaf tag o nothing) l (leaf tag o after) (equal-leaf tag o after), or-true (eqb tag 6))
    (subst (λ x. added by x after ≡ nothing) (sym (then-leaf l tag o after)) (added-there by (then l (leaf tag o nothing)) after))

pub added-same : (by : Services) (m : Meaning) → added by m m ≡ nothing
unfolding then
added-same by m = added-there by nothing m

new-same : (m : Meaning) → new_language m m ≡ nothing
unfolding new_language
new-same m = go (has_language m) refl
  where
    go : (b : Bool) → has_language m ≡ b → cond b nothing (languages m) ≡ nothing
    go true h = refl
    go false h = none-languages m h

-- ---- partners

-- an element without a partner stands as it is
pub paired-alone : (by : Services) (tag : ℕ) (f : ℕ → Option Value) (m : Meaning) (c : Option (List ℕ)) (r : Meaning) (inside : Meaning → Meaning) (a : Meaning) → has_partner by tag f m a ≡ false
    → paired by tag f m c r inside a ≡ element tag f m c r
unfolding paired has_partner
paired-alone by tag f m c r inside nothing h = refl
paired-alone by tag f m c r inside (element tag' g n d more) h = go (partners by tag tag' f g m n) h (paired-alone by tag f m c r inside more)
  where
    go : (b : Bool) → b || has_partner by tag f m more ≡ false → (has_partner by tag f m more ≡ false → paired by tag f m c r inside more ≡ element tag f m c r)
        → cond b (element tag (united f g) (inside n) (either c d) r) (paired by tag f m c r inside more) ≡ element tag f m c r
    go true q ih = absurd (false≢true (sym q))
    go false q ih = ih q
paired-alone by tag f m c r inside (leaf tag' o more) h = paired-alone by tag f m c r inside more h

-- an element with a partner becomes one with the first
pub paired-found : (by : Services) (tag tag' : ℕ) (f g : ℕ → Option Value) (m n : Meaning) (c d : Option (List ℕ)) (r : Meaning) (inside : Meaning → Meaning) (l more : Meaning) → has_partner by tag f m l ≡ false
    → partners by tag tag' f g m n ≡ true → paired by tag f m c r inside (then l (element tag' g n d more)) ≡ element tag (united f g) (inside n) (either c d) r
unfolding paired has_partner then
paired-found by tag tag' f g m n c d r inside nothing more h e = rw e
paired-found by tag tag' f g m n c d r inside (element t k x y after) more h e =
    go (partners by tag t f k m x) h (λ q. paired-found by tag tag' f g m n c d r inside after more q e)
  where
    go : (b : Bool) → b || has_partner by tag f m after ≡ false
        → (has_partner by tag f m after ≡ false → paired by tag f m c r inside (then after (element tag' g n d more)) ≡ element tag (united f g) (inside n) (either c d) r)
        → cond b (element tag (united f k) (inside x) (either c y) r) (paired by tag f m c r inside (then after (element tag' g n d more))) ≡ element tag (united f g) (inside n) (either c d) r
    go true q ih = absurd (false≢true (sym q))
    go false q ih = ih q
paired-found by tag tag' f g m n c d r inside (leaf t o after) more h e = paired-found by tag tag' f g m n c d r inside after more h e

-- what can have no partner has none
pub cannot : (by : Services) (tag : ℕ) (f : ℕ → Option Value) (m a : Meaning) → merges tag ≡ false → has_partner by tag f m a ≡ false
unfolding has_partner partners
cannot by tag f m nothing h = refl
cannot by tag f m (element t g n d more) h = rw h (cannot by tag f m more h)
cannot by tag f m (leaf t o more) h = cannot by tag f m more h

-- ---- keys once

pub or-false-left : (a b : Bool) → a || b ≡ false → a ≡ false
or-false-left true b h = absurd (false≢true (sym h))
or-false-left false b h = refl

pub twice-behind : (by : Services) (l n : Meaning) → twice by (then l n) ≡ false → twice by n ≡ false
unfolding twice then
twice-behind by nothing n h = h
twice-behind by (element tag f m c after) n h = twice-behind by after n (or_right_false (has_partner by tag f m (then after n) || twice by m) (twice by (then after n)) h)
twice-behind by (leaf tag o after) n h = twice-behind by after n h

partner-not : (by : Services) (tag : ℕ) (f : ℕ → Option Value) (m l n : Meaning) → has_partner by tag f m (then l n) ≡ false → has_partner by tag f m n ≡ false
unfolding has_partner then
partner-not by tag f m nothing n h = h
partner-not by tag f m (element t g x c after) n h = partner-not by tag f m after n (or_right_false (partners by tag t f g m x) (has_partner by tag f m (then after n)) h)
partner-not by tag f m (leaf t o after) n h = partner-not by tag f m after n h

swap-not : (by : Services) (tag tag' : ℕ) (f g : ℕ → Option Value) (m n : Meaning) → partners by tag tag' f g m n ≡ false → partners by tag' tag g f n m ≡ false
swap-not by tag tag' f g m n h = go (partners by tag' tag g f n m) refl
  where
    go : (b : Bool) → partners by tag' tag g f n m ≡ b → b ≡ false
    go true e = absurd (false≢true (sym h ∙ partners-swap by tag' tag g f n m e))
    go false e = refl

-- where no key is there twice, no element before another is its partner
pub none_before : (by : Services) (l : Meaning) (tag : ℕ) (f : ℕ → Option Value) (m : Meaning) (c : Option (List ℕ)) (after : Meaning) → twice by (then l (element tag f m c after)) ≡ false
    → has_partner by tag f m l ≡ false
unfolding twice then has_partner
none_before by nothing tag f m c after h = refl
none_before by (element t g x d rest) tag f m c after h =
    let all = then rest (element tag f m c after) in
    let first = or-false-left (has_partner by t g x all) (twice by x) (or-false-left (has_partner by t g x all || twice by x) (twice by all) h) in
    let this = or-false-left (partners by t tag g f x m) (has_partner by t g x after) (partner-not by t g x rest (element tag f m c after) first) in
    rw (swap-not by t tag g f x m this) (none_before by rest tag f m c after (or_right_false (has_partner by t g x all || twice by x) (twice by all) h))
none_before by (leaf t o rest) tag f m c after h = none_before by rest tag f m c after h

-- ---- an object with itself

united-same : (f : ℕ → Option Value) → united f f ≡ f
unfolding united either
united-same f = fun_ext (λ a. go (f a))
  where
    go : (o : Option Value) → either o o ≡ o
    go none = refl
    go (some v) = refl

either_same : {A : Type 0} (o : Option A) → either o o ≡ o
unfolding either
either_same none = refl
either_same (some v) = refl

children-same : (by : Services) (m : Meaning) → merged by m m ≡ m → then (new_language m m) (then (merged by m m) (added by m m)) ≡ m
unfolding then
children-same by m e = rw (new-same m, e, added-same by m) (then-nothing m)

paired-self : (by : Services) (l : Meaning) (tag : ℕ) (f : ℕ → Option Value) (m : Meaning) (c : Option (List ℕ)) (after r : Meaning) (inside : Meaning → Meaning) → inside m ≡ m
    → twice by (then l (element tag f m c after)) ≡ false → paired by tag f m c r inside (then l (element tag f m c after)) ≡ element tag f m c r
paired-self by l tag f m c after r inside e h = go (merges tag) refl
  where
    go : (b : Bool) → merges tag ≡ b → paired by tag f m c r inside (then l (element tag f m c after)) ≡ element tag f m c r
    go true q = paired-found by tag tag f f m m c c r inside l after (none_before by l tag f m c after h) (partners-same by tag f m q) ∙ rw (united-same f, e, either_same c)
    go false q = paired-alone by tag f m c r inside (then l (element tag f m c after)) (cannot by tag f m (then l (element tag f m c after)) q)

self : (by : Services) (b l : Meaning) → twice by (then l b) ≡ false → merged by b (then l b) ≡ b
unfolding merged twice then
self by nothing l h = refl
self by (element tag f m c after) l h =
    let own = twice-behind by l (element tag f m c after) h in
    let within = or_right_false (has_partner by tag f m after) (twice by m) (or-false-left (has_partner by tag f m after || twice by m) (twice by after) own) in
    let later : merged by after (then l (element tag f m c after)) ≡ after =
    subst (λ x. merged by after x ≡ after) (sym (then-element l tag f m c after)) (self by after (then l (element tag f m c nothing)) (subst (λ x. twice by x ≡ false) (then-element l tag f m c after) h)) in
    paired-self by l tag f m c after (merged by after (then l (element tag f m c after))) (λ n. then (new_language m n) (then (merged by m n) (added by m n)))
    (children-same by m (self by m nothing within)) h
    ∙ ap (element tag f m c) later
self by (leaf tag o after) l h =
    ap (leaf tag o) (subst (λ x. merged by after x ≡ after) (sym (then-leaf l tag o after)) (self by after (then l (leaf tag o nothing)) (subst (λ x. twice by x ≡ false) (then-leaf l tag o after) h)))

-- where no key is there twice, an object merged with itself is what it was
pub merged-self : (by : Services) (m : Meaning) → twice by m ≡ false → merged by m m ≡ m
unfolding then
merged-self by m h = self by m nothing h

-- ---- an empty Basic object

added-all : (by : Services) (p d s : ℕ) (n : Meaning) → 2 ≤ s → WellFormed p d s n → added by nothing n ≡ n
unfolding added has_partner has_equal has_language
added-all by p d s nothing l ok = refl
added-all by p d s (element tag f m c after) l ok =
    rw (same (merges tag)) (ap (element tag f m c) (added-all by p d (stage_after tag) after (omega (arith, after_two tag (items-tag tag ok.1))) ok.5))
  where
    same : (b : Bool) → cond b false false ≡ false
    same true = refl
    same false = refl
added-all by p d s (leaf tag o after) l ok =
    rw (or-false-left (eqb tag 6) (has_language after) (six-first p d s (leaf tag o after) l ok))
    (ap (leaf tag o) (added-all by p d (stage_after tag) after (omega (arith, after_two tag (leaf-tag tag o ok.1))) ok.2))

-- 0x06, then the others
language-first : (by : Services) (p d s : ℕ) (n : Meaning) → WellFormed p d s n → then (languages n) (added by nothing n) ≡ n
unfolding languages added then has_partner has_equal
language-first by p d s nothing ok = refl
language-first by p d s (element tag f m c after) ok =
    let w = six-first p d (stage_after tag) after (omega (arith, after_two tag (items-tag tag ok.1))) ok.5 in
    rw (same (merges tag), none-languages after w) (ap (element tag f m c) (added-all by p d (stage_after tag) after (omega (arith, after_two tag (items-tag tag ok.1))) ok.5))
  where
    same : (b : Bool) → cond b false false ≡ false
    same true = refl
    same false = refl
language-first by p d s (leaf tag o after) ok = go (eqb tag 6)
  where
    two : 2 ≤ stage_after tag
    two = omega (arith, after_two tag (leaf-tag tag o ok.1))

    rest : added by nothing after ≡ after
    rest = added-all by p d (stage_after tag) after two ok.2

    go : (b : Bool) → then (cond b (leaf tag o (languages after)) (languages after)) (cond (b || false) (added by nothing after) (leaf tag o (added by nothing after))) ≡ leaf tag o after
    go true = rw (none-languages after (six-first p d (stage_after tag) after two ok.2)) (ap (leaf tag o) rest)
    go false = rw (none-languages after (six-first p d (stage_after tag) after two ok.2)) (ap (leaf tag o) rest)

united-empty : (g : ℕ → Option Value) → united (λ a. none) g ≡ g
unfolding united either
united-empty g = refl

top-into : (by : Services) (tag tag' : ℕ) (g : ℕ → Option Value) (n : Meaning) (d : Option (List ℕ)) → is_top tag ≡ true → tag ≡ tag' → WellFormed tag 2 0 n
    → merged by (empty_top tag') (element tag g n d nothing) ≡ element tag g n d nothing
unfolding merged paired either new_language has_language then
top-into by tag tag' g n d h e ok =
    rw (← e, tops-partners by tag (λ a. none) g nothing n h, united-empty g) (ap (λ x. element tag g x d nothing) (language-first by tag 2 0 n ok))

pub empty-merged : (by : Services) (a : Meaning) (tag : ℕ) → ObjectOk a → same_top a (empty_top tag) ≡ true → merged by (empty_top tag) a ≡ a
unfolding same_top
empty-merged by nothing tag ok h = absurd ok
empty-merged by (leaf t o after) tag ok h = absurd ok
empty-merged by (element t f m c nothing) tag ok h = top-into by t tag f m c (top-is t ok.0.allow) (eqb-true t tag h) ok.3
empty-merged by (element t f m c (element t' f' m' c' after)) tag ok h = absurd ok
empty-merged by (element t f m c (leaf t' o after)) tag ok h = absurd ok
