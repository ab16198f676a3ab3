-- What was merged holds no key twice, where neither of the two did.
use mathlib.Core.Path.{◌≡◌, refl, sym, ap, ◌∙◌, subst}
use mathlib.Core.Bool.{Bool, true, false, cond, not, ◌&&◌, ◌||◌, false≢true}
use mathlib.Core.Option.{Option, none, some, some-injective}
use mathlib.Core.List.{List}
use Prim.Native.Nat.{ℕ}
use lib.Dec.{eqb}
use lib.ListN.{take}
use borrow.Author.Tests.{eqb-true}
use Rattle.octets.proofs.Numbers.{octets-take}
use Rattle.octets.proofs.Tests.{and_left, and_right, and-true, or_elim, or_left, or_right_false}
use Rattle.values.specs.Values.{Value}
use Rattle.format.specs.Judge.{is_top}
use Rattle.format.specs.Meaning.{Meaning}
use Rattle.format.specs.Meaning.Meaning.{nothing, element, leaf}
use Rattle.format.specs.Same.{same_maybe}
use Rattle.merge.specs.declared.Services.{Services}
use Rattle.merge.specs.declared.Services.TheVariants.{ByTag, ByBearers}
use Rattle.merge.specs.Keys.{merges, key_attribute, same_attribute, has_bearer, bearers_in, same_service, same_key, partners, has_partner, has_equal}
use Rattle.merge.specs.Merged.{either, united, then, has_language, languages, new_language, added, paired, merged, twice}
use Rattle.merge.proofs.Keys.{value_same, or_right, bearers-same, partners-parts, parts-partners, partners-same, partners-swap, partners-then}
use Rattle.merge.proofs.Self.{cannot, or-false-left}
use Rattle.demands.specs.MergedOnce.{OnceMerged, ResultOnce, MergeAgain}
use Rattle.demands.proofs.Merging.{merge-with-empty, merge-once}

-- the children of two partners that become one
abbrev joined : Services → Meaning → Meaning → Meaning
joined by m n = then (new_language m n) (then (merged by m n) (added by m n))

same_bool : (a b : Bool) → (a ≡ true → b ≡ true) → (b ≡ true → a ≡ true) → a ≡ b
same_bool true true f g = refl
same_bool true false f g = sym (f refl)
same_bool false true f g = g refl
same_bool false false f g = refl

not_so : (a : Bool) → (a ≡ true → ⊥) → a ≡ false
not_so true f = absurd (f refl)
not_so false f = refl

all-false : (a b c : Bool) → a ≡ false → b ≡ false → c ≡ false → a || b || c ≡ false
all-false a b c p q r = rw (p, q, r)

-- ---- a key stays

-- an attribute that both have alike, united, is what the first has
either_same : (v w : Option Value) → same_attribute v w ≡ true → either v w ≡ v
unfolding either same_maybe
either_same none none h = refl
either_same none (some w) h = absurd (false≢true h)
either_same (some v) w h = refl

bearer-key : (by : Services) (tag tag' : ℕ) (f g : ℕ → Option Value) (m n : Meaning) → partners by tag tag' f g m n ≡ true → eqb tag 0x29 ≡ true → united f g 0x80 ≡ f 0x80
unfolding united same_key is_top key_attribute
bearer-key by tag tag' f g m n h e =
    let p = partners-parts by tag tag' f g m n h in
    let t = eqb-true tag 0x29 e in
    either_same (f 0x80) (g 0x80) (rw t at p.keys)

-- ---- bearers of what becomes of elements
module _ (by : Services) (tag : ℕ) (f : ℕ → Option Value) (m : Meaning) (c : Option (List ℕ)) (r : Meaning) (inside : Meaning → Meaning) where
  paired-has : (v : Option Value) (a : Meaning) → has_bearer v (paired by tag f m c r inside a) ≡ (eqb tag 0x29 && same_attribute v (f 0x80)) || has_bearer v r
  unfolding paired has_bearer
  paired-has v nothing = refl
  paired-has v (element tag' g n d more) = go (partners by tag tag' f g m n) refl (eqb tag 0x29) refl (paired-has v more)
    where
      go : (b : Bool) → partners by tag tag' f g m n ≡ b → (e : Bool) → eqb tag 0x29 ≡ e
          → has_bearer v (paired by tag f m c r inside more) ≡ (e && same_attribute v (f 0x80)) || has_bearer v r
          → has_bearer v (cond b (element tag (united f g) (inside n) (either c d) r) (paired by tag f m c r inside more)) ≡ (e && same_attribute v (f 0x80)) || has_bearer v r
      go true h true e ih = rw (e, bearer-key by tag tag' f g m n h e)
      go true h false e ih = rw e
      go false h e q ih = ih
  paired-has v (leaf tag' o more) = paired-has v more

  paired-in : (z a : Meaning) → bearers_in (paired by tag f m c r inside a) z ≡ (not (eqb tag 0x29) || has_bearer (f 0x80) z) && bearers_in r z
  unfolding paired bearers_in
  paired-in z nothing = refl
  paired-in z (element tag' g n d more) = go (partners by tag tag' f g m n) refl (eqb tag 0x29) refl (paired-in z more)
    where
      go : (b : Bool) → partners by tag tag' f g m n ≡ b → (e : Bool) → eqb tag 0x29 ≡ e
          → bearers_in (paired by tag f m c r inside more) z ≡ (not e || has_bearer (f 0x80) z) && bearers_in r z
          → bearers_in (cond b (element tag (united f g) (inside n) (either c d) r) (paired by tag f m c r inside more)) z ≡ (not e || has_bearer (f 0x80) z) && bearers_in r z
      go true h true e ih = rw (e, bearer-key by tag tag' f g m n h e)
      go true h false e ih = rw e
      go false h e q ih = ih
  paired-in z (leaf tag' o more) = paired-in z more

merged-has : (by : Services) (v : Option Value) (m a : Meaning) → has_bearer v (merged by m a) ≡ has_bearer v m
unfolding merged has_bearer
merged-has by v nothing a = refl
merged-has by v (element tag f m c after) a = paired-has by tag f m c (merged by after a) (joined by m) v a ∙ ap (λ b. (eqb tag 0x29 && same_attribute v (f 0x80)) || b) (merged-has by v after a)
merged-has by v (leaf tag o after) a = merged-has by v after a

merged-in : (by : Services) (m a z : Meaning) → bearers_in (merged by m a) z ≡ bearers_in m z
unfolding merged bearers_in
merged-in by nothing a z = refl
merged-in by (element tag f m c after) a z = paired-in by tag f m c (merged by after a) (joined by m) z a ∙ ap (λ b. (not (eqb tag 0x29) || has_bearer (f 0x80) z) && b) (merged-in by after a z)
merged-in by (leaf tag o after) a z = merged-in by after a z

has-behind : (v : Option Value) (l n : Meaning) → has_bearer v n ≡ true → has_bearer v (then l n) ≡ true
unfolding has_bearer then
has-behind v nothing n h = h
has-behind v (element tag f m c after) n h = or_right (eqb tag 0x29 && same_attribute v (f 0x80)) (has_bearer v (then after n)) (has-behind v after n h)
has-behind v (leaf tag o after) n h = has-behind v after n h

has-before : (v : Option Value) (l n : Meaning) → has_bearer v l ≡ true → has_bearer v (then l n) ≡ true
unfolding has_bearer then
has-before v nothing n h = absurd (false≢true h)
has-before v (element tag f m c after) n h =
    or_elim (eqb tag 0x29 && same_attribute v (f 0x80)) (has_bearer v after) (λ q. or_left (eqb tag 0x29 && same_attribute v (f 0x80)) (has_bearer v (then after n)) q)
    (λ q. or_right (eqb tag 0x29 && same_attribute v (f 0x80)) (has_bearer v (then after n)) (has-before v after n q)) h
has-before v (leaf tag o after) n h = has-before v after n h

in_then : (l n z : Meaning) → bearers_in l z ≡ true → bearers_in n z ≡ true → bearers_in (then l n) z ≡ true
unfolding bearers_in then
in_then nothing n z p q = q
in_then (element tag f m c after) n z p q =
    let here = not (eqb tag 0x29) || has_bearer (f 0x80) z in
    and-true here (bearers_in (then after n) z) (and_left here (bearers_in after z) p) (in_then after n z (and_right here (bearers_in after z) p) q)
in_then (leaf tag o after) n z p q = in_then after n z p q

in-more : (z x y : Meaning) → ((v : Option Value) → has_bearer v x ≡ true → has_bearer v y ≡ true) → bearers_in z x ≡ true → bearers_in z y ≡ true
unfolding bearers_in
in-more nothing x y k h = refl
in-more (element tag f m c after) x y k h =
    let e = not (eqb tag 0x29) in
    and-true (e || has_bearer (f 0x80) y) (bearers_in after y)
    (or_elim e (has_bearer (f 0x80) x) (λ q. or_left e (has_bearer (f 0x80) y) q) (λ q. or_right e (has_bearer (f 0x80) y) (k (f 0x80) q)) (and_left (e || has_bearer (f 0x80) x) (bearers_in after x) h))
    (in-more after x y k (and_right (e || has_bearer (f 0x80) x) (bearers_in after x) h))
in-more (leaf tag o after) x y k h = in-more after x y k h

languages-in : (n z : Meaning) → bearers_in (languages n) z ≡ true
unfolding languages bearers_in
languages-in nothing z = refl
languages-in (element tag f m c after) z = languages-in after z
languages-in (leaf tag o after) z = go (eqb tag 6) (languages-in after z)
  where
    go : (b : Bool) → bearers_in (languages after) z ≡ true → bearers_in (cond b (leaf tag o (languages after)) (languages after)) z ≡ true
    go true ih = ih
    go false ih = ih

new_in : (m n z : Meaning) → bearers_in (new_language m n) z ≡ true
unfolding new_language bearers_in
new_in m n z = go (has_language m)
  where
    go : (b : Bool) → bearers_in (cond b nothing (languages n)) z ≡ true
    go true = refl
    go false = languages-in n z

added-in : (by : Services) (m n z : Meaning) → bearers_in n z ≡ true → bearers_in (added by m n) z ≡ true
unfolding added bearers_in
added-in by m nothing z h = refl
added-in by m (element tag f x c after) z h =
    go (cond (merges tag) (has_partner by tag f x m) (has_equal (element tag f x c nothing) m)) (added-in by m after z (and_right here (bearers_in after z) h))
  where
    here : Bool
    here = not (eqb tag 0x29) || has_bearer (f 0x80) z

    go : (b : Bool) → bearers_in (added by m after) z ≡ true → bearers_in (cond b (added by m after) (element tag f x c (added by m after))) z ≡ true
    go true ih = ih
    go false ih = and-true here (bearers_in (added by m after) z) (and_left here (bearers_in after z) h) ih
added-in by m (leaf tag o after) z h = go (eqb tag 6 || has_equal (leaf tag o nothing) m) (added-in by m after z h)
  where
    go : (b : Bool) → bearers_in (added by m after) z ≡ true → bearers_in (cond b (added by m after) (leaf tag o (added by m after))) z ≡ true
    go true ih = ih
    go false ih = ih

service-kept : (by : Services) (m n : Meaning) → same_service by m n ≡ true → same_service by (joined by m n) m ≡ true
unfolding same_service
service-kept ByTag m n h = refl
service-kept ByBearers m n h =
    let x = merged ByBearers m n in
    let y = added ByBearers m n in
    let l = new_language m n in
    and-true (bearers_in (then l (then x y)) m) (bearers_in m (then l (then x y)))
    (in_then l (then x y) m (new_in m n m)
    (in_then x y m (merged-in ByBearers m n m ∙ bearers-same m) (added-in ByBearers m n m (and_right (bearers_in m n) (bearers_in n m) h))))
    (in-more m m (then l (then x y)) (λ v q. has-behind v l (then x y) (has-before v x y (merged-has ByBearers v m n ∙ q))) (bearers-same m))

-- an element that became one with its partner is a partner of what it was
kept : (by : Services) (tag tag' : ℕ) (f g : ℕ → Option Value) (m n : Meaning) → partners by tag tag' f g m n ≡ true → partners by tag tag (united f g) f (joined by m n) m ≡ true
unfolding same_key united
kept by tag tag' f g m n h =
    let p = partners-parts by tag tag' f g m n h in
    parts-partners by tag tag (united f g) f (joined by m n) m (record { can = p.can; tags = refl; keys = go (is_top tag) (eqb tag 0x28) p.keys })
  where
    k : ℕ
    k = key_attribute tag

    go : (b e : Bool) → cond b true (cond e (same_service by m n) (same_attribute (f k) (g k))) ≡ true
        → cond b true (cond e (same_service by (joined by m n) m) (same_attribute (either (f k) (g k)) (f k))) ≡ true
    go true e q = refl
    go false true q = service-kept by m n q
    go false false q = subst (λ v. same_attribute v (f k) ≡ true) (sym (either_same (f k) (g k) q)) (value_same (f k))

-- ---- partners among elements
transfer : (by : Services) (tag t : ℕ) (f h : ℕ → Option Value) (m x M : Meaning) → partners by tag t f h m x ≡ true → has_partner by t h x M ≡ true → has_partner by tag f m M ≡ true
unfolding has_partner
transfer by tag t f h m x nothing p q = absurd (false≢true q)
transfer by tag t f h m x (element u g y c after) p q =
    or_elim (partners by t u h g x y) (has_partner by t h x after)
    (λ w. or_left (partners by tag u f g m y) (has_partner by tag f m after) (partners-then by tag t u f h g m x y p w))
    (λ w. or_right (partners by tag u f g m y) (has_partner by tag f m after) (transfer by tag t f h m x after p w)) q
transfer by tag t f h m x (leaf u o after) p q = transfer by tag t f h m x after p q

module _ (by : Services) (t : ℕ) (h : ℕ → Option Value) (x : Meaning) where
  paired-partner : (tag : ℕ) (f : ℕ → Option Value) (m : Meaning) (c : Option (List ℕ)) (r a : Meaning)
      → has_partner by t h x (paired by tag f m c r (joined by m) a) ≡ partners by t tag h f x m || has_partner by t h x r
  unfolding paired has_partner
  paired-partner tag f m c r nothing = refl
  paired-partner tag f m c r (element tag' g n d more) = go (partners by tag tag' f g m n) refl (paired-partner tag f m c r more)
    where
      alike : partners by tag tag' f g m n ≡ true → partners by t tag h (united f g) x (joined by m n) ≡ partners by t tag h f x m
      alike e =
          let k = kept by tag tag' f g m n e in
          same_bool (partners by t tag h (united f g) x (joined by m n)) (partners by t tag h f x m)
          (λ q. partners-then by t tag tag h (united f g) f x (joined by m n) m q k)
          (λ q. partners-then by t tag tag h f (united f g) x m (joined by m n) q (partners-swap by tag tag (united f g) f (joined by m n) m k))

      go : (b : Bool) → partners by tag tag' f g m n ≡ b → has_partner by t h x (paired by tag f m c r (joined by m) more) ≡ partners by t tag h f x m || has_partner by t h x r
          → has_partner by t h x (cond b (element tag (united f g) (joined by m n) (either c d) r) (paired by tag f m c r (joined by m) more)) ≡ partners by t tag h f x m || has_partner by t h x r
      go true e ih = ap (λ b. b || has_partner by t h x r) (alike e)
      go false e ih = ih
  paired-partner tag f m c r (leaf tag' o more) = paired-partner tag f m c r more

  merged-partner : (b a : Meaning) → has_partner by t h x (merged by b a) ≡ has_partner by t h x b
  unfolding merged has_partner
  merged-partner nothing a = refl
  merged-partner (element tag f m c after) a = paired-partner tag f m c (merged by after a) a ∙ ap (λ b. partners by t tag h f x m || b) (merged-partner after a)
  merged-partner (leaf tag o after) a = merged-partner after a

  added-partner : (M n : Meaning) → has_partner by t h x (added by M n) ≡ true → has_partner by t h x n ≡ true
  unfolding added has_partner
  added-partner M nothing q = q
  added-partner M (element tag f m c after) q = go (cond (merges tag) (has_partner by tag f m M) (has_equal (element tag f m c nothing) M)) (added-partner M after) q
    where
      own : Bool
      own = partners by t tag h f x m

      go : (s : Bool) → (has_partner by t h x (added by M after) ≡ true → has_partner by t h x after ≡ true)
          → has_partner by t h x (cond s (added by M after) (element tag f m c (added by M after))) ≡ true → own || has_partner by t h x after ≡ true
      go true ih w = or_right own (has_partner by t h x after) (ih w)
      go false ih w = or_elim own (has_partner by t h x (added by M after)) (λ z. or_left own (has_partner by t h x after) z) (λ z. or_right own (has_partner by t h x after) (ih z)) w
  added-partner M (leaf tag o after) q = go (eqb tag 6 || has_equal (leaf tag o nothing) M) (added-partner M after) q
    where
      go : (s : Bool) → (has_partner by t h x (added by M after) ≡ true → has_partner by t h x after ≡ true)
          → has_partner by t h x (cond s (added by M after) (leaf tag o (added by M after))) ≡ true → has_partner by t h x after ≡ true
      go true ih w = ih w
      go false ih w = ih w

  -- nothing is added that has a partner among Basic's
  added-apart : (M n : Meaning) → has_partner by t h x (added by M n) ≡ true → has_partner by t h x M ≡ true → ⊥
  unfolding added has_partner
  added-apart M nothing q w = false≢true q
  added-apart M (element tag f m c after) q w =
      go (merges tag) refl (has_partner by tag f m M) refl (has_equal (element tag f m c nothing) M) (λ z. added-apart M after z w) q
    where
      own : Bool
      own = partners by t tag h f x m

      none-own : merges tag ≡ true → has_partner by tag f m M ≡ false → own ≡ true → ⊥
      none-own e z p = false≢true (sym z ∙ transfer by tag t f h m x M (partners-swap by t tag h f x m p) w)

      shut-own : merges tag ≡ false → own ≡ true → ⊥
      shut-own e p = let k = partners-parts by t tag h f x m p in false≢true (sym e ∙ subst (λ u. merges u ≡ true) k.tags k.can)

      go : (b : Bool) → merges tag ≡ b → (p : Bool) → has_partner by tag f m M ≡ p → (e : Bool) → (has_partner by t h x (added by M after) ≡ true → ⊥)
          → has_partner by t h x (cond (cond b p e) (added by M after) (element tag f m c (added by M after))) ≡ true → ⊥
      go true b true p e ih z = ih z
      go true b false p e ih z = or_elim own (has_partner by t h x (added by M after)) (λ y. none-own b p y) ih z
      go false b p q true ih z = ih z
      go false b p q false ih z = or_elim own (has_partner by t h x (added by M after)) (λ y. shut-own b y) ih z
  added-apart M (leaf tag o after) q w = go (eqb tag 6 || has_equal (leaf tag o nothing) M) (λ z. added-apart M after z w) q
    where
      go : (s : Bool) → (has_partner by t h x (added by M after) ≡ true → ⊥) → has_partner by t h x (cond s (added by M after) (leaf tag o (added by M after))) ≡ true → ⊥
      go true ih z = ih z
      go false ih z = ih z

-- ---- elements, then others: no key twice
abbrev Across : Services → Meaning → Meaning → Type 0
Across by nothing n = Unit {0}
Across by (element tag f m c after) n = (has_partner by tag f m n ≡ false) × Across by after n
Across by (leaf tag o after) n = Across by after n

then-partner : (by : Services) (t : ℕ) (h : ℕ → Option Value) (x l n : Meaning) → has_partner by t h x l ≡ false → has_partner by t h x n ≡ false → has_partner by t h x (then l n) ≡ false
unfolding has_partner then
then-partner by t h x nothing n p q = q
then-partner by t h x (element tag f m c after) n p q =
    let own = partners by t tag h f x m in
    rw (or-false-left own (has_partner by t h x after) p) (then-partner by t h x after n (or_right_false own (has_partner by t h x after) p) q)
then-partner by t h x (leaf tag o after) n p q = then-partner by t h x after n p q

twice-then : (by : Services) (l n : Meaning) → twice by l ≡ false → twice by n ≡ false → Across by l n → twice by (then l n) ≡ false
unfolding twice then
twice-then by nothing n p q k = q
twice-then by (element tag f m c after) n p q k =
    let a = has_partner by tag f m after in
    let b = twice by m in
    let both = or-false-left (a || b) (twice by after) p in
    all-false (has_partner by tag f m (then after n)) b (twice by (then after n)) (then-partner by tag f m after n (or-false-left a b both) k.0) (or_right_false a b both)
    (twice-then by after n (or_right_false (a || b) (twice by after) p) q k.1)
twice-then by (leaf tag o after) n p q k = twice-then by after n p q k

languages-once : (by : Services) (n : Meaning) → twice by (languages n) ≡ false
unfolding languages twice
languages-once by nothing = refl
languages-once by (element tag f m c after) = languages-once by after
languages-once by (leaf tag o after) = go (eqb tag 6) (languages-once by after)
  where
    go : (b : Bool) → twice by (languages after) ≡ false → twice by (cond b (leaf tag o (languages after)) (languages after)) ≡ false
    go true ih = ih
    go false ih = ih

languages-across : (by : Services) (n z : Meaning) → Across by (languages n) z
unfolding languages
languages-across by nothing z = tt
languages-across by (element tag f m c after) z = languages-across by after z
languages-across by (leaf tag o after) z = go (eqb tag 6) (languages-across by after z)
  where
    go : (b : Bool) → Across by (languages after) z → Across by (cond b (leaf tag o (languages after)) (languages after)) z
    go true ih = ih
    go false ih = ih

added-once : (by : Services) (M n : Meaning) → twice by n ≡ false → twice by (added by M n) ≡ false
unfolding added twice
added-once by M nothing h = refl
added-once by M (element tag f m c after) h =
    go (cond (merges tag) (has_partner by tag f m M) (has_equal (element tag f m c nothing) M)) (added-once by M after (or_right_false (a || b) (twice by after) h))
  where
    a : Bool
    a = has_partner by tag f m after

    b : Bool
    b = twice by m

    both : a || b ≡ false
    both = or-false-left (a || b) (twice by after) h

    go : (s : Bool) → twice by (added by M after) ≡ false → twice by (cond s (added by M after) (element tag f m c (added by M after))) ≡ false
    go true ih = ih
    go false ih =
        all-false (has_partner by tag f m (added by M after)) b (twice by (added by M after))
        (not_so (has_partner by tag f m (added by M after)) (λ q. false≢true (sym (or-false-left a b both) ∙ added-partner by tag f m M after q))) (or_right_false a b both) ih
added-once by M (leaf tag o after) h = go (eqb tag 6 || has_equal (leaf tag o nothing) M) (added-once by M after h)
  where
    go : (s : Bool) → twice by (added by M after) ≡ false → twice by (cond s (added by M after) (leaf tag o (added by M after))) ≡ false
    go true ih = ih
    go false ih = ih

-- each element that can have a partner has one among others
abbrev InKeys : Services → Meaning → Meaning → Type 0
InKeys by nothing M = Unit {0}
InKeys by (element tag f m c after) M = (merges tag ≡ true → has_partner by tag f m M ≡ true) × InKeys by after M
InKeys by (leaf tag o after) M = InKeys by after M

keys-more : (by : Services) (l : Meaning) (tag : ℕ) (f : ℕ → Option Value) (m : Meaning) (c : Option (List ℕ)) (M : Meaning) → InKeys by l M → InKeys by l (element tag f m c M)
unfolding has_partner
keys-more by nothing tag f m c M k = tt
keys-more by (element t g x d after) tag f m c M k = ((λ q. or_right (partners by t tag g f x m) (has_partner by t g x M) (k.0 q)), keys-more by after tag f m c M k.1)
keys-more by (leaf t o after) tag f m c M k = keys-more by after tag f m c M k

keys-leaf : (by : Services) (l : Meaning) (tag : ℕ) (o : List ℕ) (M : Meaning) → InKeys by l M → InKeys by l (leaf tag o M)
unfolding has_partner
keys-leaf by nothing tag o M k = tt
keys-leaf by (element t g x d after) tag o M k = (k.0, keys-leaf by after tag o M k.1)
keys-leaf by (leaf t p after) tag o M k = keys-leaf by after tag o M k

keys-same : (by : Services) (M : Meaning) → InKeys by M M
unfolding has_partner
keys-same by nothing = tt
keys-same by (element tag f m c after) =
    ((λ q. or_left (partners by tag tag f f m m) (has_partner by tag f m after) (partners-same by tag f m q)), keys-more by after tag f m c after (keys-same by after))
keys-same by (leaf tag o after) = keys-leaf by after tag o after (keys-same by after)

paired-keys : (by : Services) (tag : ℕ) (f : ℕ → Option Value) (m : Meaning) (c : Option (List ℕ)) (r a M : Meaning) → (merges tag ≡ true → has_partner by tag f m M ≡ true) → InKeys by r M
    → InKeys by (paired by tag f m c r (joined by m) a) M
unfolding paired
paired-keys by tag f m c r nothing M p k = (p, k)
paired-keys by tag f m c r (element tag' g n d more) M p k = go (partners by tag tag' f g m n) refl (paired-keys by tag f m c r more M p k)
  where
    go : (b : Bool) → partners by tag tag' f g m n ≡ b → InKeys by (paired by tag f m c r (joined by m) more) M
        → InKeys by (cond b (element tag (united f g) (joined by m n) (either c d) r) (paired by tag f m c r (joined by m) more)) M
    go true e ih = ((λ q. transfer by tag tag (united f g) f (joined by m n) m M (kept by tag tag' f g m n e) (p q)), k)
    go false e ih = ih
paired-keys by tag f m c r (leaf tag' o more) M p k = paired-keys by tag f m c r more M p k

merged-keys : (by : Services) (b a M : Meaning) → InKeys by b M → InKeys by (merged by b a) M
unfolding merged
merged-keys by nothing a M k = tt
merged-keys by (element tag f m c after) a M k = paired-keys by tag f m c (merged by after a) a M k.0 (merged-keys by after a M k.1)
merged-keys by (leaf tag o after) a M k = merged-keys by after a M k

added-across : (by : Services) (l M n : Meaning) → InKeys by l M → Across by l (added by M n)
added-across by nothing M n k = tt
added-across by (element tag f m c after) M n k = (go (merges tag) refl, added-across by after M n k.1)
  where
    go : (b : Bool) → merges tag ≡ b → has_partner by tag f m (added by M n) ≡ false
    go true e = not_so (has_partner by tag f m (added by M n)) (λ q. added-apart by tag f m M n q (k.0 e))
    go false e = cannot by tag f m (added by M n) e
added-across by (leaf tag o after) M n k = added-across by after M n k

-- ---- the children of two partners, and all
joined_once : (by : Services) (m n : Meaning) → twice by (merged by m n) ≡ false → twice by n ≡ false → twice by (joined by m n) ≡ false
unfolding new_language twice then
joined_once by m n p q = go (has_language m)
  where
    rest : twice by (then (merged by m n) (added by m n)) ≡ false
    rest = twice-then by (merged by m n) (added by m n) p (added-once by m n q) (added-across by (merged by m n) m n (merged-keys by m n m (keys-same by m)))

    go : (b : Bool) → twice by (then (cond b nothing (languages n)) (then (merged by m n) (added by m n))) ≡ false
    go true = rest
    go false = twice-then by (languages n) (then (merged by m n) (added by m n)) (languages-once by n) rest (languages-across by n (then (merged by m n) (added by m n)))

paired-once : (by : Services) (tag : ℕ) (f : ℕ → Option Value) (m : Meaning) (c : Option (List ℕ)) (r a : Meaning) → has_partner by tag f m r ≡ false → twice by m ≡ false → twice by r ≡ false
    → ((n : Meaning) → twice by n ≡ false → twice by (joined by m n) ≡ false) → twice by a ≡ false → twice by (paired by tag f m c r (joined by m) a) ≡ false
unfolding paired twice
paired-once by tag f m c r nothing p q s within h = all-false (has_partner by tag f m r) (twice by m) (twice by r) p q s
paired-once by tag f m c r (element tag' g n d more) p q s within h =
    go (partners by tag tag' f g m n) refl (paired-once by tag f m c r more p q s within (or_right_false (x || y) (twice by more) h))
  where
    x : Bool
    x = has_partner by tag' g n more

    y : Bool
    y = twice by n

    go : (b : Bool) → partners by tag tag' f g m n ≡ b → twice by (paired by tag f m c r (joined by m) more) ≡ false
        → twice by (cond b (element tag (united f g) (joined by m n) (either c d) r) (paired by tag f m c r (joined by m) more)) ≡ false
    go true e ih =
        let k = partners-swap by tag tag (united f g) f (joined by m n) m (kept by tag tag' f g m n e) in
        all-false (has_partner by tag (united f g) (joined by m n) r) (twice by (joined by m n)) (twice by r)
        (not_so (has_partner by tag (united f g) (joined by m n) r) (λ z. false≢true (sym p ∙ transfer by tag tag f (united f g) m (joined by m n) r k z)))
        (within n (or_right_false x y (or-false-left (x || y) (twice by more) h))) s
    go false e ih = ih
paired-once by tag f m c r (leaf tag' o more) p q s within h = paired-once by tag f m c r more p q s within h

pub once-merged : OnceMerged
unfolding merged twice
once-merged by nothing a p q = refl
once-merged by (element tag f m c after) a p q =
    let x = has_partner by tag f m after in
    let y = twice by m in
    let both = or-false-left (x || y) (twice by after) p in
    let own = or_right_false x y both in
    paired-once by tag f m c (merged by after a) a (merged-partner by tag f m after a ∙ or-false-left x y both) own (once-merged by after a (or_right_false (x || y) (twice by after) p) q)
    (λ n h. joined_once by m n (once-merged by m n own h) h) q
once-merged by (leaf tag o after) a p q = once-merged by after a p q

pub result-once : ResultOnce
result-once by basic advanced os ps m m' room room' n size c w e =
    let k = merge-once by basic advanced os ps m m' room room' n size c in
    let same : merged by k.first k.second ≡ w = some-injective (merged by k.first k.second) w (sym k.means-it ∙ e) in
    subst (λ x. twice by x ≡ false) same (once-merged by k.first k.second k.first_once k.second_once)

pub merge-again : MergeAgain
merge-again by basic advanced os ps m m' room room' n size rs c empty es tag w e g t k k' space space' answer fits d =
    let r = merge-with-empty by (take size.0 room') empty (octets-take size.0 room' rs) es k k' space space' answer d w tag e g t
    (result-once by basic advanced os ps m m' room room' n size c w e) fits in
    r
