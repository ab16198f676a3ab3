-- Nothing of Advanced is lost, where nothing clashes and no key is there twice.
use mathlib.Core.Path.{◌≡◌, refl, sym, ap, ◌∙◌, subst}
use mathlib.Core.Logic.{◌⊎◌, inl, inr}
use mathlib.Core.Bool.{Bool, true, false, cond, not, ◌&&◌, ◌||◌, false≢true}
use mathlib.Core.Option.{Option, none, some}
use mathlib.Core.List.{List}
use Prim.Native.Nat.{ℕ, zero, suc, ◌+◌, ◌≤◌, ◌<◌}
use native.Mathlib.Omega.{arith}
use lib.Dec.{eqb}
use borrow.Author.Tests.{eqb-true, eqb-false, ltb-true, not-false}
use Rattle.values.specs.declared.Kind.TheVariants.{HoldsPlain}
use Rattle.values.specs.Table.{known, attribute, kind_in, rows}
use Rattle.values.specs.Values.{Value}
use Rattle.format.specs.Judge.{is_items, is_top, stage_after}
use Rattle.format.specs.Meaning.{Meaning, opens}
use Rattle.format.specs.Meaning.Meaning.{nothing, element, leaf}
use Rattle.format.specs.Same.{same_octets, same_value, same_maybe, same_meaning}
use Rattle.format.specs.WellFormed.{AttributeOk, LeafOk, WellFormed, ObjectOk}
use Rattle.format.specs.WellFormed.LeafOk.{language, plainly}
use Rattle.octets.proofs.Tests.{or_elim, or_left, or_right_false}
use Rattle.format.proofs.Means.{opens-leaf}
use Rattle.format.proofs.Same.{same-octets, attribute-exactly}
use Rattle.merge.specs.declared.Services.{Services}
use Rattle.merge.specs.Keys.{merges, partners, has_partner, has_equal}
use Rattle.merge.specs.Merged.{either, united, then, has_language, languages, new_language, added, paired, merged, apart, any_apart, both_there, other_language, clashing, clash, same_top, twice}
use Rattle.merge.specs.Kept.{Stays, Among, AnyOrder}
use Rattle.merge.proofs.Empty.{top-is, tops-partners}
use Rattle.merge.proofs.Keys.{or_right, partners-swap, partners-then}
use Rattle.merge.proofs.Equal.{meaning-same, tag_of, same_tag, equal-behind, equal-before, equal-here, equal-leaf}
use Rattle.merge.proofs.Fine.{partners-tag}
use Rattle.merge.proofs.Self.{then-element, then-leaf, or-false-left, paired-alone, paired-found, cannot, twice-behind, none_before}

-- ---- one of equal meaning is still there

equal-paired : (by : Services) (o : Meaning) (tag : ℕ) (f : ℕ → Option Value) (m : Meaning) (c : Option (List ℕ)) (r : Meaning) (inside : Meaning → Meaning) (a : Meaning) → has_equal o r ≡ true
    → has_equal o (paired by tag f m c r inside a) ≡ true
unfolding paired has_equal
equal-paired by o tag f m c r inside nothing h = or_right (same_meaning o (element tag f m c nothing)) (has_equal o r) h
equal-paired by o tag f m c r inside (element tag' g n d more) h = go (partners by tag tag' f g m n) (equal-paired by o tag f m c r inside more h)
  where
    go : (b : Bool) → has_equal o (paired by tag f m c r inside more) ≡ true
        → has_equal o (cond b (element tag (united f g) (inside n) (either c d) r) (paired by tag f m c r inside more)) ≡ true
    go true ih = or_right (same_meaning o (element tag (united f g) (inside n) (either c d) nothing)) (has_equal o r) h
    go false ih = ih
equal-paired by o tag f m c r inside (leaf tag' p more) h = equal-paired by o tag f m c r inside more h

-- an element of Basic that can have no partner stands in the result as it is
equal-merged : (by : Services) (o b a : Meaning) → merges (tag_of o) ≡ false → has_equal o b ≡ true → has_equal o (merged by b a) ≡ true
unfolding merged has_equal
equal-merged by o nothing a z h = absurd (false≢true h)
equal-merged by o (element tag f m c after) a z h =
    let inside : Meaning → Meaning = λ n. then (new_language m n) (then (merged by m n) (added by m n)) in
    let r = merged by after a in
    or_elim (same_meaning o (element tag f m c nothing)) (has_equal o after)
    (λ q. let e : tag_of o ≡ tag = same_tag o (element tag f m c nothing) q in
    rw (paired-alone by tag f m c r inside a (cannot by tag f m a (rw e at z))) (or_left (same_meaning o (element tag f m c nothing)) (has_equal o r) q))
    (λ q. equal-paired by o tag f m c r inside a (equal-merged by o after a z q)) h
equal-merged by o (leaf tag p after) a z h =
    let this = same_meaning o (leaf tag p nothing) in
    or_elim this (has_equal o after) (λ q. or_left this (has_equal o (merged by after a)) q) (λ q. or_right this (has_equal o (merged by after a)) (equal-merged by o after a z q)) h

-- what can have a partner holds items, so a leaf can't
pub merges-opens : (tag : ℕ) → merges tag ≡ true → opens tag ≡ true
unfolding merges is_top opens known is_items kind_in rows attribute
merges-opens tag h =
    or_elim (is_top tag || (eqb tag 0x26 || eqb tag 0x28 || eqb tag 0x29) || (eqb tag 0x21 || eqb tag 0x1C)) (eqb tag 0x20 || eqb tag 0x23)
    (λ q. or_elim (is_top tag || (eqb tag 0x26 || eqb tag 0x28 || eqb tag 0x29)) (eqb tag 0x21 || eqb tag 0x1C)
    (λ q. or_elim (eqb tag 2 || eqb tag 3) (eqb tag 0x26 || eqb tag 0x28 || eqb tag 0x29)
    (λ q. or_elim (eqb tag 2) (eqb tag 3) (λ q. is 2 refl q) (λ q. is 3 refl q) q)
    (λ q. or_elim (eqb tag 0x26 || eqb tag 0x28) (eqb tag 0x29) (λ q. or_elim (eqb tag 0x26) (eqb tag 0x28) (λ q. is 0x26 refl q) (λ q. is 0x28 refl q) q) (λ q. is 0x29 refl q) q) q)
    (λ q. or_elim (eqb tag 0x21) (eqb tag 0x1C) (λ q. is 0x21 refl q) (λ q. is 0x1C refl q) q) q)
    (λ q. or_elim (eqb tag 0x20) (eqb tag 0x23) (λ q. is 0x20 refl q) (λ q. is 0x23 refl q) q) h
  where
    is : (n : ℕ) → opens n ≡ true → eqb tag n ≡ true → opens tag ≡ true
    is n e q = ap opens (eqb-true tag n q) ∙ e

leaf-single : (tag : ℕ) (o : List ℕ) → LeafOk tag o → merges tag ≡ false
unfolding is_items merges is_top
leaf-single tag o (language six words) = rw six
leaf-single tag o (plainly e) = go (merges tag) refl
  where
    go : (b : Bool) → merges tag ≡ b → b ≡ false
    go true h = absurd (false≢true (sym (opens-leaf tag HoldsPlain e refl) ∙ merges-opens tag h))
    go false h = refl

-- ---- what is added

added-element : (by : Services) (b l : Meaning) (tag : ℕ) (g : ℕ → Option Value) (n : Meaning) (d : Option (List ℕ)) (more : Meaning)
    → cond (merges tag) (has_partner by tag g n b) (has_equal (element tag g n d nothing) b) ≡ false
    → has_equal (element tag g n d nothing) (added by b (then l (element tag g n d more))) ≡ true
unfolding added then has_equal
added-element by b nothing tag g n d more h = rw h (equal-here tag g n d (added by b more))
added-element by b (element t f m c after) tag g n d more h =
    go (cond (merges t) (has_partner by t f m b) (has_equal (element t f m c nothing) b)) (added-element by b after tag g n d more h)
  where
    o : Meaning
    o = element tag g n d nothing

    r : Meaning
    r = added by b (then after (element tag g n d more))

    go : (s : Bool) → has_equal o r ≡ true → has_equal o (cond s r (element t f m c r)) ≡ true
    go true ih = ih
    go false ih = or_right (same_meaning o (element t f m c nothing)) (has_equal o r) ih
added-element by b (leaf t p after) tag g n d more h = go (eqb t 6 || has_equal (leaf t p nothing) b) (added-element by b after tag g n d more h)
  where
    o : Meaning
    o = element tag g n d nothing

    r : Meaning
    r = added by b (then after (element tag g n d more))

    go : (s : Bool) → has_equal o r ≡ true → has_equal o (cond s r (leaf t p r)) ≡ true
    go true ih = ih
    go false ih = or_right (same_meaning o (leaf t p nothing)) (has_equal o r) ih

added-leaf : (by : Services) (b l : Meaning) (tag : ℕ) (p : List ℕ) (more : Meaning) → eqb tag 6 || has_equal (leaf tag p nothing) b ≡ false
    → has_equal (leaf tag p nothing) (added by b (then l (leaf tag p more))) ≡ true
unfolding added then has_equal
added-leaf by b nothing tag p more h = rw h (equal-leaf tag p (added by b more))
added-leaf by b (element t f m c after) tag p more h =
    go (cond (merges t) (has_partner by t f m b) (has_equal (element t f m c nothing) b)) (added-leaf by b after tag p more h)
  where
    o : Meaning
    o = leaf tag p nothing

    r : Meaning
    r = added by b (then after (leaf tag p more))

    go : (s : Bool) → has_equal o r ≡ true → has_equal o (cond s r (element t f m c r)) ≡ true
    go true ih = ih
    go false ih = or_right (same_meaning o (element t f m c nothing)) (has_equal o r) ih
added-leaf by b (leaf t q after) tag p more h = go (eqb t 6 || has_equal (leaf t q nothing) b) (added-leaf by b after tag p more h)
  where
    o : Meaning
    o = leaf tag p nothing

    r : Meaning
    r = added by b (then after (leaf tag p more))

    go : (s : Bool) → has_equal o r ≡ true → has_equal o (cond s r (leaf t q r)) ≡ true
    go true ih = ih
    go false ih = or_right (same_meaning o (leaf t q nothing)) (has_equal o r) ih

-- ---- 0x06

language-there : (l : Meaning) (tag : ℕ) (p : List ℕ) (more : Meaning) → eqb tag 6 ≡ true → has_equal (leaf tag p nothing) (languages (then l (leaf tag p more))) ≡ true
unfolding languages then has_equal
language-there nothing tag p more h = rw h (equal-leaf tag p (languages more))
language-there (element t f m c after) tag p more h = language-there after tag p more h
language-there (leaf t q after) tag p more h = go (eqb t 6) (language-there after tag p more h)
  where
    o : Meaning
    o = leaf tag p nothing

    r : Meaning
    r = languages (then after (leaf tag p more))

    go : (s : Bool) → has_equal o r ≡ true → has_equal o (cond s (leaf t q r) r) ≡ true
    go true ih = or_right (same_meaning o (leaf t q nothing)) (has_equal o r) ih
    go false ih = ih

other_at : (q : List ℕ) (l : Meaning) (tag : ℕ) (p : List ℕ) (more : Meaning) → eqb tag 6 ≡ true → other_language q (then l (leaf tag p more)) ≡ false → same_octets q p ≡ true
unfolding other_language then
other_at q nothing tag p more h e = not-false (same_octets q p) (or-false-left (not (same_octets q p)) (other_language q more) (rw h at e))
other_at q (element t f m c after) tag p more h e = other_at q after tag p more h e
other_at q (leaf t x after) tag p more h e = other_at q after tag p more h (or_right_false (eqb t 6 && not (same_octets q x)) (other_language q (then after (leaf tag p more))) e)

-- where nothing clashes, Basic's 0x06 is Advanced's
language-equal : (by : Services) (b l : Meaning) (tag : ℕ) (p : List ℕ) (more : Meaning) → eqb tag 6 ≡ true → has_language b ≡ true → clash by b (then l (leaf tag p more)) ≡ false
    → has_equal (leaf tag p nothing) b ≡ true
unfolding has_language clash has_equal
language-equal by nothing l tag p more h g e = absurd (false≢true g)
language-equal by (element t f m c after) l tag p more h g e =
    let a = then l (leaf tag p more) in
    or_right (same_meaning (leaf tag p nothing) (element t f m c nothing)) (has_equal (leaf tag p nothing) after)
    (language-equal by after l tag p more h g (or_right_false (clashing by t f m c (clash by m) a) (clash by after a) e))
language-equal by (leaf t q after) l tag p more h g e =
    let a = then l (leaf tag p more) in
    let this = same_meaning (leaf tag p nothing) (leaf t q nothing) in
    or_elim (eqb t 6) (has_language after)
    (λ six. let s = other_at q l tag p more h (or-false-left (other_language q a) (clash by after a) (rw six at e)) in
    let tt : tag ≡ t = eqb-true tag 6 h ∙ sym (eqb-true t 6 six) in
    let pq : p ≡ q = sym (same-octets q p s) in
    or_left this (has_equal (leaf tag p nothing) after) (rw (tt, pq) (meaning-same (leaf t q nothing))))
    (λ k. or_right this (has_equal (leaf tag p nothing) after) (language-equal by after l tag p more h k (or_right_false (eqb t 6 && other_language q a) (clash by after a) e))) g

-- ---- a pair that doesn't clash

apart-at : (k a x : ℕ) (f g : ℕ → Option Value) → a ≤ x → x < a + k → any_apart k a f g ≡ false → apart (f x) (g x) ≡ false
unfolding any_apart
apart-at zero a x f g l h e = absurd (omega arith)
apart-at (suc k) a x f g l h e = go (eqb a x) refl (λ q. apart-at k (suc a) x f g q (omega arith) (or_right_false (apart (f a) (g a)) (any_apart k (suc a) f g) e))
  where
    go : (b : Bool) → eqb a x ≡ b → (suc a ≤ x → apart (f x) (g x) ≡ false) → apart (f x) (g x) ≡ false
    go true q ih = subst (λ y. apart (f y) (g y) ≡ false) (eqb-true a x q) (or-false-left (apart (f a) (g a)) (any_apart k (suc a) f g) e)
    go false q ih = ih (omega (arith, eqb-false a x q))

stays-united : (tag x : ℕ) (v w : Option Value) → AttributeOk tag x v → AttributeOk tag x w → ((0x80 ≤ x) → x < 256 → apart v w ≡ false) → Stays w (either v w)
unfolding either apart same_maybe attribute
stays-united tag x none none p q h = tt
stays-united tag x none (some w) p q h = refl
stays-united tag x (some v) none p q h = tt
stays-united tag x (some v) (some w) p q h =
    (attribute-exactly tag x (some v) (some w) p.value q.value).0 (not-false (same_value v w) (h (omega (arith, ltb-true 0x7F x p.value.0)) p.value.1))

stays-cdata : (c d : Option (List ℕ)) → both_there c d ≡ false → Stays d (either c d)
unfolding either both_there
stays-cdata none none h = tt
stays-cdata none (some o) h = refl
stays-cdata (some p) none h = tt
stays-cdata (some p) (some o) h = absurd (false≢true (sym h))

record Calm (f g : ℕ → Option Value) (c d : Option (List ℕ)) (below : Bool) : Type 0 where
  values : any_apart 128 0x80 f g ≡ false
  texts : both_there c d ≡ false
  inside : below ≡ false

calm-at : (by : Services) (t : ℕ) (f : ℕ → Option Value) (m : Meaning) (c : Option (List ℕ)) (below : Meaning → Bool) (l : Meaning) (tag : ℕ) (g : ℕ → Option Value) (n : Meaning) (d : Option (List ℕ)) (more : Meaning)
    → partners by t tag f g m n ≡ true → clashing by t f m c below (then l (element tag g n d more)) ≡ false → Calm f g c d (below n)
unfolding clashing then
calm-at by t f m c below nothing tag g n d more p e =
    let x = any_apart 128 0x80 f g in
    let y = both_there c d in
    let all : x || y || below n ≡ false = or-false-left (x || y || below n) (clashing by t f m c below more) (rw p at e) in
    record { values = or-false-left x y (or-false-left (x || y) (below n) all); texts = or_right_false x y (or-false-left (x || y) (below n) all); inside = or_right_false (x || y) (below n) all }
calm-at by t f m c below (element u h k w after) tag g n d more p e =
    calm-at by t f m c below after tag g n d more p
    (or_right_false (partners by t u f h m k && (any_apart 128 0x80 f h || both_there c w || below k)) (clashing by t f m c below (then after (element tag g n d more))) e)
calm-at by t f m c below (leaf u o after) tag g n d more p e = calm-at by t f m c below after tag g n d more p e

-- what is no partner of one is none of the other
none_other : (by : Services) (t tag : ℕ) (f g : ℕ → Option Value) (m n l : Meaning) → partners by t tag f g m n ≡ true → has_partner by tag g n l ≡ false → has_partner by t f m l ≡ false
unfolding has_partner
none_other by t tag f g m n nothing p h = refl
none_other by t tag f g m n (element u k x c after) p h =
    rw (go (partners by t u f k m x) refl) (none_other by t tag f g m n after p (or_right_false (partners by tag u g k n x) (has_partner by tag g n after) h))
  where
    go : (b : Bool) → partners by t u f k m x ≡ b → b ≡ false
    go false e = refl
    go true e =
        absurd (false≢true (sym (or-false-left (partners by tag u g k n x) (has_partner by tag g n after) h) ∙ partners-then by tag t u g f k n m x (partners-swap by t tag f g m n p) e))
none_other by t tag f g m n (leaf u o after) p h = none_other by t tag f g m n after p h

-- ---- among

among-paired : (by : Services) (tag : ℕ) (g : ℕ → Option Value) (d : Option (List ℕ)) (P : Meaning → Type 0) (t : ℕ) (f : ℕ → Option Value) (m : Meaning) (c : Option (List ℕ)) (r : Meaning) (inside : Meaning → Meaning)
    (a : Meaning) → Among tag g d P r → Among tag g d P (paired by t f m c r inside a)
unfolding paired
among-paired by tag g d P t f m c r inside nothing h = inr h
among-paired by tag g d P t f m c r inside (element tag' k n w more) h = go (partners by t tag' f k m n) (among-paired by tag g d P t f m c r inside more h)
  where
    go : (b : Bool) → Among tag g d P (paired by t f m c r inside more) → Among tag g d P (cond b (element t (united f k) (inside n) (either c w) r) (paired by t f m c r inside more))
    go true ih = inr h
    go false ih = ih
among-paired by tag g d P t f m c r inside (leaf tag' o more) h = among-paired by tag g d P t f m c r inside more h

among-before : (tag : ℕ) (g : ℕ → Option Value) (d : Option (List ℕ)) (P : Meaning → Type 0) (r n : Meaning) → Among tag g d P r → Among tag g d P (then r n)
unfolding then
among-before tag g d P nothing n h = absurd h
among-before tag g d P (element t f m c after) n (inl h) = inl h
among-before tag g d P (element t f m c after) n (inr h) = inr (among-before tag g d P after n h)
among-before tag g d P (leaf t o after) n h = among-before tag g d P after n h

among-behind : (tag : ℕ) (g : ℕ → Option Value) (d : Option (List ℕ)) (P : Meaning → Type 0) (l r : Meaning) → Among tag g d P r → Among tag g d P (then l r)
unfolding then
among-behind tag g d P nothing r h = h
among-behind tag g d P (element t f m c after) r h = inr (among-behind tag g d P after r h)
among-behind tag g d P (leaf t o after) r h = among-behind tag g d P after r h

-- ---- the children of partners

abbrev children : Services → Meaning → Meaning → Meaning
children by b a = then (new_language b a) (then (merged by b a) (added by b a))

-- an element of Advanced with a partner in Basic is one with it in the result
abbrev Joins : Services → Meaning → Type 0
Joins by b = (p d s r : ℕ) (l : Meaning) (tag : ℕ) (g : ℕ → Option Value) (n : Meaning) (c : Option (List ℕ)) (more : Meaning) → WellFormed p d s b → WellFormed p d r (then l (element tag g n c more))
    → clash by b (then l (element tag g n c more)) ≡ false → twice by (then l (element tag g n c more)) ≡ false → has_partner by tag g n b ≡ true
    → Among tag g c (λ k. AnyOrder n k) (merged by b (then l (element tag g n c more)))

abbrev Carries : Services → Meaning → Type 0
Carries by b = (p d s r : ℕ) (a : Meaning) → WellFormed p d s b → WellFormed p d r a → clash by b a ≡ false → twice by a ≡ false → AnyOrder a (children by b a)

carried-element : (by : Services) (b : Meaning) → Joins by b → (p d s r : ℕ) (l : Meaning) (tag : ℕ) (g : ℕ → Option Value) (n : Meaning) (c : Option (List ℕ)) (more : Meaning) → WellFormed p d s b
    → WellFormed p d r (then l (element tag g n c more)) → clash by b (then l (element tag g n c more)) ≡ false → twice by (then l (element tag g n c more)) ≡ false
    → Among tag g c (λ k. AnyOrder n k) (children by b (then l (element tag g n c more)))
    ⊎ (has_equal (element tag g n c nothing) (children by b (then l (element tag g n c more))) ≡ true)
carried-element by b join p d s r l tag g n c more ok_b ok_a q t = go (merges tag) refl
  where
    a : Meaning
    a = then l (element tag g n c more)

    o : Meaning
    o = element tag g n c nothing

    Goal : Type 0
    Goal = Among tag g c (λ k. AnyOrder n k) (children by b a) ⊎ (has_equal o (children by b a) ≡ true)

    new : cond (merges tag) (has_partner by tag g n b) (has_equal o b) ≡ false → Goal
    new h = inr (equal-behind o (new_language b a) (then (merged by b a) (added by b a)) (equal-behind o (merged by b a) (added by b a) (added-element by b l tag g n c more h)))

    named : (y : Bool) → has_partner by tag g n b ≡ y → merges tag ≡ true → Goal
    named true h e =
        inl (among-behind tag g c (λ k. AnyOrder n k) (new_language b a) (then (merged by b a) (added by b a)) (among-before tag g c (λ k. AnyOrder n k) (merged by b a) (added by b a) (join p d s r l tag g n c more ok_b ok_a q t h)))
    named false h e = new (rw e h)

    other : (y : Bool) → has_equal o b ≡ y → merges tag ≡ false → Goal
    other true h e =
        inr (equal-behind o (new_language b a) (then (merged by b a) (added by b a)) (equal-before o (merged by b a) (added by b a) (equal-merged by o b a e h)))
    other false h e = new (rw e h)

    go : (x : Bool) → merges tag ≡ x → Goal
    go true e = named (has_partner by tag g n b) refl e
    go false e = other (has_equal o b) refl e

carried-leaf : (by : Services) (b : Meaning) (p d r : ℕ) (l : Meaning) (tag : ℕ) (x : List ℕ) (more : Meaning) → LeafOk tag x → clash by b (then l (leaf tag x more)) ≡ false
    → has_equal (leaf tag x nothing) (children by b (then l (leaf tag x more))) ≡ true
unfolding new_language then
carried-leaf by b p d r l tag x more ok q = go (eqb tag 6) refl
  where
    a : Meaning
    a = then l (leaf tag x more)

    o : Meaning
    o = leaf tag x nothing

    kept : has_equal o b ≡ true → has_equal o (children by b a) ≡ true
    kept h =
        equal-behind o (new_language b a) (then (merged by b a) (added by b a)) (equal-before o (merged by b a) (added by b a) (equal-merged by o b a (leaf-single tag x ok) h))

    six : (y : Bool) → has_language b ≡ y → eqb tag 6 ≡ true → has_equal o (children by b a) ≡ true
    six true h e = kept (language-equal by b l tag x more e h q)
    six false h e = rw h (equal-before o (languages a) (then (merged by b a) (added by b a)) (language-there l tag x more e))

    plain : (y : Bool) → has_equal o b ≡ y → eqb tag 6 ≡ false → has_equal o (children by b a) ≡ true
    plain true h e = kept h
    plain false h e =
        equal-behind o (new_language b a) (then (merged by b a) (added by b a)) (equal-behind o (merged by b a) (added by b a) (added-leaf by b l tag x more (rw (e, h))))

    go : (y : Bool) → eqb tag 6 ≡ y → has_equal o (children by b a) ≡ true
    go true e = six (has_language b) refl e
    go false e = plain (has_equal o b) refl e

-- what is well-formed is so at each of its elements
record Element (d tag : ℕ) (g : ℕ → Option Value) (n : Meaning) : Type 0 where
  attributes : (a : ℕ) → AttributeOk tag a (g a)
  inside : WellFormed tag (suc d) 0 n

element-at : (p d r : ℕ) (l : Meaning) (tag : ℕ) (g : ℕ → Option Value) (n : Meaning) (c : Option (List ℕ)) (more : Meaning) → WellFormed p d r (then l (element tag g n c more)) → Element d tag g n
unfolding then
element-at p d r nothing tag g n c more ok = record { attributes = ok.2; inside = ok.3 }
element-at p d r (element t f m x after) tag g n c more ok = element-at p d (stage_after t) after tag g n c more ok.5
element-at p d r (leaf t o after) tag g n c more ok = element-at p d (stage_after t) after tag g n c more ok.2

leaf-at : (p d r : ℕ) (l : Meaning) (tag : ℕ) (x : List ℕ) (more : Meaning) → WellFormed p d r (then l (leaf tag x more)) → LeafOk tag x
unfolding then
leaf-at p d r nothing tag x more ok = ok.1
leaf-at p d r (element t f m y after) tag x more ok = leaf-at p d (stage_after t) after tag x more ok.5
leaf-at p d r (leaf t o after) tag x more ok = leaf-at p d (stage_after t) after tag x more ok.2

-- no key is twice inside an element either
once-inside : (by : Services) (l : Meaning) (tag : ℕ) (g : ℕ → Option Value) (n : Meaning) (c : Option (List ℕ)) (more : Meaning) → twice by (then l (element tag g n c more)) ≡ false → twice by n ≡ false
unfolding twice
once-inside by l tag g n c more h =
    let own = twice-behind by l (element tag g n c more) h in
    or_right_false (has_partner by tag g n more) (twice by n) (or-false-left (has_partner by tag g n more || twice by n) (twice by more) own)

all-carried : (by : Services) (b : Meaning) → Joins by b → (p d s r : ℕ) → WellFormed p d s b → (rest l a : Meaning) → then l rest ≡ a → WellFormed p d r a → clash by b a ≡ false → twice by a ≡ false
    → AnyOrder rest (children by b a)
all-carried by b join p d s r ok_b nothing l a e ok_a q t = tt
all-carried by b join p d s r ok_b (element tag g n c more) l a e ok_a q t = (
  subst (λ x. Among tag g c (λ k. AnyOrder n k) (children by b x) ⊎ (has_equal (element tag g n c nothing) (children by b x) ≡ true)) e
      (carried-element by b join p d s r l tag g n c more ok_b (subst (λ x. WellFormed p d r x) (sym e) ok_a) (subst (λ x. clash by b x ≡ false) (sym e) q) (subst (λ x. twice by x ≡ false) (sym e) t)),
  all-carried by b join p d s r ok_b more (then l (element tag g n c nothing)) a (sym (then-element l tag g n c more) ∙ e) ok_a q t,
)
all-carried by b join p d s r ok_b (leaf tag x more) l a e ok_a q t = (
  subst (λ y. has_equal (leaf tag x nothing) (children by b y) ≡ true) e
      (carried-leaf by b p d r l tag x more (leaf-at p d r l tag x more (subst (λ y. WellFormed p d r y) (sym e) ok_a)) (subst (λ y. clash by b y ≡ false) (sym e) q)),
  all-carried by b join p d s r ok_b more (then l (leaf tag x nothing)) a (sym (then-leaf l tag x more) ∙ e) ok_a q t,
)

joins-carries : (by : Services) (b : Meaning) → Joins by b → Carries by b
unfolding then
joins-carries by b join p d s r a ok_b ok_a q t = all-carried by b join p d s r ok_b a nothing a refl ok_a q t

-- the pair of one of Basic's elements and one of Advanced's
joined-pair : (by : Services) (p d s r t : ℕ) (f : ℕ → Option Value) (m : Meaning) (x : Option (List ℕ)) (after l : Meaning) (tag : ℕ) (g : ℕ → Option Value) (n : Meaning) (c : Option (List ℕ)) (more : Meaning)
    → Carries by m → WellFormed p d s (element t f m x after) → WellFormed p d r (then l (element tag g n c more)) → clash by (element t f m x after) (then l (element tag g n c more)) ≡ false
    → twice by (then l (element tag g n c more)) ≡ false → partners by tag t g f n m ≡ true
    → Among tag g c (λ k. AnyOrder n k) (merged by (element t f m x after) (then l (element tag g n c more)))
unfolding merged clash united
joined-pair by p d s r t f m x after l tag g n c more carries ok_b ok_a q w h =
    let a = then l (element tag g n c more) in
    let h' = partners-swap by tag t g f n m h in
    let e : tag ≡ t = partners-tag by tag t g f n m h in
    let alone = none_other by t tag f g m n l h' (none_before by l tag g n c more w) in
    let calm = calm-at by t f m x (clash by m) l tag g n c more h' (or-false-left (clashing by t f m x (clash by m) a) (clash by after a) q) in
    let at = element-at p d r l tag g n c more ok_a in
    let inner = carries t (suc d) 0 0 n ok_b.3 (subst (λ y. WellFormed y (suc d) 0 n) e at.inside) calm.inside (once-inside by l tag g n c more w) in
    rw (paired-found by t tag f g m n x c (merged by after a) (λ k. then (new_language m k) (then (merged by m k) (added by m k))) l more alone h')
    (inl (e, (λ y. stays-united t y (f y) (g y) (ok_b.2 y) (subst (λ z. AttributeOk z y (g y)) e (at.attributes y)) (λ u v. apart-at 128 0x80 y f g u v calm.values)), inner, stays-cdata x c calm.texts))

joins : (by : Services) (b : Meaning) → Joins by b
unfolding merged has_partner clash
joins by nothing p d s r l tag g n c more ok_b ok_a q w h = absurd (false≢true h)
joins by (element t f m x after) p d s r l tag g n c more ok_b ok_a q w h =
    let a = then l (element tag g n c more) in
    or_elim (partners by tag t g f n m) (has_partner by tag g n after)
    (λ e. joined-pair by p d s r t f m x after l tag g n c more (joins-carries by m (joins by m)) ok_b ok_a q w e)
    (λ e. among-paired by tag g c (λ k. AnyOrder n k) t f m x (merged by after a) (λ k. then (new_language m k) (then (merged by m k) (added by m k))) a
    (joins by after p d (stage_after t) r l tag g n c more ok_b.5 ok_a (or_right_false (clashing by t f m x (clash by m) a) (clash by after a) q) w e)) h
joins by (leaf t o after) p d s r l tag g n c more ok_b ok_a q w h =
    joins by after p d (stage_after t) r l tag g n c more ok_b.2 ok_a (or_right_false (eqb t 6 && other_language o (then l (element tag g n c more))) (clash by after (then l (element tag g n c more))) q) w h

-- all that Advanced has is in the result, where nothing clashes and Advanced holds no key twice
top-carried : (by : Services) (t : ℕ) (f g : ℕ → Option Value) (m n : Meaning) (c d : Option (List ℕ)) → WellFormed 0 1 0 (element t f m c nothing) → WellFormed 0 1 0 (element t g n d nothing)
    → clash by (element t f m c nothing) (element t g n d nothing) ≡ false → twice by (element t g n d nothing) ≡ false
    → AnyOrder (element t g n d nothing) (merged by (element t f m c nothing) (element t g n d nothing))
unfolding then has_partner
top-carried by t f g m n c d ok_b ok_a q w =
    let h : has_partner by t g n (element t f m c nothing) ≡ true = or_left (partners by t t g f n m) false (tops-partners by t g f n m (top-is t ok_b.0.allow)) in
    (inl (joins by (element t f m c nothing) 0 1 0 0 nothing t g n d nothing ok_b ok_a q w h), tt)

pub advanced-kept : (by : Services) (b a : Meaning) → ObjectOk b → ObjectOk a → same_top b a ≡ true → clash by b a ≡ false → twice by a ≡ false → AnyOrder a (merged by b a)
unfolding same_top
advanced-kept by nothing a ok_b ok_a h q w = absurd ok_b
advanced-kept by (leaf t o after) a ok_b ok_a h q w = absurd ok_b
advanced-kept by (element t f m c (element t' f' m' c' after)) a ok_b ok_a h q w = absurd ok_b
advanced-kept by (element t f m c (leaf t' o after)) a ok_b ok_a h q w = absurd ok_b
advanced-kept by (element t f m c nothing) nothing ok_b ok_a h q w = absurd ok_a
advanced-kept by (element t f m c nothing) (leaf t' o after) ok_b ok_a h q w = absurd ok_a
advanced-kept by (element t f m c nothing) (element t' g n d (element t'' f' m' c' after)) ok_b ok_a h q w = absurd ok_a
advanced-kept by (element t f m c nothing) (element t' g n d (leaf t'' o after)) ok_b ok_a h q w = absurd ok_a
advanced-kept by (element t f m c nothing) (element t' g n d nothing) ok_b ok_a h q w =
    let e : t ≡ t' = eqb-true t t' h in
    subst (λ x. WellFormed 0 1 0 (element x g n d nothing) → clash by (element t f m c nothing) (element x g n d nothing) ≡ false → twice by (element x g n d nothing) ≡ false
    → AnyOrder (element x g n d nothing) (merged by (element t f m c nothing) (element x g n d nothing))) e (λ k i j. top-carried by t f g m n c d ok_b k i j) ok_a q w
