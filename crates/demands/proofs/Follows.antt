-- What becomes of the children of two elements, by the definitions.
use mathlib.Core.Path.{◌≡◌, refl, sym, ◌∙◌, subst}
use mathlib.Core.Bool.{Bool, true, false, cond, ◌||◌, false≢true}
use mathlib.Core.Logic.{inl, inr}
use mathlib.Core.Option.{Option}
use mathlib.Core.List.{List}
use Prim.Native.Nat.{ℕ, ◌+◌, ◌≤◌}
use native.Mathlib.Omega.{arith}
use lib.Dec.{eqb}
use borrow.Author.Tests.{eqb-true}
use Rattle.octets.proofs.Tests.{or_right_false}
use Rattle.values.specs.Values.{Value}
use Rattle.format.specs.Meaning.{Meaning}
use Rattle.format.specs.Meaning.Meaning.{nothing, element, leaf}
use Rattle.merge.specs.declared.Services.{Services}
use Rattle.merge.specs.Keys.{merges, partners, has_partner, has_equal}
use Rattle.merge.specs.Merged.{either, united, then, new_language, added, paired, merged, twice}
use Rattle.merge.proofs.Keys.{partners-swap, partners-then}
use Rattle.merge.proofs.Self.{cannot, or-false-left}
use Rattle.demands.specs.Follows.{partners_among, OneToOne, Held, Becomes, Follow, MergedChildren}
use Rattle.demands.specs.Follows.Becomes.{done as all_done, alone, joins, leaf-stays}
use Rattle.demands.specs.Follows.Follow.{done as none_left, joined, equal, follows, language, leaf-equal, leaf-follows}

-- ---- one to one
none-among : (by : Services) (tag : ℕ) (f : ℕ → Option Value) (m a : Meaning) → has_partner by tag f m a ≡ false → partners_among by tag f m a ≡ 0
unfolding partners_among has_partner
none-among by tag f m nothing h = refl
none-among by tag f m (element t g n c after) h =
    rw (or-false-left (partners by tag t f g m n) (has_partner by tag f m after) h) (omega (arith, none-among by tag f m after (or_right_false (partners by tag t f g m n) (has_partner by tag f m after) h)))
none-among by tag f m (leaf t o after) h = none-among by tag f m after h

-- a partner of an element has no partner where that has none
none_of : (by : Services) (tag t : ℕ) (f g : ℕ → Option Value) (m n a : Meaning) → partners by tag t f g m n ≡ true → has_partner by t g n a ≡ false → has_partner by tag f m a ≡ false
unfolding has_partner
none_of by tag t f g m n nothing p h = refl
none_of by tag t f g m n (element u k x c after) p h =
    let first = or-false-left (partners by t u g k n x) (has_partner by t g n after) h in
    rw (other (partners by tag u f k m x) refl first) (none_of by tag t f g m n after p (or_right_false (partners by t u g k n x) (has_partner by t g n after) h))
  where
    other : (b : Bool) → partners by tag u f k m x ≡ b → partners by t u g k n x ≡ false → b ≡ false
    other true e z = absurd (false≢true (sym z ∙ partners-then by t tag u g f k n m x (partners-swap by tag t f g m n p) e))
    other false e z = refl
none_of by tag t f g m n (leaf u o after) p h = none_of by tag t f g m n after p h

pub one-to-one : OneToOne
unfolding partners_among twice
one-to-one by tag f m nothing h = omega arith
one-to-one by tag f m (element t g n c after) h =
    let a = has_partner by t g n after in
    let b = twice by n in
    go (partners by tag t f g m n) refl (or-false-left a b (or-false-left (a || b) (twice by after) h)) (one-to-one by tag f m after (or_right_false (a || b) (twice by after) h))
  where
    go : (b : Bool) → partners by tag t f g m n ≡ b → has_partner by t g n after ≡ false → partners_among by tag f m after ≤ 1 → cond b 1 0 + partners_among by tag f m after ≤ 1
    go true p z ih = omega (arith, none-among by tag f m after (none_of by tag t f g m n after p z))
    go false p z ih = omega arith
one-to-one by tag f m (leaf t o after) h = one-to-one by tag f m after h

-- ---- Basic's
abbrev inside : Services → Meaning → Meaning → Meaning
inside by m n = then (new_language m n) (then (merged by m n) (added by m n))

module _ (by : Services) (tag : ℕ) (f : ℕ → Option Value) (m : Meaning) (c : Option (List ℕ)) (after r : Meaning) where
  -- the element stands alone, or there is one of these that it becomes one with
  data Way (a : Meaning) : Meaning → Type 0 where
    apart : has_partner by tag f m a ≡ false → Way a (element tag f m c r)
    together : (g : ℕ → Option Value) (n : Meaning) (d : Option (List ℕ)) → Held by tag f m g n d a → Way a (element tag (united f g) (inside by m n) (either c d) r)

  way : (a : Meaning) → Way a (paired by tag f m c r (inside by m) a)
  unfolding paired has_partner
  way nothing = apart refl
  way (element tag' g n d more) = go (partners by tag tag' f g m n) refl (paired by tag f m c r (inside by m) more) (way more)
    where
      later : (p : partners by tag tag' f g m n ≡ false) (o : Meaning) → Way more o → Way (element tag' g n d more) o
      later p o (apart h) = apart (rw (p, h))
      later p o (together k x e h) = together k x e (inr h)

      go : (b : Bool) → partners by tag tag' f g m n ≡ b → (o : Meaning) → Way more o → Way (element tag' g n d more) (cond b (element tag (united f g) (inside by m n) (either c d) r) o)
      go true p o w = together g n d (inl (p, refl, refl, refl))
      go false p o w = later p o w
  way (leaf tag' p more) = go (paired by tag f m c r (inside by m) more) (way more)
    where
      go : (o : Meaning) → Way more o → Way (leaf tag' p more) o
      go o (apart h) = apart h
      go o (together k x e h) = together k x e h

  becomes-one : (a o : Meaning) → Way a o → Becomes by a after r → Becomes by a (element tag f m c after) o
  becomes-one a o (apart h) k = alone h k
  becomes-one a o (together g n d h) k = joins g n d h k

becomes : (by : Services) (b a : Meaning) → Becomes by a b (merged by b a)
unfolding merged
becomes by nothing a = all_done
becomes by (element tag f m c after) a =
    becomes-one by tag f m c after (merged by after a) a (paired by tag f m c (merged by after a) (inside by m) a) (way by tag f m c after (merged by after a) a) (becomes by after a)
becomes by (leaf tag o after) a = leaf-stays (becomes by after a)

-- ---- Advanced's
behind : (by : Services) (b a : Meaning) → Follow by b a (added by b a)
unfolding added
behind by b nothing = none_left
behind by b (element tag f m c after) = go (merges tag) refl (has_partner by tag f m b) refl (has_equal (element tag f m c nothing) b) refl (behind by b after)
  where
    go : (x : Bool) → merges tag ≡ x → (y : Bool) → has_partner by tag f m b ≡ y → (z : Bool) → has_equal (element tag f m c nothing) b ≡ z → Follow by b after (added by b after)
        → Follow by b (element tag f m c after) (cond (cond x y z) (added by b after) (element tag f m c (added by b after)))
    go true p true q z s ih = joined p q ih
    go true p false q z s ih = follows q (λ e. absurd (false≢true (sym e ∙ p))) ih
    go false p y q true s ih = equal p s ih
    go false p y q false s ih = follows (cannot by tag f m b p) (λ e. s) ih
behind by b (leaf tag o after) = go (eqb tag 6) refl (has_equal (leaf tag o nothing) b) refl (behind by b after)
  where
    go : (x : Bool) → eqb tag 6 ≡ x → (y : Bool) → has_equal (leaf tag o nothing) b ≡ y → Follow by b after (added by b after)
        → Follow by b (leaf tag o after) (cond (x || y) (added by b after) (leaf tag o (added by b after)))
    go true p y q ih = subst (λ t. Follow by b (leaf t o after) (added by b after)) (sym (eqb-true tag 6 p)) (language ih)
    go false p true q ih = leaf-equal q ih
    go false p false q ih = leaf-follows q ih

pub merged-children : MergedChildren
merged-children by b a = record { first = becomes by b a; behind = behind by b a }
