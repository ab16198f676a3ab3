-- Every element, attribute and text of a result comes from one of the two.
use mathlib.Core.Path.{◌≡◌, refl, sym, subst}
use mathlib.Core.Logic.{◌⊎◌, inl, inr}
use mathlib.Core.Bool.{Bool, true, false, cond, ◌||◌}
use mathlib.Core.Option.{Option, none, some}
use mathlib.Core.List.{List}
use Prim.Native.Nat.{ℕ}
use lib.Dec.{eqb}
use Rattle.values.specs.Values.{Value}
use Rattle.format.specs.Meaning.{Meaning}
use Rattle.format.specs.Meaning.Meaning.{nothing, element, leaf}
use Rattle.merge.specs.declared.Services.{Services}
use Rattle.merge.specs.Keys.{merges, partners, has_partner, has_equal}
use Rattle.merge.specs.Merged.{either, united, then, has_language, languages, new_language, added, paired, merged}
use Rattle.merge.specs.Kept.{IsOne, Comes}
use Rattle.merge.specs.Kept.Comes.{no_more, whole, whole-leaf, joined}
use Rattle.merge.proofs.Fine.{partners-tag}

-- all elements of the first are elements of the second
abbrev Part : Meaning → Meaning → Type 0
Part m n = (one : Meaning) → IsOne one m → IsOne one n

comes-then : {b a m : Meaning} (n : Meaning) → Comes b a m → Comes b a n → Comes b a (then m n)
unfolding then
comes-then n no_more k = k
comes-then n (whole i h) k = whole i (comes-then n h k)
comes-then n (whole-leaf i h) k = whole-leaf i (comes-then n h k)
comes-then n (joined i j u v w h) k = joined i j u v w (comes-then n h k)

languages-come : (b a n : Meaning) → Part n a → Comes b a (languages n)
unfolding languages
languages-come b a nothing i = no_more
languages-come b a (element tag f m c after) i = languages-come b a after (λ one h. i one (inr h))
languages-come b a (leaf tag o after) i = go (eqb tag 6) (languages-come b a after (λ one h. i one (inr h)))
  where
    go : (t : Bool) → Comes b a (languages after) → Comes b a (cond t (leaf tag o (languages after)) (languages after))
    go true h = whole-leaf (inr (i (leaf tag o nothing) (inl refl))) h
    go false h = h

new-comes : (b a : Meaning) → Comes b a (new_language b a)
unfolding new_language
new-comes b a = go (has_language b)
  where
    go : (t : Bool) → Comes b a (cond t nothing (languages a))
    go true = no_more
    go false = languages-come b a a (λ one h. h)

added-comes : (by : Services) (b a n : Meaning) → Part n a → Comes b a (added by b n)
unfolding added
added-comes by b a nothing i = no_more
added-comes by b a (element tag f m c after) i =
    go (cond (merges tag) (has_partner by tag f m b) (has_equal (element tag f m c nothing) b)) (added-comes by b a after (λ one h. i one (inr h)))
  where
    go : (t : Bool) → Comes b a (added by b after) → Comes b a (cond t (added by b after) (element tag f m c (added by b after)))
    go true h = h
    go false h = whole (inr (i (element tag f m c nothing) (inl refl))) h
added-comes by b a (leaf tag o after) i = go (eqb tag 6 || has_equal (leaf tag o nothing) b) (added-comes by b a after (λ one h. i one (inr h)))
  where
    go : (t : Bool) → Comes b a (added by b after) → Comes b a (cond t (added by b after) (leaf tag o (added by b after)))
    go true h = h
    go false h = whole-leaf (inr (i (leaf tag o nothing) (inl refl))) h

either-comes : {A : Type 0} (a b : Option A) → (either a b ≡ a) ⊎ (either a b ≡ b)
unfolding either
either-comes none b = inr refl
either-comes (some a) b = inl refl

paired-comes : (by : Services) (b a : Meaning) (tag : ℕ) (f : ℕ → Option Value) (m : Meaning) (c : Option (List ℕ)) (r : Meaning) (inside : Meaning → Meaning) (n : Meaning)
    → IsOne (element tag f m c nothing) b → Part n a → ((k : Meaning) → Comes m k (inside k)) → Comes b a r → Comes b a (paired by tag f m c r inside n)
unfolding paired united
paired-comes by b a tag f m c r inside nothing i p within h = whole (inl i) h
paired-comes by b a tag f m c r inside (element tag' g n d more) i p within h =
    go (partners by tag tag' f g m n) refl (paired-comes by b a tag f m c r inside more i (λ one q. p one (inr q)) within h)
  where
    go : (t : Bool) → partners by tag tag' f g m n ≡ t → Comes b a (paired by tag f m c r inside more)
        → Comes b a (cond t (element tag (united f g) (inside n) (either c d) r) (paired by tag f m c r inside more))
    go true e ih =
        let there = subst (λ t. IsOne (element t g n d nothing) a) (sym (partners-tag by tag tag' f g m n e)) (p (element tag' g n d nothing) (inl refl)) in
        joined i there (λ x. either-comes (f x) (g x)) (within n) (either-comes c d) h
    go false e ih = ih
paired-comes by b a tag f m c r inside (leaf tag' o more) i p within h = paired-comes by b a tag f m c r inside more i (λ one q. p one (inr q)) within h

children-come : (by : Services) (m n : Meaning) → Comes m n (merged by m n) → Comes m n (then (new_language m n) (then (merged by m n) (added by m n)))
children-come by m n h =
    comes-then (then (merged by m n) (added by m n)) (new-comes m n) (comes-then (added by m n) h (added-comes by m n n (λ one i. i)))

merged-comes : (by : Services) (b a n : Meaning) → Part n b → Comes b a (merged by n a)
unfolding merged
merged-comes by b a nothing i = no_more
merged-comes by b a (element tag f m c after) i =
    paired-comes by b a tag f m c (merged by after a) (λ n. then (new_language m n) (then (merged by m n) (added by m n))) a (i (element tag f m c nothing) (inl refl)) (λ one h. h)
    (λ n. children-come by m n (merged-comes by m n m (λ one h. h))) (merged-comes by b a after (λ one h. i one (inr h)))
merged-comes by b a (leaf tag o after) i = whole-leaf (inl (i (leaf tag o nothing) (inl refl))) (merged-comes by b a after (λ one h. i one (inr h)))

-- all that a result has is Basic's or Advanced's
pub all-comes : (by : Services) (b a : Meaning) → Comes b a (merged by b a)
all-comes by b a = merged-comes by b a b (λ one h. h)
