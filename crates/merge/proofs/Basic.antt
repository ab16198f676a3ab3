-- Nothing of Basic is lost, and its order stays.
use mathlib.Core.Path.{refl}
use mathlib.Core.Bool.{Bool, true, false, cond}
use mathlib.Core.Option.{Option, none, some}
use mathlib.Core.List.{List}
use Prim.Native.Nat.{ℕ}
use Rattle.values.specs.Values.{Value}
use Rattle.format.specs.Meaning.{Meaning}
use Rattle.format.specs.Meaning.Meaning.{nothing, element, leaf}
use Rattle.merge.specs.declared.Services.{Services}
use Rattle.merge.specs.Keys.{partners}
use Rattle.merge.specs.Merged.{either, united, then, new_language, added, paired, merged}
use Rattle.merge.specs.Kept.{Stays, InOrder}
use Rattle.merge.specs.Kept.InOrder.{none_left, here, leaf-here, passed, leaf-passed}

stays_same : {A : Type 0} (a : Option A) → Stays a a
stays_same none = tt
stays_same (some a) = refl

stays-either : {A : Type 0} (a b : Option A) → Stays a (either a b)
unfolding either
stays-either none b = tt
stays-either (some a) b = refl

pub in-order-same : (m : Meaning) → InOrder m m
in-order-same nothing = none_left
in-order-same (element tag f m c after) = here (λ a. stays_same (f a)) (in-order-same m) (stays_same c) (in-order-same after)
in-order-same (leaf tag o after) = leaf-here (in-order-same after)

behind : (b m r : Meaning) → InOrder b r → InOrder b (then m r)
unfolding then
behind b nothing r h = h
behind b (element tag f m c after) r h = passed (behind b after r h)
behind b (leaf tag o after) r h = leaf-passed (behind b after r h)

before : (n : Meaning) {b r : Meaning} → InOrder b r → InOrder b (then r n)
unfolding then
before n none_left = none_left
before n (here s i c k) = here s i c (before n k)
before n (leaf-here k) = leaf-here (before n k)
before n (passed k) = passed (before n k)
before n (leaf-passed k) = leaf-passed (before n k)

paired-keeps : (by : Services) (tag : ℕ) (f : ℕ → Option Value) (m : Meaning) (c : Option (List ℕ)) (after r : Meaning) (inside : Meaning → Meaning) (a : Meaning) → InOrder after r
    → ((n : Meaning) → InOrder m (inside n)) → InOrder (element tag f m c after) (paired by tag f m c r inside a)
unfolding paired united
paired-keeps by tag f m c after r inside nothing h k = here (λ a. stays_same (f a)) (in-order-same m) (stays_same c) h
paired-keeps by tag f m c after r inside (element tag' g n d more) h k = go (partners by tag tag' f g m n) (paired-keeps by tag f m c after r inside more h k)
  where
    go : (b : Bool) → InOrder (element tag f m c after) (paired by tag f m c r inside more)
        → InOrder (element tag f m c after) (cond b (element tag (united f g) (inside n) (either c d) r) (paired by tag f m c r inside more))
    go true ih = here (λ a. stays-either (f a) (g a)) (k n) (stays-either c d) h
    go false ih = ih
paired-keeps by tag f m c after r inside (leaf tag' o more) h k = paired-keeps by tag f m c after r inside more h k

-- all that Basic has is in the result, in Basic's order
pub basic-kept : (by : Services) (b a : Meaning) → InOrder b (merged by b a)
unfolding merged
basic-kept by nothing a = none_left
basic-kept by (element tag f m c after) a =
    paired-keeps by tag f m c after (merged by after a) (λ n. then (new_language m n) (then (merged by m n) (added by m n))) a (basic-kept by after a)
    (λ n. behind m (new_language m n) (then (merged by m n) (added by m n)) (before (added by m n) (basic-kept by m n)))
basic-kept by (leaf tag o after) a = leaf-here (basic-kept by after a)
