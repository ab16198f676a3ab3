-- What theorems say of merging (change request 2026-10): which meanings can be merged, that nothing is lost, and that nothing comes from elsewhere.
use Rattle.std.specs.Prelude.{◌≡◌, ◌⊎◌, true, false, List, ℕ}
use Rattle.std.proofs.Math.Option.{Option, none, some}
use Rattle.values.specs.Values.{Value}
use Rattle.format.specs.Meaning.{Meaning}
use Rattle.format.specs.Meaning.Meaning.{nothing, element, leaf}
use Rattle.merge.specs.declared.Services.{Services}
use Rattle.merge.specs.Keys.{has_equal}
use Rattle.merge.specs.Merged.{clash, same_top, twice}

-- an object whose top has nothing in it
abbrev pub empty_top : ℕ → Meaning
empty_top tag = element tag (λ a. none) nothing none nothing

-- nothing is in the way of merging two meanings: neither 20 nor 21
pub record Mergeable (by : Services) (basic advanced : Meaning) : Type 0 where
  pub tops : same_top basic advanced ≡ true
  pub quiet : clash by basic advanced ≡ false
  pub basic_once : twice by basic ≡ false
  pub advanced_once : twice by advanced ≡ false

-- what is there stays there, the same
abbrev pub Stays : {A : Type 0} → Option A → Option A → Type 0
Stays none b = Unit {0}
Stays (some a) b = b ≡ some a

-- the second elements have all of the first, in their order: each with its attributes, its CDATA and, in the same way, its children
pub data InOrder : Meaning → Meaning → Type 0 where
  none_left : {r : Meaning} → InOrder nothing r
  here : {tag : ℕ} {f g : ℕ → Option Value} {m n : Meaning} {c d : Option (List ℕ)} {after r : Meaning} → ((a : ℕ) → Stays (f a) (g a)) → InOrder m n → Stays c d
      → InOrder after r → InOrder (element tag f m c after) (element tag g n d r)
  leaf-here : {tag : ℕ} {o : List ℕ} {after r : Meaning} → InOrder after r → InOrder (leaf tag o after) (leaf tag o r)
  passed : {b : Meaning} {tag : ℕ} {f : ℕ → Option Value} {m : Meaning} {c : Option (List ℕ)} {r : Meaning} → InOrder b r → InOrder b (element tag f m c r)
  leaf-passed : {b : Meaning} {tag : ℕ} {o : List ℕ} {r : Meaning} → InOrder b r → InOrder b (leaf tag o r)

-- among the elements there is one with the tag, the attributes and the CDATA, and with what is asked of its children
abbrev pub Among : (tag : ℕ) → (ℕ → Option Value) → Option (List ℕ) → (Meaning → Type 0) → Meaning → Type 0
Among tag f c inside nothing = ⊥
Among tag f c inside (element tag' g n d r) = ((tag ≡ tag') × ((a : ℕ) → Stays (f a) (g a)) × inside n × Stays c d) ⊎ Among tag f c inside r
Among tag f c inside (leaf tag' o r) = Among tag f c inside r

-- each of the first elements is among the second, in any order: with all of its children, in the same way, or one of equal meaning is there
abbrev pub AnyOrder : Meaning → Meaning → Type 0
AnyOrder nothing r = Unit {0}
AnyOrder (element tag f m c after) r = (Among tag f c (λ n. AnyOrder m n) r ⊎ (has_equal (element tag f m c nothing) r ≡ true)) × AnyOrder after r
AnyOrder (leaf tag o after) r = (has_equal (leaf tag o nothing) r ≡ true) × AnyOrder after r

-- a single element is one of the elements
abbrev pub IsOne : Meaning → Meaning → Type 0
IsOne one nothing = ⊥
IsOne one (element tag f m c after) = (one ≡ element tag f m c nothing) ⊎ IsOne one after
IsOne one (leaf tag o after) = (one ≡ leaf tag o nothing) ⊎ IsOne one after

-- each of the last elements is one of Basic's or of Advanced's, as it stands there; or two of them become one: each attribute is that of one of the two, and so
-- is the CDATA, and its children come in the same way from theirs
pub data Comes : (basic advanced : Meaning) → Meaning → Type 0 where
  no_more : {b a : Meaning} → Comes b a nothing
  whole : {b a : Meaning} {tag : ℕ} {f : ℕ → Option Value} {m : Meaning} {c : Option (List ℕ)} {r : Meaning} → IsOne (element tag f m c nothing) b ⊎ IsOne (element tag f m c nothing) a
      → Comes b a r → Comes b a (element tag f m c r)
  whole-leaf : {b a : Meaning} {tag : ℕ} {o : List ℕ} {r : Meaning} → IsOne (leaf tag o nothing) b ⊎ IsOne (leaf tag o nothing) a → Comes b a r → Comes b a (leaf tag o r)
  joined : {b a : Meaning} {tag : ℕ} {f g h : ℕ → Option Value} {m n k : Meaning} {c d e : Option (List ℕ)} {r : Meaning} → IsOne (element tag f m c nothing) b
      → IsOne (element tag g n d nothing) a → ((x : ℕ) → (h x ≡ f x) ⊎ (h x ≡ g x)) → Comes m n k → (e ≡ c) ⊎ (e ≡ d) → Comes b a r → Comes b a (element tag h k e r)
