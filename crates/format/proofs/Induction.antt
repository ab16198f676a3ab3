-- One induction for all that is said of accepted parts: at the end, at an unknown item, at an element that holds items, at any other known item.
use mathlib.Core.Path.{◌≡◌, refl, subst}
use mathlib.Core.Bool.{false}
use mathlib.Core.Option.{Option, none, some}
use mathlib.Core.List.{List, [], ◌∷◌}
use Prim.Native.Nat.{ℕ, zero, suc, ◌+◌, ◌≤◌}
use native.Mathlib.Omega.{arith}
use lib.ListN.{length, drop, length-drop}
use lib.Seq.{length-take-le}
use Rattle.octets.specs.Header.{header_size, body_size}
use Rattle.octets.specs.Places.{first_body, after_first}
use Rattle.values.specs.declared.Kind.{Kind}
use Rattle.values.specs.Table.{known}
use Rattle.values.specs.declared.Kind.TheVariants.{HoldsItems, HoldsText, HoldsPlain, HoldsTokens, HoldsTime, HoldsBearer, HoldsNumber}
use Rattle.format.specs.Tree.{Items}
use Rattle.format.specs.Tree.Items.{end, item}
use Rattle.format.specs.Judge.{Judged, is_known, is_items, Context, items, broken, by_kind, joined, followed, late, within, next, judge, outermost}
use Rattle.format.specs.Judge.Judged.{refused, accepted}
use Rattle.octets.proofs.Frames.{header-two}
use Rattle.octets.proofs.Tests.{never}
use Rattle.format.proofs.Rules.{fitting, unless-none, unless-accepted, same-tree, accepted-read}

-- the rules of a part's first item hold
abbrev pub Unbroken : Context → ℕ → ℕ → List ℕ → Type 0
Unbroken c at tag rest = broken c at tag (header_size (tag ∷ rest)) (body_size (tag ∷ rest)) (suc (length rest)) (first_body (tag ∷ rest)) ≡ none

abbrev pub Nexts : Context → ℕ → ℕ → List ℕ → Context
Nexts c at tag rest = next c at tag (first_body (tag ∷ rest))

abbrev pub in_at : ℕ → List ℕ → ℕ
in_at at p = at + header_size p

pub record Cases (P : Context → ℕ → List ℕ → Items → Type 0) : Type 0 where
  pub at_end : (c : Context) (at : ℕ) → late [] c.waiting ≡ none → P c at [] end
  pub at_unknown : (c : Context) (at tag : ℕ) (rest : List ℕ) (u : Items) → Unbroken c at tag rest → known c.parent tag ≡ none
      → P (Nexts c at tag rest) (in_at at (tag ∷ rest) + body_size (tag ∷ rest)) (after_first (tag ∷ rest)) u → P c at (tag ∷ rest) u
  pub at_element : (c : Context) (at tag : ℕ) (rest : List ℕ) (s u : Items) → Unbroken c at tag rest → known c.parent tag ≡ some HoldsItems
      → P (within c tag) (in_at at (tag ∷ rest)) (first_body (tag ∷ rest)) s → P (Nexts c at tag rest) (in_at at (tag ∷ rest) + body_size (tag ∷ rest)) (after_first (tag ∷ rest)) u
      → P c at (tag ∷ rest) (item tag (in_at at (tag ∷ rest)) (first_body (tag ∷ rest)) s u)
  pub at_leaf : (c : Context) (at tag : ℕ) (rest : List ℕ) (u : Items) (k : Kind) → Unbroken c at tag rest → known c.parent tag ≡ some k → is_items (some k) ≡ false
      → P (Nexts c at tag rest) (in_at at (tag ∷ rest) + body_size (tag ∷ rest)) (after_first (tag ∷ rest)) u
      → P c at (tag ∷ rest) (item tag (in_at at (tag ∷ rest)) (first_body (tag ∷ rest)) end u)

module _ (P : Context → ℕ → List ℕ → Items → Type 0) (cases : Cases P) where
  via-followed : (Q : Items → Type 0) (f : Items → Items) (a : Judged) (t : Items) → ((u : Items) → a ≡ accepted u → Q (f u)) → followed f a ≡ accepted t → Q t
  unfolding followed
  via-followed Q f (refused r) t g h = never (cc)
  via-followed Q f (accepted u) t g h = subst Q (same-tree (f u) t h) (g u refl)

  via-joined : (Q : Items → Type 0) (f : Items → Items → Items) (a b : Judged) (t : Items) → ((s u : Items) → a ≡ accepted s → b ≡ accepted u → Q (f s u)) → joined f a b ≡ accepted t → Q t
  unfolding joined
  via-joined Q f (refused r) b t g h = never (cc)
  via-joined Q f (accepted s) b t g h = via-followed Q (f s) b t (λ u e. g s u refl e) h

  via-kind : (Q : Items → Type 0) (kd : Option Kind) (f : Items → Items → Items) (a b : Judged) (t : Items)
      → (kd ≡ none → b ≡ accepted t → Q t) → (kd ≡ some HoldsItems → (s u : Items) → a ≡ accepted s → b ≡ accepted u → Q (f s u))
      → ((k : Kind) → kd ≡ some k → is_items (some k) ≡ false → (u : Items) → b ≡ accepted u → Q (f end u)) → by_kind kd f a b ≡ accepted t → Q t
  unfolding by_kind is_items is_known
  via-kind Q none f a b t x y z h = x refl h
  via-kind Q (some HoldsItems) f a b t x y z h = via-joined Q f a b t (y refl) h
  via-kind Q (some HoldsText) f a b t x y z h = via-followed Q (f end) b t (z HoldsText refl refl) h
  via-kind Q (some HoldsPlain) f a b t x y z h = via-followed Q (f end) b t (z HoldsPlain refl refl) h
  via-kind Q (some HoldsTokens) f a b t x y z h = via-followed Q (f end) b t (z HoldsTokens refl refl) h
  via-kind Q (some HoldsTime) f a b t x y z h = via-followed Q (f end) b t (z HoldsTime refl refl) h
  via-kind Q (some HoldsBearer) f a b t x y z h = via-followed Q (f end) b t (z HoldsBearer refl refl) h
  via-kind Q (some (HoldsNumber n)) f a b t x y z h = via-followed Q (f end) b t (z (HoldsNumber n) refl refl) h

  abbrev All : ℕ → Type 0
  All k = (c : Context) (at : ℕ) (part : List ℕ) (t : Items) → items k c at part ≡ accepted t → P c at part t

  all-zero : All zero
  unfolding items
  all-zero c at part t h = never (cc)

  all_end : (k : ℕ) (c : Context) (at : ℕ) (t : Items) → items (suc k) c at [] ≡ accepted t → P c at [] t
  unfolding items
  all_end k c at t h =
      subst (P c at []) (same-tree end t (unless-accepted (late [] c.waiting) (accepted end) t h)) (cases.at_end c at (unless-none (late [] c.waiting) (accepted end) t h))

  all-item : (k : ℕ) (c : Context) (at tag : ℕ) (rest : List ℕ) (t : Items) → All k → items (suc k) c at (tag ∷ rest) ≡ accepted t → P c at (tag ∷ rest) t
  unfolding items
  all-item k c at tag rest t ih q =
      let p = tag ∷ rest in
      let b = broken c at tag (header_size p) (body_size p) (suc (length rest)) (first_body p) in
      let ok = unless-none b _ t q in
      via-kind (P c at p) (known c.parent tag) (item tag (in_at at p) (first_body p)) (items k (within c tag) (in_at at p) (first_body p)) (items k (Nexts c at tag rest) (in_at at p + body_size p) (after_first p)) t
      (λ e h. cases.at_unknown c at tag rest t ok e (ih (Nexts c at tag rest) (in_at at p + body_size p) (after_first p) t h))
      (λ e s u x y. cases.at_element c at tag rest s u ok e (ih (within c tag) (in_at at p) (first_body p) s x) (ih (Nexts c at tag rest) (in_at at p + body_size p) (after_first p) u y))
      (λ kd e l u y. cases.at_leaf c at tag rest u kd ok e l (ih (Nexts c at tag rest) (in_at at p + body_size p) (after_first p) u y))
      (unless-accepted b _ t q)

  all-next : (k : ℕ) → All k → All (suc k)
  all-next k ih c at [] t h = all_end k c at t h
  all-next k ih c at (tag ∷ rest) t h = all-item k c at tag rest t ih h

  pub accepted-all : (k : ℕ) → All k
  accepted-all zero = all-zero
  accepted-all (suc k) = all-next k (accepted-all k)

-- an item's body and what comes after it are shorter than the part by its header
pub shorter : (c : Context) (at tag : ℕ) (rest : List ℕ) → Unbroken c at tag rest → length (first_body (tag ∷ rest)) + length (after_first (tag ∷ rest)) + 2 ≤ suc (length rest)
shorter c at tag rest q =
    let p = tag ∷ rest in
    let f = (fitting c at tag (header_size p) (body_size p) (suc (length rest)) (first_body p) q).body in
    let d = length-drop (header_size p) p in
    let b = length-take-le (body_size p) (drop (header_size p) p) (omega arith) in
    let l = length-drop (body_size p) (drop (header_size p) p) in
    omega (arith, header-two p)

-- what holds of every accepted part holds of an accepted object
pub judged-all : (P : Context → ℕ → List ℕ → Items → Type 0) → Cases P → (o : List ℕ) (t : Items) → judge o ≡ accepted t → P outermost 0 o t
judged-all P cases o t h = accepted-all P cases (suc (length o)) outermost 0 o t (accepted-read o t h)
