-- The count of headers by a part's first item, and how many there are at least and at most in what is accepted (change request 2026-09).
use mathlib.Core.Path.{◌≡◌, refl, ap₂}
use mathlib.Core.Bool.{Bool, true, false, cond}
use mathlib.Core.Option.{some}
use mathlib.Core.List.{List, [], ◌∷◌}
use Prim.Native.Nat.{ℕ, zero, suc, ◌+◌, ◌*◌, ◌≤◌, ◌<◌}
use native.Mathlib.Omega.{arith}
use native.Mathlib.Nat.{not-suc-le-zero}
use lib.Dec.{eqb}
use lib.ListN.{length}
use Rattle.octets.specs.Places.{first_body, after_first}
use Rattle.octets.proofs.Places.{fewer-inside, fewer-behind}
use Rattle.values.specs.declared.Kind.TheVariants.{HoldsItems}
use Rattle.values.specs.Table.{known}
use Rattle.format.specs.Tree.{Items, count}
use Rattle.format.specs.Tree.Items.{end, item}
use Rattle.format.specs.Judge.{is_items, Context, within, next, judge, outermost}
use Rattle.format.specs.Judge.Judged.{accepted}
use Rattle.format.specs.Headers.{headers_in, headers}
use Rattle.format.proofs.Induction.{Cases, judged-all, Unbroken, in_at, shorter}

-- ---- without fuel

-- one item and what is behind it, where so much is inside it
abbrev one : (parent tag inside after : ℕ) → ℕ
one parent tag inside after = suc (cond (is_items (known parent tag)) inside 0 + after)

-- any fuel above the length of the part gives one count
abbrev Same : ℕ → Type 0
Same k = (j parent : ℕ) (part : List ℕ) → length part < k → length part < j → headers_in k parent part ≡ headers_in j parent part

same_item : (k j parent tag : ℕ) (rest : List ℕ) → Same k → length rest < k → length rest < j → headers_in (suc k) parent (tag ∷ rest) ≡ headers_in (suc j) parent (tag ∷ rest)
unfolding headers_in
same_item k j parent tag rest ih p q =
    let i = fewer-inside (tag ∷ rest) (omega arith) in
    let b = fewer-behind (tag ∷ rest) (omega arith) in
    ap₂ (one parent tag) (ih j tag (first_body (tag ∷ rest)) (omega arith) (omega arith)) (ih j parent (after_first (tag ∷ rest)) (omega arith) (omega arith))

same_next : (k : ℕ) → Same k → Same (suc k)
unfolding headers_in
same_next k ih zero parent part p q = absurd (not-suc-le-zero q)
same_next k ih (suc j) parent [] p q = refl
same_next k ih (suc j) parent (tag ∷ rest) p q = same_item k j parent tag rest ih (omega arith) (omega arith)

same-fuel : (k : ℕ) → Same k
same-fuel zero j parent part p q = absurd (not-suc-le-zero p)
same-fuel (suc k) j parent part p q = same_next k (same-fuel k) j parent part p q

pub headers-end : (parent : ℕ) → headers parent [] ≡ 0
unfolding headers_in
headers-end parent = refl

pub headers-item : (parent tag : ℕ) (rest : List ℕ)
    → headers parent (tag ∷ rest) ≡ suc (cond (is_items (known parent tag)) (headers tag (first_body (tag ∷ rest))) 0 + headers parent (after_first (tag ∷ rest)))
unfolding headers_in
headers-item parent tag rest =
    let i = fewer-inside (tag ∷ rest) (omega arith) in
    let b = fewer-behind (tag ∷ rest) (omega arith) in
    ap₂ (one parent tag) (same-fuel (suc (length rest)) (suc (length (first_body (tag ∷ rest)))) tag (first_body (tag ∷ rest)) (omega arith) (omega arith))
    (same-fuel (suc (length rest)) (suc (length (after_first (tag ∷ rest)))) parent (after_first (tag ∷ rest)) (omega arith) (omega arith))

-- ---- how many

-- in an accepted part there are at most half as many headers as octets, and at least as many as records
pub record Few (parent : ℕ) (part : List ℕ) (t : Items) : Type 0 where
  pub half : 2 * headers parent part ≤ length part
  pub records : count t ≤ headers parent part

count_most : (tag at : ℕ) (body : List ℕ) (s u : Items) → count (item tag at body s u) ≤ 1 + count s + count u
unfolding count
count_most tag at body s u = go (eqb tag 4)
  where
    go : (b : Bool) → cond b 0 (1 + count s) + count u ≤ 1 + count s + count u
    go true = omega arith
    go false = omega arith

few-element : (c : Context) (at tag : ℕ) (rest : List ℕ) (s u : Items) → Unbroken c at tag rest → known c.parent tag ≡ some HoldsItems
    → Few tag (first_body (tag ∷ rest)) s → Few c.parent (after_first (tag ∷ rest)) u → Few c.parent (tag ∷ rest) (item tag (in_at at (tag ∷ rest)) (first_body (tag ∷ rest)) s u)
unfolding is_items
few-element c at tag rest s u q e x y =
    let n : headers c.parent (tag ∷ rest) ≡ suc (headers tag (first_body (tag ∷ rest)) + headers c.parent (after_first (tag ∷ rest))) = rw e at (headers-item c.parent tag rest) in
    record { half = omega (arith, shorter c at tag rest q); records = omega (arith, count_most tag (in_at at (tag ∷ rest)) (first_body (tag ∷ rest)) s u) }

-- an item that isn't looked into, with a record or without
few-other : (c : Context) (at tag : ℕ) (rest : List ℕ) (t u : Items) → Unbroken c at tag rest → is_items (known c.parent tag) ≡ false → count t ≤ 1 + count u
    → Few c.parent (after_first (tag ∷ rest)) u → Few c.parent (tag ∷ rest) t
few-other c at tag rest t u q e l y =
    let n : headers c.parent (tag ∷ rest) ≡ suc (0 + headers c.parent (after_first (tag ∷ rest))) = rw e at (headers-item c.parent tag rest) in
    record { half = omega (arith, shorter c at tag rest q); records = omega arith }

few-cases : Cases (λ c at part t. Few c.parent part t)
unfolding next within count is_items
few-cases = record {
  at_end = λ c at q. let z = headers-end c.parent in record { half = omega arith; records = omega arith };
  at_unknown = λ c at tag rest u q e y. few-other c at tag rest u u q (rw e) (omega arith) y;
  at_element = λ c at tag rest s u q e x y. few-element c at tag rest s u q e x y;
  at_leaf = λ c at tag rest u k q e l y.
      few-other c at tag rest (item tag (in_at at (tag ∷ rest)) (first_body (tag ∷ rest)) end u) u q (rw e l) (count_most tag (in_at at (tag ∷ rest)) (first_body (tag ∷ rest)) end u) y;
}

pub few-headers : (o : List ℕ) (t : Items) → judge o ≡ accepted t → Few 0 o t
unfolding outermost
few-headers o t h = judged-all (λ c at part t. Few c.parent part t) few-cases o t h

-- so an accepted object has at most half as many records as octets
pub few : (o : List ℕ) (t : Items) → judge o ≡ accepted t → 2 * count t ≤ length o
few o t h = let f = few-headers o t h in omega (arith, f.half, f.records)
