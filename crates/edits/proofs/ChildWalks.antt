-- The walk over the records behind an element's own, up to a place among its child elements, item by item.
use mathlib.Core.Path.{◌≡◌, refl, ap, ap₂, ◌∙◌}
use mathlib.Core.Bool.{Bool, true, false, cond, ◌||◌}
use mathlib.Core.List.{List, [], ◌∷◌, ◌++◌, append_assoc, map, map-append}
use Prim.Native.Nat.{ℕ, suc, ◌+◌, ◌-◌, ◌<◌}
use native.Mathlib.Omega.{arith}
use lib.Dec.{eqb, ltb}
use borrow.Author.Tests.{eq-eqb, ne_eqb, le-leb, lt-leb, ltb-false}
use Rattle.values.specs.Table.{attribute}
use Rattle.format.specs.declared.Record.{Record}
use Rattle.format.specs.Tree.{Items, count, records}
use Rattle.format.specs.Tree.Items.{end, item}
use Rattle.format.specs.Meaning.{opens}
use Rattle.format.specs.Writer.{below, past}
use Rattle.format.specs.Loaded.{loaded_in}
use Rattle.format.proofs.Tabled.{count-item}
use Rattle.edits.specs.Sites.{Site, inner, beyond, records_at}
use Rattle.edits.specs.Extents.{deeper}
use Rattle.std.specs.Prelude.{Option}
use Rattle.edits.specs.Insertion.{counts_at, stops_at, left_after, found_at, child_from}
use Rattle.edits.proofs.Swaps.{Plain}
use Rattle.edits.proofs.Sites.{record_here, records-here}
use Rattle.edits.proofs.Extents.{here-open, here-shut, here-depth}

-- what a list has of records, and then more
abbrev pub fields : (Record → ℕ) → List Record → List ℕ → List ℕ
fields f rs rest = map f rs ++ rest

abbrev pub walked : (d k j : ℕ) → List Record → (tags depths : List ℕ) → Option ℕ
walked d k j rs tags depths = child_from d k j (fields (λ r. r.tag) rs tags) (fields (λ r. r.depth) rs depths)

-- ---- one record
module _ (d k j tag depth : ℕ) (tags depths : List ℕ) where
  pass-deep : suc d < depth → child_from d k j (tag ∷ tags) (depth ∷ depths) ≡ child_from d k (suc j) tags depths
  unfolding child_from stops_at left_after counts_at
  pass-deep h = rw (lt-leb depth d (omega arith), ne_eqb depth (suc d) (λ q. omega arith))

  module _ (h : depth ≡ suc d) where
    pass-attribute : attribute tag ≡ true → child_from d k j (tag ∷ tags) (depth ∷ depths) ≡ child_from d k (suc j) tags depths
    unfolding child_from stops_at left_after counts_at
    pass-attribute a = rw (lt-leb depth d (omega arith), eq-eqb depth (suc d) h, a)

    pass-child : attribute tag ≡ false → eqb k 0 || eqb tag 1 ≡ false → child_from d k j (tag ∷ tags) (depth ∷ depths) ≡ child_from d (k - 1) (suc j) tags depths
    unfolding child_from stops_at left_after counts_at
    pass-child a b = rw (lt-leb depth d (omega arith), eq-eqb depth (suc d) h, a, b)

    stop-child : attribute tag ≡ false → eqb k 0 || eqb tag 1 ≡ true → child_from d k j (tag ∷ tags) (depth ∷ depths) ≡ found_at k j
    unfolding child_from stops_at counts_at
    stop-child a b = rw (lt-leb depth d (omega arith), eq-eqb depth (suc d) h, a, b)

-- records that aren't in the element any more stop it
pub stop-behind : (d k j : ℕ) (tags depths : List ℕ) → deeper d depths ≡ 0 → child_from d k j tags depths ≡ found_at k j
unfolding child_from deeper stops_at
stop-behind d k j [] depths h = refl
stop-behind d k j (tag ∷ tags) [] h = refl
stop-behind d k j (tag ∷ tags) (depth ∷ depths) h = go (ltb d depth) refl h
  where
    go : (b : Bool) → ltb d depth ≡ b → cond b (suc (deeper d depths)) 0 ≡ 0 → child_from d k j (tag ∷ tags) (depth ∷ depths) ≡ found_at k j
    go true e q = absurd (omega arith)
    go false e q = rw (le-leb depth d (omega (arith, ltb-false d depth e)))

-- ---- an item's records
pub here-tag : (s : Site) (tag : ℕ) (body : List ℕ) → (record_here s tag body).tag ≡ tag
here-tag s tag body = go (opens tag) refl
  where
    go : (b : Bool) → opens tag ≡ b → (record_here s tag body).tag ≡ tag
    go true o = ap (λ r. r.tag) (here-open s tag body o)
    go false o = ap (λ r. r.tag) (here-shut s tag body o)

module _ (s : Site) (tag at : ℕ) (body : List ℕ) (x y : Items) (p : Plain (item tag at body x y)) (d k j : ℕ) (tags depths : List ℕ) where
  abbrev xs : List Record
  xs = records_at (inner s tag) x

  abbrev ys : List Record
  ys = records_at (beyond s tag body x) y

  split : (f : Record → ℕ) (rest : List ℕ) → fields f (records_at s (item tag at body x y)) rest ≡ f (record_here s tag body) ∷ fields f xs (fields f ys rest)
  split f rest =
      ap (λ rs. fields f rs rest) (records-here s tag at body x y p)
      ∙ ap {B = List ℕ} (λ z. f (record_here s tag body) ∷ z) (ap (λ z. z ++ rest) (map-append f xs ys) ∙ append_assoc (map f xs) (map f ys) rest)

  whole : walked d k j (records_at s (item tag at body x y)) tags depths
      ≡ child_from d k j (tag ∷ fields (λ r. r.tag) xs (fields (λ r. r.tag) ys tags)) (s.spot.depth ∷ fields (λ r. r.depth) xs (fields (λ r. r.depth) ys depths))
  whole =
      ap₂ (child_from d k j)
      (split (λ r. r.tag) tags ∙ ap {B = List ℕ} (λ z. z ∷ fields (λ r. r.tag) xs (fields (λ r. r.tag) ys tags)) (here-tag s tag body))
      (split (λ r. r.depth) depths ∙ ap {B = List ℕ} (λ z. z ∷ fields (λ r. r.depth) xs (fields (λ r. r.depth) ys depths)) (here-depth s tag body))

-- records below an element's items are passed
skip : (t : Items) (s : Site) → Plain t → (d : ℕ) → suc d < s.spot.depth → (k j : ℕ) (tags depths : List ℕ)
    → walked d k j (records_at s t) tags depths ≡ child_from d k (j + count t) tags depths
unfolding records loaded_in count below past
skip end s p d h k j tags depths = ap (λ n. child_from d k n tags depths) (omega arith)
skip (item tag at body x y) s p d h k j tags depths =
    let ys = records_at (beyond s tag body x) y in
    let tags' = fields (λ r. r.tag) ys tags in
    let depths' = fields (λ r. r.depth) ys depths in
    let n : suc j + count x + count y ≡ j + count (item tag at body x y) = omega (arith, count-item tag at body x y p.0) in
    whole s tag at body x y p d k j tags depths
    ∙ (pass-deep d k j tag s.spot.depth (fields (λ r. r.tag) (records_at (inner s tag) x) tags') (fields (λ r. r.depth) (records_at (inner s tag) x) depths') h
    ∙ (skip x (inner s tag) p.2 d (omega arith) k (suc j) tags' depths'
    ∙ (skip y (beyond s tag body x) p.3 d h k (suc j + count x) tags depths ∙ ap (λ n. child_from d k n tags depths) n)))

module _ (s : Site) (tag at : ℕ) (body : List ℕ) (x y : Items) (p : Plain (item tag at body x y)) (d k : ℕ) (h : s.spot.depth ≡ suc d) (tags depths : List ℕ) where
  abbrev behind : ℕ → Option ℕ
  behind k = walked d k (beyond s tag body x).number (records_at (beyond s tag body x) y) tags depths

  later : (k : ℕ) → walked d k (suc s.number) (records_at (inner s tag) x) (fields (λ r. r.tag) (records_at (beyond s tag body x) y) tags)
      (fields (λ r. r.depth) (records_at (beyond s tag body x) y) depths) ≡ behind k
  unfolding below
  later k = skip x (inner s tag) p.2 d (omega arith) k (suc s.number) _ _

  pub walk-attribute : attribute tag ≡ true → walked d k s.number (records_at s (item tag at body x y)) tags depths ≡ behind k
  walk-attribute a = whole s tag at body x y p d k s.number tags depths ∙ (pass-attribute d k s.number tag s.spot.depth _ _ h a ∙ later k)

  pub walk-child : attribute tag ≡ false → eqb k 0 || eqb tag 1 ≡ false → walked d k s.number (records_at s (item tag at body x y)) tags depths ≡ behind (k - 1)
  walk-child a b = whole s tag at body x y p d k s.number tags depths ∙ (pass-child d k s.number tag s.spot.depth _ _ h a b ∙ later (k - 1))

  pub walk-stop : attribute tag ≡ false → eqb k 0 || eqb tag 1 ≡ true → walked d k s.number (records_at s (item tag at body x y)) tags depths ≡ found_at k s.number
  walk-stop a b = whole s tag at body x y p d k s.number tags depths ∙ stop-child d k s.number tag s.spot.depth _ _ h a b
