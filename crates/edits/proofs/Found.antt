-- A record by its number: where it stands, and that changing the items from it on swaps just them.
use mathlib.Core.Path.{◌≡◌, refl, sym, ap, ◌∙◌}
use mathlib.Core.Bool.{Bool, true, false, ◌||◌, false≢true}
use mathlib.Core.List.{List}
use Prim.Native.Nat.{ℕ, zero, suc, ◌+◌, ◌-◌, ◌≤◌, ◌<◌}
use native.Mathlib.Omega.{arith}
use lib.Dec.{eqb, ltb}
use borrow.Author.Tests.{ltb-true, ltb-false, le-ltb}
use Rattle.format.specs.Tree.{Items, count}
use Rattle.format.specs.Tree.Items.{end, item}
use Rattle.format.specs.Meaning.{opens}
use Rattle.format.specs.Writer.{at_top, ruled, below, past, is_end}
use Rattle.format.proofs.Tabled.{count-item}
use Rattle.edits.specs.Tree.{Found, from, record_at, change_at, first_tag}
use Rattle.edits.specs.Sites.{Site, top_site, inner, beyond, Swapped}
use Rattle.edits.specs.Sites.Swapped.{here, inside, after}
use Rattle.edits.proofs.Swaps.{Plain, ruled-plain}

-- the item of a number: its site, and the tree with it and what is after it in its element changed
pub record Stands (f : Items → Items) (s : Site) (t : Items) (i : ℕ) (found : Found) : Type 0 where
  pub site : Site
  pub tag : ℕ
  pub at : ℕ
  pub body : List ℕ
  pub x : Items
  pub y : Items
  pub is : found.items ≡ item tag at body x y
  pub number : site.number ≡ s.number + i
  pub parent : found.parent ≡ site.spot.parent
  pub depth : found.depth ≡ site.spot.depth
  pub swapped : Swapped s t (change_at f i t) site (item tag at body x y) (f (item tag at body x y))

module _ (f : Items → Items) where
  stands-inside : (s : Site) (tag at : ℕ) (body : List ℕ) (x y : Items) (i : ℕ) → opens tag ≡ true → ltb i (count x) ≡ true
      → Stands f (inner s tag) x i (from i tag (suc s.spot.depth) x)
      → Stands f s (item tag at body x y) (suc i) (from (suc i) s.spot.parent s.spot.depth (item tag at body x y))
  unfolding from change_at
  stands-inside s tag at body x y i o l g = rw l
      (record {
        site = g.site;
        tag = g.tag;
        at = g.at;
        body = g.body;
        x = g.x;
        y = g.y;
        is = g.is;
        number = omega (arith, g.number);
        parent = g.parent;
        depth = g.depth;
        swapped = rw l (inside s tag at body x (change_at f i x) y g.site _ _ o g.swapped);
      })

  stands_after : (s : Site) (tag at : ℕ) (body : List ℕ) (x y : Items) (i : ℕ) → ltb i (count x) ≡ false → count x ≤ i
      → Stands f (beyond s tag body x) y (i - count x) (from (i - count x) s.spot.parent s.spot.depth y)
      → Stands f s (item tag at body x y) (suc i) (from (suc i) s.spot.parent s.spot.depth (item tag at body x y))
  unfolding from change_at
  stands_after s tag at body x y i l c g = rw l
      (record {
        site = g.site;
        tag = g.tag;
        at = g.at;
        body = g.body;
        x = g.x;
        y = g.y;
        is = g.is;
        number = omega (arith, g.number);
        parent = g.parent;
        depth = g.depth;
        swapped = rw l (after s tag at body x y (change_at f (i - count x) y) g.site _ _ g.swapped);
      })

  some-opens : (tag : ℕ) (x : Items) (i : ℕ) → opens tag || is_end x ≡ true → i < count x → opens tag ≡ true
  unfolding is_end count
  some-opens tag end i h l = absurd (omega arith)
  some-opens tag (item tag' at body x y) i h l = go (opens tag) h
    where
      go : (b : Bool) → b || false ≡ true → b ≡ true
      go true g = refl
      go false g = absurd (false≢true g)

  pub stands : (t : Items) (s : Site) (i : ℕ) → Plain t → i < count t → Stands f s t i (from i s.spot.parent s.spot.depth t)
  unfolding from change_at count below past
  stands end s i p l = absurd (omega arith)
  stands (item tag at body x y) s zero p l = record {
    site = s;
    tag = tag;
    at = at;
    body = body;
    x = x;
    y = y;
    is = refl;
    number = omega arith;
    parent = refl;
    depth = refl;
    swapped = here s (item tag at body x y) (f (item tag at body x y));
  }
  stands (item tag at body x y) s (suc i) p l =
      go (λ q. stands x (inner s tag) i p.2 q) (λ q. stands y (beyond s tag body x) (i - count x) p.3 q) (ltb i (count x)) refl
    where
      go : (i < count x → Stands f (inner s tag) x i (from i tag (suc s.spot.depth) x))
          → (i - count x < count y → Stands f (beyond s tag body x) y (i - count x) (from (i - count x) s.spot.parent s.spot.depth y))
          → (b : Bool) → ltb i (count x) ≡ b → Stands f s (item tag at body x y) (suc i) (from (suc i) s.spot.parent s.spot.depth (item tag at body x y))
      go g₁ g₂ true e = let q = ltb-true i (count x) e in stands-inside s tag at body x y i (some-opens tag x i p.1 q) e (g₁ q)
      go g₁ g₂ false e =
          let q = ltb-false i (count x) e in
          stands_after s tag at body x y i e (omega arith) (g₂ (omega (arith, count-item tag at body x y p.0)))

-- ---- in a whole tree
-- a number past the last record finds nothing
found_none : (t : Items) (i p d : ℕ) → Plain t → count t ≤ i → (from i p d t).items ≡ end
unfolding from count
found_none end i p d h l = refl
found_none (item tag at body x y) zero p d h l = absurd (omega (arith, count-item tag at body x y h.0))
found_none (item tag at body x y) (suc i) p d h l =
    let n = count-item tag at body x y h.0 in
    let e : ltb i (count x) ≡ false = le-ltb i (count x) (omega arith) in
    rw e (found_none y (i - count x) p d h.3 (omega arith))

-- so where there is an item, the number is one of a record
pub found_number : (t : Items) → ruled at_top t ≡ true → (i : ℕ) → eqb (first_tag (record_at i t).items) 0 ≡ false → i < count t
unfolding first_tag
found_number t r i h = go (ltb i (count t)) refl
  where
    go : (b : Bool) → ltb i (count t) ≡ b → i < count t
    go true e = ltb-true i (count t) e
    go false e =
        let f = found_none t i 0 1 (ruled-plain t at_top r) (omega (arith, ltb-false i (count t) e)) in
        absurd (false≢true (sym h ∙ ap (λ u. eqb (first_tag u) 0) f))

pub at-record : (f : Items → Items) (t : Items) → ruled at_top t ≡ true → (i : ℕ) → i < count t → Stands f top_site t i (record_at i t)
unfolding at_top
at-record f t r i l = stands f t top_site i (ruled-plain t at_top r) l
