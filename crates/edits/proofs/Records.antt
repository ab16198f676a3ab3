-- A tree in which the items from one site on were swapped for others: its store and its records.
use mathlib.Core.Path.{◌≡◌, sym, ap, ap₂, ◌∙◌}
use mathlib.Core.Bool.{true}
use mathlib.Core.List.{List, [], ◌∷◌, ◌++◌, append_assoc, append-nil, map, map-append}
use Prim.Native.Nat.{ℕ, suc, ◌+◌, ◌-◌, ◌≤◌, ◌<◌}
use native.Mathlib.Omega.{arith}
use lib.ListN.{length, length-append}
use Rattle.format.specs.declared.Record.{Record}
use Rattle.format.specs.Tree.{Items, count}
use Rattle.format.specs.Tree.Items.{item}
use Rattle.format.specs.Meaning.{opens}
use Rattle.format.specs.Writer.{below, past}
use Rattle.format.specs.Loaded.{store_in, loaded_in}
use Rattle.format.proofs.Spans.{records-count}
use Rattle.edits.specs.Sites.{Site, inner, share, beyond, records_at, store_at, Swapped, shifted, moved}
use Rattle.edits.specs.Sites.Swapped.{here, inside, after}
use Rattle.edits.proofs.Swaps.{Plain, swapped-plain, swapped-count}
use Rattle.edits.proofs.Sites.{plain-count, record_here, records-here, store-here, shifted-low, moved_site, records-moved}
use Rattle.edits.proofs.Sites.{Between, between-append, between-wider, records-between}

-- ---- the store: what is before the site and what is behind it stay as they are
pub record StoreSwapped (s : Site) (t t' : Items) (h : Site) (u w : Items) : Type 0 where
  pub pre : List ℕ
  pub post : List ℕ
  pub old : store_at s t ≡ pre ++ (store_at h u ++ post)
  pub new : store_at s t' ≡ pre ++ (store_at h w ++ post)
  pub long : s.place + length pre ≡ h.place

pub share-open : (p tag : ℕ) (body : List ℕ) (x : Items) → opens tag ≡ true → share p tag body x ≡ store_in [] tag x
unfolding share
share-open p tag body x o = rw o

pub swapped-store : {s : Site} {t t' : Items} {h : Site} {u w : Items} → Swapped s t t' h u w → Plain t → StoreSwapped s t t' h u w
unfolding below past
swapped-store (here s t t') p = record { pre = []; post = []; old = sym (append-nil (store_at s t)); new = sym (append-nil (store_at s t')); long = omega arith }
swapped-store (inside s tag at body x x' y h u w o v) p =
    let g = swapped-store v p.2 in
    let q = s.spot.parent in
    record {
      pre = g.pre;
      post = g.post ++ store_at s y;
      old = store-here q tag at body x y p.0 ∙ (ap (λ z. z ++ store_at s y) (share-open q tag body x o ∙ g.old) ∙ simp append_assoc);
      new = store-here q tag at body x' y p.0 ∙ (ap (λ z. z ++ store_at s y) (share-open q tag body x' o ∙ g.new) ∙ simp append_assoc);
      long = g.long;
    }
swapped-store (after s tag at body x y y' h u w v) p =
    let g = swapped-store v p.3 in
    let q = s.spot.parent in
    let own = share q tag body x in
    record {
      pre = own ++ g.pre;
      post = g.post;
      old = store-here q tag at body x y p.0 ∙ (ap (λ z. own ++ z) g.old ∙ sym (append_assoc own g.pre (store_at h u ++ g.post)));
      new = store-here q tag at body x y' p.0 ∙ (ap (λ z. own ++ z) g.new ∙ sym (append_assoc own g.pre (store_at h w ++ g.post)));
      long = omega (arith, g.long, length-append own g.pre);
    }

-- ---- the records: those before the site stay, those behind it move
pub records-length : (s : Site) (t : Items) → Plain t → length (records_at s t) ≡ count t
records-length s t p = records-count (loaded_in [] s.spot.parent s.place t) s.spot.depth s.up s.number ∙ plain-count t p s.spot.parent s.place

pub record RecordsSwapped (f : Record → Record) (s : Site) (t t' : Items) (h : Site) (u w : Items) : Type 0 where
  pub pre : List Record
  pub post : List Record
  pub old : records_at s t ≡ pre ++ (records_at h u ++ post)
  pub new : records_at s t' ≡ pre ++ (records_at h w ++ map f post)
  pub long : s.number + length pre ≡ h.number
  pub between : Between (h.place + length (store_at h u)) (s.place + length (store_at s t)) post

-- numbers from N on and places from P on move to N' and P': the limits lie at the site or in what stands there, and move by as much as that grows
pub record Limits (N N' P P' : ℕ) (h : Site) (u w : Items) : Type 0 where
  pub low : h.number ≤ N
  pub high : N ≤ h.number + count u
  pub grows : count w + N ≡ count u + N'
  pub high-place : P ≤ h.place + length (store_at h u)
  pub grows-place : length (store_at h w) + P ≡ length (store_at h u) + P'

regroup : (a b c d : List Record) → (a ++ (b ++ c)) ++ d ≡ a ++ (b ++ (c ++ d))
regroup a b c d = simp append_assoc

-- a site inside has no lower number
pub swapped-low : {s : Site} {t t' : Items} {h : Site} {u w : Items} → Swapped s t t' h u w → s.number ≤ h.number
swapped-low (here s t t') = omega arith
swapped-low (inside s tag at body x x' y h u w o v) = omega (arith, swapped-low v)
swapped-low (after s tag at body x y y' h u w v) = omega (arith, swapped-low v)

module _ (N N' P P' : ℕ) where
  abbrev f : Record → Record
  f = moved N N' P P'

  swap-inside : (s : Site) (tag at : ℕ) (body : List ℕ) (x x' y : Items) (h : Site) (u w : Items) → opens tag ≡ true → Swapped (inner s tag) x x' h u w
      → Plain (item tag at body x y) → Plain w → Limits N N' P P' h u w → s.up < N → RecordsSwapped f (inner s tag) x x' h u w
      → RecordsSwapped f s (item tag at body x y) (item tag at body x' y) h u w
  unfolding below past
  swap-inside s tag at body x x' y h u w o v p pw l up g =
      let q = s.spot.parent in
      let pl = swapped-plain v p.2 in
      let px' : Plain x' = pl.new pw in
      let c = swapped-count v p.2 in
      let st = swapped-store v p.2 in
      let share₁ = ap length (share-open q tag body x o ∙ st.old) in
      let share₂ = ap length (share-open q tag body x' o ∙ st.new) in
      let long₁ = length-append st.pre (store_at h u ++ st.post) in
      let long₂ = length-append (store_at h u) st.post in
      let long₃ = length-append st.pre (store_at h w ++ st.post) in
      let long₄ = length-append (store_at h w) st.post in
      let n₁ : length (records_at (inner s tag) x) ≡ count x = records-length (inner s tag) x p.2 in
      let n₂ : length (records_at h u) ≡ count u = records-length h u pl.old in
      let n₃ = ap length g.old in
      let n₄ = length-append g.pre (records_at h u ++ g.post) in
      let n₅ = length-append (records_at h u) g.post in
      let e₁ : s.up ≡ shifted N N' s.up = sym (shifted-low N N' s.up up) in
      let e₂ : suc s.number + count x' ≡ suc s.number + count x - N + N' = omega (arith, g.long, l.grows, l.high) in
      let e₃ : s.place + length (share q tag body x') ≡ s.place + length (share q tag body x) - P + P' = omega (arith, st.long, l.grows-place, l.high-place) in
      let e : beyond s tag body x' ≡ moved_site N N' P P' (beyond s tag body x) = λ i. record { spot = past s.spot tag; up = e₁ i; number = e₂ i; place = e₃ i } in
      let ys = records_at (beyond s tag body x) y in
      let m : records_at (beyond s tag body x') y ≡ map f ys =
      ap (λ z. records_at z y) e
      ∙ records-moved N N' P P' y p.3 (beyond s tag body x) (omega (arith, g.long, l.high)) (omega (arith, st.long, l.high-place)) in
      record {
        pre = record_here s tag body ∷ g.pre;
        post = g.post ++ ys;
        old = records-here s tag at body x y p ∙ ap {B = List Record} (λ z. record_here s tag body ∷ z) (ap (λ z. z ++ ys) g.old ∙ simp append_assoc);
        new = records-here s tag at body x' y (p.0, rw o, px', p.3)
            ∙ ap {B = List Record} (λ z. record_here s tag body ∷ z)
            (ap₂ ◌++◌ g.new m
            ∙ (regroup g.pre (records_at h w) (map f g.post) (map f ys) ∙ ap (λ z. g.pre ++ (records_at h w ++ z)) (sym (map-append f g.post ys))));
        long = omega (arith, g.long);
        between =
            let low = h.place + length (store_at h u) in
            let high = s.place + length (store_at s (item tag at body x y)) in
            let all = ap length (store-here q tag at body x y p.0) ∙ length-append (share q tag body x) (store_at s y) in
            let b = beyond s tag body x in
            between-append low high g.post (records_at b y)
            (between-wider low (s.place + length (store_at (inner s tag) x)) low high (omega arith) (omega (arith, ap length (share-open q tag body x o))) g.post
            g.between)
            (between-wider b.place (b.place + length (store_at b y)) low high (omega (arith, st.long)) (omega arith) (records_at b y) (records-between y b p.3));
      }

  swap-after : (s : Site) (tag at : ℕ) (body : List ℕ) (x y y' : Items) (h : Site) (u w : Items) → Plain (item tag at body x y) → Plain y'
      → RecordsSwapped f (beyond s tag body x) y y' h u w → RecordsSwapped f s (item tag at body x y) (item tag at body x y') h u w
  unfolding below past
  swap-after s tag at body x y y' h u w p py' g =
      let xs = records_at (inner s tag) x in
      record {
        pre = record_here s tag body ∷ (xs ++ g.pre);
        post = g.post;
        old = records-here s tag at body x y p
            ∙ ap {B = List Record} (λ z. record_here s tag body ∷ z) (ap (λ z. xs ++ z) g.old ∙ sym (append_assoc xs g.pre (records_at h u ++ g.post)));
        new = records-here s tag at body x y' (p.0, p.1, p.2, py')
            ∙ ap {B = List Record} (λ z. record_here s tag body ∷ z) (ap (λ z. xs ++ z) g.new ∙ sym (append_assoc xs g.pre (records_at h w ++ map f g.post)));
        long = omega (arith, g.long, length-append xs g.pre, records-length (inner s tag) x p.2);
        between =
            let q = s.spot.parent in
            let all = ap length (store-here q tag at body x y p.0) ∙ length-append (share q tag body x) (store_at s y) in
            let b = beyond s tag body x in
            let low = h.place + length (store_at h u) in
            between-wider low (b.place + length (store_at b y)) low (s.place + length (store_at s (item tag at body x y))) (omega arith) (omega arith) g.post
            g.between;
      }

  pub swapped-records : {s : Site} {t t' : Items} {h : Site} {u w : Items} → Swapped s t t' h u w → Plain t → Plain w
      → Limits N N' P P' h u w → s.up < N → RecordsSwapped f s t t' h u w
  swapped-records (here s t t') p pw l up =
      record { pre = []; post = []; old = sym (append-nil (records_at s t)); new = sym (append-nil (records_at s t')); long = omega arith; between = tt }
  swapped-records (inside s tag at body x x' y h u w o v) p pw l up =
      swap-inside s tag at body x x' y h u w o v p pw l up (swapped-records v p.2 pw l (omega (arith, swapped-low v, l.low)))
  swapped-records (after s tag at body x y y' h u w v) p pw l up =
      swap-after s tag at body x y y' h u w p ((swapped-plain v p.3).new pw) (swapped-records v p.3 pw l up)
