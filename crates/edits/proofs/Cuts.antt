-- What an edit does to the records and to the store of a packed tree: some are cut out, others put in at the same place, and what is behind them moves.
use mathlib.Core.Path.{◌≡◌, refl, sym, ap, ◌∙◌}
use mathlib.Core.Bool.{Bool, true, false, cond}
use mathlib.Core.List.{List, [], ◌∷◌, ◌++◌, append_assoc, map, map-append}
use Prim.Native.Nat.{ℕ, suc, ◌+◌, ◌-◌, ◌≤◌, ◌<◌}
use native.Mathlib.Omega.{arith}
use lib.Dec.{ltb}
use lib.ListN.{length, length-append}
use borrow.Author.Tests.{ltb-false}
use Rattle.values.specs.Table.{known}
use Rattle.format.specs.declared.Record.{Record}
use Rattle.format.specs.Tree.{Items, count, records}
use Rattle.format.specs.Tree.Items.{end, item}
use Rattle.format.specs.Meaning.{opens}
use Rattle.format.specs.Writer.{past}
use Rattle.format.specs.Loaded.{stored, store_in, loaded_in}
use Rattle.format.proofs.Tabled.{count-item}
use Rattle.edits.specs.Sites.{Site, inner, share, beyond, records_at, store_at, Swapped, shifted, moved}
use Rattle.edits.specs.Sites.Swapped.{here, inside, after}
use Rattle.edits.proofs.Swaps.{Plain}
use Rattle.edits.proofs.Sites.{record_here, records-here, store-here, shifted-low, moved_site, records-moved}
use Rattle.edits.proofs.Sites.{Between, between-append, between-wider, records-between}
use Rattle.edits.proofs.Records.{swapped-store, swapped-records, Limits}

-- a list and the same with some of its members, from the j-th on, gone and others in their place, and with those behind them changed
pub record Cut {A : Type 0} (f : List A → List A) (l l' : List A) (j : ℕ) (gone put : List A) : Type 0 where
  pub pre : List A
  pub post : List A
  pub old : l ≡ pre ++ (gone ++ post)
  pub new : l' ≡ pre ++ (put ++ f post)
  pub before-it : length pre ≡ j

-- an element's number is not above those of its items
pub swapped-up : {s : Site} {t t' : Items} {h : Site} {u w : Items} → Swapped s t t' h u w → s.up ≤ s.number → h.up ≤ h.number
swapped-up (here s t t') l = l
swapped-up (inside s tag at body x x' y h u w o v) l = swapped-up v (omega arith)
swapped-up (after s tag at body x y y' h u w v) l = swapped-up v (omega arith)

pub shifted-same : (N n : ℕ) → shifted N N n ≡ n
unfolding shifted
shifted-same N n = go (ltb n N) refl
  where
    go : (b : Bool) → ltb n N ≡ b → cond b n (n - N + N) ≡ n
    go true e = refl
    go false e = omega (arith, ltb-false n N e)

pub share-shut : (p tag : ℕ) (body : List ℕ) (x : Items) → opens tag ≡ false → share p tag body x ≡ stored [] (known p tag) body
unfolding share
share-shut p tag body x o = rw o

-- ---- the items at one site: u is there, w comes there. What is cut, what is put, and the items after that stay
pub record SiteCut (N N' P P' : ℕ) (h : Site) (u w : Items) (gone put : List Record) (octets-gone octets-put : List ℕ) : Type 0 where
  pub limits : Limits N N' P P' h u w
  pub rest : List Record
  pub records-old : records_at h u ≡ gone ++ rest
  pub records-new : records_at h w ≡ put ++ map (moved N N' P P') rest
  pub between : Between P (h.place + length (store_at h u)) rest
  pub octets-rest : List ℕ
  pub store-old : store_at h u ≡ octets-gone ++ octets-rest
  pub store-new : store_at h w ≡ octets-put ++ octets-rest

-- then the same is cut from the whole
module _ (N N' P P' : ℕ) {s : Site} {t t' : Items} {h : Site} {u w : Items} (v : Swapped s t t' h u w) (p : Plain t) (q : Plain w)
    {gone put : List Record} {octets-gone octets-put : List ℕ} (c : SiteCut N N' P P' h u w gone put octets-gone octets-put) where
  pub cut-records : s.up < N → s.number ≡ 0
      → (k : Cut (map (moved N N' P P')) (records_at s t) (records_at s t') h.number gone put) × Between P (s.place + length (store_at s t)) k.post
  cut-records up z =
      let g = swapped-records N N' P P' v p q c.limits up in
      let f = moved N N' P P' in
      let high = s.place + length (store_at s t) in
      let st = swapped-store v p in
      let n = ap length st.old ∙ (length-append st.pre (store_at h u ++ st.post) ∙ ap (λ z. length st.pre + z) (length-append (store_at h u) st.post)) in (
        record {
          pre = g.pre;
          post = c.rest ++ g.post;
          old = g.old ∙ ap (λ a. g.pre ++ a) (ap (λ a. a ++ g.post) c.records-old ∙ append_assoc gone c.rest g.post);
          new = g.new
              ∙ ap (λ a. g.pre ++ a) (ap (λ a. a ++ map f g.post) c.records-new
              ∙ (append_assoc put (map f c.rest) (map f g.post) ∙ ap (λ a. put ++ a) (sym (map-append f c.rest g.post))));
          before-it = omega (arith, g.long);
        },
        between-append P high c.rest g.post
            (between-wider P (h.place + length (store_at h u)) P high (omega arith) (omega (arith, st.long)) c.rest c.between)
            (between-wider (h.place + length (store_at h u)) high P high (omega (arith, c.limits.high-place)) (omega arith) g.post g.between),
      )

  pub cut-store : s.place ≡ 0 → Cut (λ a. a) (store_at s t) (store_at s t') h.place octets-gone octets-put
  cut-store z =
      let g = swapped-store v p in
      record {
        pre = g.pre;
        post = c.octets-rest ++ g.post;
        old = g.old ∙ ap (λ a. g.pre ++ a) (ap (λ a. a ++ g.post) c.store-old ∙ append_assoc octets-gone c.octets-rest g.post);
        new = g.new ∙ ap (λ a. g.pre ++ a) (ap (λ a. a ++ g.post) c.store-new ∙ append_assoc octets-put c.octets-rest g.post);
        before-it = omega (arith, g.long);
      }

-- ---- another body
module _ (h : Site) (tag at : ℕ) (body o : List ℕ) (y : Items) (p : Plain (item tag at body end y)) (shut : opens tag ≡ false) where
  abbrev k : ℕ
  k = h.spot.parent

  abbrev was : List ℕ
  was = stored [] (known k tag) body

  abbrev is : List ℕ
  is = stored [] (known k tag) o

  abbrev N : ℕ
  N = suc h.number

  pub body-cut : SiteCut N N (h.place + length was) (h.place + length is) h (item tag at body end y) (item tag at o end y)
      (record_here h tag body ∷ []) (record_here h tag o ∷ []) was is
  unfolding past count records loaded_in
  body-cut =
      let P = h.place + length was in
      let P' = h.place + length is in
      let s₁ : share k tag body end ≡ was = share-shut k tag body end shut in
      let s₂ : share k tag o end ≡ is = share-shut k tag o end shut in
      let old = store-here k tag at body end y p.0 in
      let new = store-here k tag at o end y p.0 in
      let l₁ = ap length old ∙ length-append (share k tag body end) (store_in [] k y) in
      let l₂ = ap length new ∙ length-append (share k tag o end) (store_in [] k y) in
      let n₁ = ap length s₁ in
      let n₂ = ap length s₂ in
      let c₁ = count-item tag at body end y p.0 in
      let c₂ = count-item tag at o end y p.0 in
      let site : beyond h tag o end ≡ moved_site N N P P' (beyond h tag body end) = (
      let e₁ = sym (shifted-same N h.up) in
      let e₂ : suc h.number + count end ≡ suc h.number + count end - N + N = omega arith in
      let e₃ : h.place + length (share k tag o end) ≡ h.place + length (share k tag body end) - P + P' = omega arith in
      λ i. record { spot = past h.spot tag; up = e₁ i; number = e₂ i; place = e₃ i }
      ) in
      record {
        limits = record { low = omega arith; high = omega arith; grows = omega arith; high-place = omega arith; grows-place = omega arith };
        rest = records_at (beyond h tag body end) y;
        records-old = records-here h tag at body end y p;
        between =
            let b = beyond h tag body end in
            between-wider b.place (b.place + length (store_at b y)) P (h.place + length (store_at h (item tag at body end y))) (omega arith) (omega arith)
            (records_at b y) (records-between y b p.3);
        records-new = records-here h tag at o end y p
            ∙ ap {B = List Record} (λ a. record_here h tag o ∷ a)
            (ap (λ z. records_at z y) site ∙ records-moved N N P P' y p.3 (beyond h tag body end) (omega arith) (omega arith));
        octets-rest = store_in [] k y;
        store-old = old ∙ ap (λ a. a ++ store_in [] k y) s₁;
        store-new = new ∙ ap (λ a. a ++ store_in [] k y) s₂;
      }

-- ---- an item gone, with all below it
module _ (h : Site) (tag at : ℕ) (body : List ℕ) (x y : Items) (p : Plain (item tag at body x y)) (low : h.up ≤ h.number) where
  pub item-cut : SiteCut (suc h.number + count x) h.number (h.place + length (share h.spot.parent tag body x)) h.place h (item tag at body x y) y
      (record_here h tag body ∷ records_at (inner h tag) x) [] (share h.spot.parent tag body x) []
  unfolding past
  item-cut =
      let N = suc h.number + count x in
      let own = share h.spot.parent tag body x in
      let P = h.place + length own in
      let b = beyond h tag body x in
      let old = store-here h.spot.parent tag at body x y p.0 in
      let l₁ = ap length old ∙ length-append own (store_in [] h.spot.parent y) in
      let c₁ = count-item tag at body x y p.0 in
      let e₁ = sym (shifted-low N h.number h.up (omega arith)) in
      let e₂ : h.number ≡ N - N + h.number = omega arith in
      let e₃ : h.place ≡ P - P + h.place = omega arith in
      let site : record { spot = past h.spot tag; up = h.up; number = h.number; place = h.place } ≡ moved_site N h.number P h.place b =
      λ i. record { spot = past h.spot tag; up = e₁ i; number = e₂ i; place = e₃ i } in
      record {
        limits = record { low = omega arith; high = omega arith; grows = omega arith; high-place = omega arith; grows-place = omega arith };
        rest = records_at b y;
        records-old = records-here h tag at body x y p;
        between =
            between-wider b.place (b.place + length (store_at b y)) P (h.place + length (store_at h (item tag at body x y))) (omega arith) (omega arith)
            (records_at b y) (records-between y b p.3);
        records-new = ap (λ z. records_at z y) site ∙ records-moved N h.number P h.place y p.3 b (omega arith) (omega arith);
        octets-rest = store_in [] h.spot.parent y;
        store-old = old;
        store-new = refl;
      }

-- ---- one element put in before the items of a site
module _ (h : Site) (tag at : ℕ) (body : List ℕ) (x y : Items) (p : Plain (item tag at body x y)) (low : h.up < h.number) where
  abbrev own : List ℕ
  own = share h.spot.parent tag body x

  pub put-cut : SiteCut h.number (h.number + suc (count x)) h.place (h.place + length own) h y (item tag at body x y)
      [] (record_here h tag body ∷ records_at (inner h tag) x) [] own
  unfolding past
  put-cut =
      let N' = h.number + suc (count x) in
      let P' = h.place + length own in
      let b = beyond h tag body x in
      let new = store-here h.spot.parent tag at body x y p.0 in
      let l₁ = ap length new ∙ length-append own (store_in [] h.spot.parent y) in
      let c₁ = count-item tag at body x y p.0 in
      let e₁ = sym (shifted-low h.number N' h.up low) in
      let e₂ : suc h.number + count x ≡ h.number - h.number + N' = omega arith in
      let e₃ : h.place + length own ≡ h.place - h.place + P' = omega arith in
      let next : Site = record { spot = past h.spot tag; up = h.up; number = h.number; place = h.place } in
      let site : beyond h tag body x ≡ moved_site h.number N' h.place P' next =
      λ i. record { spot = past h.spot tag; up = e₁ i; number = e₂ i; place = e₃ i } in
      record {
        limits = record { low = omega arith; high = omega arith; grows = omega arith; high-place = omega arith; grows-place = omega arith };
        rest = records_at h y;
        records-old = refl;
        between = records-between y h p.3;
        records-new = records-here h tag at body x y p
            ∙ ap {B = List Record} (λ a. record_here h tag body ∷ (records_at (inner h tag) x ++ a)) (ap (λ z. records_at z y) site
            ∙ records-moved h.number N' h.place P' y p.3 next (omega arith) (omega arith));
        octets-rest = store_in [] h.spot.parent y;
        store-old = refl;
        store-new = new;
      }
