-- A site of a tree that memory holds, by the lists: which numbers stand there, how far its records reach, and what is taken of the store before it.
use mathlib.Core.Path.{◌≡◌, refl, sym, ap, ap₂, ◌∙◌}
use mathlib.Core.Bool.{Bool, true, false, cond}
use mathlib.Core.List.{List, [], ◌∷◌, ◌++◌, append_assoc, append-nil, map, map-append}
use Prim.Native.Nat.{ℕ, suc, ◌+◌, ◌≤◌, ◌<◌}
use native.Mathlib.Omega.{arith}
use lib.Dec.{ltb}
use lib.ListN.{length, length-append}
use borrow.Author.Tests.{lt-ltb, le-ltb, ltb-false}
use Rattle.values.specs.Table.{known}
use Rattle.format.specs.declared.Record.{Record}
use Rattle.format.specs.Tree.{Items, count, record_of, records}
use Rattle.format.specs.Tree.Items.{end, item}
use Rattle.format.specs.Meaning.{opens}
use Rattle.format.specs.Writer.{below, past}
use Rattle.format.specs.Loaded.{stored, store_in, loaded_in}
use Rattle.format.proofs.Kept.{end_is}
use Rattle.format.proofs.Tabled.{count-item}
use Rattle.edits.specs.Sites.{Site, inner, share, beyond, records_at, store_at, Swapped}
use Rattle.edits.specs.Sites.Swapped.{here, inside, after}
use Rattle.edits.specs.Extents.{deeper, sum_of}
use Rattle.edits.proofs.Swaps.{Plain}
use Rattle.edits.proofs.Sites.{record_here, records-here, store-here}
use Rattle.edits.proofs.Cuts.{share-shut}
use Rattle.edits.proofs.Records.{share-open, records-length}

abbrev sizes : List Record → List ℕ
sizes rs = map (λ r. r.size) rs

abbrev depths : List Record → List ℕ
depths rs = map (λ r. r.depth) rs

-- ---- sums
pub sum-append : (a b : List ℕ) → sum_of (a ++ b) ≡ sum_of a + sum_of b
unfolding sum_of
sum-append [] b = omega arith
sum-append (n ∷ a) b = omega (arith, sum-append a b)

-- ---- an item's own record
pub here-open : (s : Site) (tag : ℕ) (body : List ℕ) → opens tag ≡ true → record_here s tag body ≡ record_of s.spot.depth s.up tag 0 []
unfolding record_here
here-open s tag body o = rw o

pub here-shut : (s : Site) (tag : ℕ) (body : List ℕ) → opens tag ≡ false
    → record_here s tag body ≡ record_of s.spot.depth s.up tag s.place (stored [] (known s.spot.parent tag) body)
unfolding record_here
here-shut s tag body o = rw o

pub here-depth : (s : Site) (tag : ℕ) (body : List ℕ) → (record_here s tag body).depth ≡ s.spot.depth
here-depth s tag body = go (opens tag) refl
  where
    go : (b : Bool) → opens tag ≡ b → (record_here s tag body).depth ≡ s.spot.depth
    go true o = ap (λ r. r.depth) (here-open s tag body o)
    go false o = ap (λ r. r.depth) (here-shut s tag body o)

-- ---- what records take of the store: one that holds items takes nothing itself
pub item-sum : (s : Site) (tag at : ℕ) (body : List ℕ) (x y : Items) → Plain (item tag at body x y) → sum_of (sizes (records_at (inner s tag) x)) ≡ length (store_at (inner s tag) x)
    → (record_here s tag body).size + sum_of (sizes (records_at (inner s tag) x)) ≡ length (share s.spot.parent tag body x)
unfolding below store_in
item-sum s tag at body x y p within = go (opens tag) refl
  where
    go : (b : Bool) → opens tag ≡ b → (record_here s tag body).size + sum_of (sizes (records_at (inner s tag) x)) ≡ length (share s.spot.parent tag body x)
    go true o = omega (arith, within, ap (λ r. r.size) (here-open s tag body o), ap length (share-open s.spot.parent tag body x o))
    go false o =
        let e : end ≡ x = end_is x (rw o at p.1) in
        let none : length (store_at (inner s tag) x) ≡ 0 = ap (λ z. length (store_at (inner s tag) z)) (sym e) in
        omega (arith, within, ap (λ r. r.size) (here-shut s tag body o), ap length (share-shut s.spot.parent tag body x o))

pub sum-records : (t : Items) (s : Site) → Plain t → sum_of (sizes (records_at s t)) ≡ length (store_at s t)
unfolding sum_of records loaded_in store_in below past
sum-records end s p = refl
sum-records (item tag at body x y) s p =
    let xs = records_at (inner s tag) x in
    let ys = records_at (beyond s tag body x) y in
    let own = item-sum s tag at body x y p (sum-records x (inner s tag) p.2) in
    let later = sum-records y (beyond s tag body x) p.3 in
    let all : sum_of (sizes (records_at s (item tag at body x y))) ≡ (record_here s tag body).size + (sum_of (sizes xs) + sum_of (sizes ys)) =
    ap (λ z. sum_of (sizes z)) (records-here s tag at body x y p) ∙ ap (λ z. (record_here s tag body).size + z) (ap sum_of (map-append (λ r. r.size) xs ys) ∙ sum-append (sizes xs) (sizes ys)) in
    let long = ap length (store-here s.spot.parent tag at body x y p.0) ∙ length-append (share s.spot.parent tag body x) (store_in [] s.spot.parent y) in
    omega arith

-- ---- depths
deeper-less : (d e : ℕ) (l : List ℕ) → d ≤ e → deeper d l ≡ 0 → deeper e l ≡ 0
unfolding deeper
deeper-less d e [] h q = refl
deeper-less d e (a ∷ l) h q = go (ltb d a) refl q
  where
    go : (b : Bool) → ltb d a ≡ b → cond b (suc (deeper d l)) 0 ≡ 0 → deeper e (a ∷ l) ≡ 0
    go true b q = absurd (omega arith)
    go false b q = rw (le-ltb e a (omega (arith, ltb-false d a b)))

pub deeper-most : (d : ℕ) (l : List ℕ) → deeper d l ≤ length l
unfolding deeper
deeper-most d [] = omega arith
deeper-most d (a ∷ l) = go (ltb d a) (deeper-most d l)
  where
    go : (b : Bool) → deeper d l ≤ length l → cond b (suc (deeper d l)) 0 ≤ suc (length l)
    go true h = omega arith
    go false h = omega arith

-- all records of items are as deep as these stand, or deeper
pub deep-records : (t : Items) (s : Site) → Plain t → (d : ℕ) → d < s.spot.depth → (rest : List ℕ) → deeper d (depths (records_at s t) ++ rest) ≡ count t + deeper d rest
unfolding deeper records loaded_in count below past
deep-records end s p d h rest = omega arith
deep-records (item tag at body x y) s p d h rest =
    let xs = records_at (inner s tag) x in
    let ys = records_at (beyond s tag body x) y in
    let group : depths (xs ++ ys) ++ rest ≡ depths xs ++ (depths ys ++ rest) = ap (λ z. z ++ rest) (map-append (λ r. r.depth) xs ys) ∙ append_assoc (depths xs) (depths ys) rest in
    let all : deeper d (depths (records_at s (item tag at body x y)) ++ rest) ≡ cond (ltb d s.spot.depth) (suc (deeper d (depths xs ++ (depths ys ++ rest)))) 0 =
    ap (λ z. deeper d (depths z ++ rest)) (records-here s tag at body x y p)
    ∙ ap₂ (λ a z. cond (ltb d a) (suc (deeper d z)) 0) (here-depth s tag body) group in
    let one : deeper d (depths (records_at s (item tag at body x y)) ++ rest) ≡ suc (deeper d (depths xs ++ (depths ys ++ rest))) = all ∙ rw (lt-ltb d s.spot.depth h) in
    omega (arith, deep-records x (inner s tag) p.2 d (omega arith) (depths ys ++ rest), deep-records y (beyond s tag body x) p.3 d h rest, count-item tag at body x y p.0)

-- the records of items that aren't deeper than a depth stop a scan
pub stop-records : (t : Items) (s : Site) → Plain t → (d : ℕ) → s.spot.depth ≤ d → (rest : List ℕ) → deeper d rest ≡ 0 → deeper d (depths (records_at s t) ++ rest) ≡ 0
unfolding deeper records loaded_in
stop-records end s p d h rest q = q
stop-records (item tag at body x y) s p d h rest q =
    ap (λ z. deeper d (depths z ++ rest)) (records-here s tag at body x y p)
    ∙ rw (here-depth s tag body, le-ltb d s.spot.depth h)

-- ---- a site in items: the records before it, with what they take of the store, and those behind what stands there, which stop a scan
pub record Extent (s : Site) (t : Items) (h : Site) (u : Items) : Type 0 where
  pub pre : List Record
  pub post : List Record
  pub is : records_at s t ≡ pre ++ (records_at h u ++ post)
  pub long : s.number + length pre ≡ h.number
  pub place : s.place + sum_of (map (λ r. r.size) pre) ≡ h.place
  pub stops : (rest : List ℕ) → deeper s.spot.depth rest ≡ 0 → deeper h.spot.depth (map (λ r. r.depth) post ++ rest) ≡ 0

pub extent : {s : Site} {t t' : Items} {h : Site} {u w : Items} → Swapped s t t' h u w → Plain t → Extent s t h u
unfolding below past sum_of
extent (here s t t') p = record { pre = []; post = []; is = sym (append-nil (records_at s t)); long = omega arith; place = omega arith; stops = λ rest q. q }
extent (inside s tag at body x x' y h u w o v) p =
    let g = extent v p.2 in
    let b = beyond s tag body x in
    let ys = records_at b y in
    record {
      pre = record_here s tag body ∷ g.pre;
      post = g.post ++ ys;
      is = records-here s tag at body x y p ∙ ap {B = List Record} (λ z. record_here s tag body ∷ z) (ap (λ z. z ++ ys) g.is ∙ simp append_assoc);
      long = omega (arith, g.long);
      place = omega (arith, g.place, ap (λ r. r.size) (here-open s tag body o));
      stops = λ rest q.
          ap (deeper h.spot.depth) (ap (λ z. z ++ rest) (map-append (λ r. r.depth) g.post ys) ∙ append_assoc (depths g.post) (depths ys) rest)
          ∙ g.stops (depths ys ++ rest) (stop-records y b p.3 (suc s.spot.depth) (omega arith) rest (deeper-less s.spot.depth (suc s.spot.depth) rest (omega arith) q));
    }
extent (after s tag at body x y y' h u w v) p =
    let g = extent v p.3 in
    let xs = records_at (inner s tag) x in
    let own = item-sum s tag at body x y p (sum-records x (inner s tag) p.2) in
    record {
      pre = record_here s tag body ∷ (xs ++ g.pre);
      post = g.post;
      is = records-here s tag at body x y p
          ∙ ap {B = List Record} (λ z. record_here s tag body ∷ z) (ap (λ z. xs ++ z) g.is ∙ sym (append_assoc xs g.pre (records_at h u ++ g.post)));
      long = omega (arith, g.long, length-append xs g.pre, records-length (inner s tag) x p.2);
      place = omega (arith, g.place, ap sum_of (map-append (λ r. r.size) xs g.pre), sum-append (sizes xs) (sizes g.pre));
      stops = g.stops;
    }
