-- Removing makes nothing more: no records, no octets of the store, none of the normal form. So of a tree that memory holds it is refused by 18 alone.
use mathlib.Core.Path.{◌≡◌, refl, ap}
use mathlib.Core.Bool.{Bool, true, false, cond}
use mathlib.Core.Option.{none, some}
use mathlib.Core.List.{List, [], ◌∷◌}
use Prim.Native.Nat.{ℕ, ◌+◌, ◌≤◌, ◌<◌}
use native.Mathlib.Omega.{arith}
use native.Mathlib.Nat.{le-min}
use lib.Dec.{eqb, leb, ltb}
use lib.ListN.{length, length-append}
use borrow.Author.Tests.{leb-true, leb-false, le-leb, ltb-true}
use Rattle.octets.specs.Counts.{as_octets}
use Rattle.octets.specs.Numbers.{Octets, digits}
use Rattle.octets.specs.Header.{length_field}
use Rattle.octets.proofs.Tests.{and_right}
use Rattle.values.specs.Table.{known}
use Rattle.format.specs.Tree.{Items, count}
use Rattle.format.specs.Tree.Items.{item}
use Rattle.format.specs.Judge.{first, rule, unless}
use Rattle.format.specs.Judge.Judged.{accepted}
use Rattle.format.specs.Meaning.{opens, means, encode}
use Rattle.format.specs.Writer.{below, past, at_top, ruled}
use Rattle.format.specs.Loaded.{stored, store_in}
use Rattle.format.specs.Calls.{row, roomy}
use Rattle.format.specs.State.{Memory, places_in, packed, packed_store, kept, tree_held}
use Rattle.format.proofs.Written.{Bytes, located-bytes}
use Rattle.format.proofs.Rebuilt.{whole-count}
use Rattle.survey.specs.Normal.{framed_size, normal_size}
use Rattle.survey.proofs.NormalSizes.{size-whole}
use Rattle.state.specs.Taking.{overflow, settled}
use Rattle.state.proofs.HeldTree.{held}
use Rattle.edits.specs.Tree.{change_at, without, is_there, changed}
use Rattle.edits.specs.Tree.Edit.{remove}
use Rattle.edits.specs.Calls.{edited, edited_in}
use Rattle.edits.specs.Sites.{Site, Swapped}
use Rattle.edits.specs.Sites.Swapped.{here, inside, after}
use Rattle.edits.proofs.Stores.{held-store, held-places}
use Rattle.edits.proofs.Standing.{packed-means, packed-count, packed-store}
use Rattle.edits.proofs.Found.{at-record}
use Rattle.edits.proofs.Local.{remove-rules}
use Rattle.edits.proofs.Changed.{changed-bytes}

-- ---- a measure of the items in an element that no item inside and none after makes less
pub record Measure (f : ℕ → Items → ℕ) : Type 0 where
  pub within : (p tag at : ℕ) (body : List ℕ) (x x' y : Items) → opens tag ≡ true → f tag x' ≤ f tag x → f p (item tag at body x' y) ≤ f p (item tag at body x y)
  pub beside : (p tag at : ℕ) (body : List ℕ) (x y y' : Items) → f p y' ≤ f p y → f p (item tag at body x y') ≤ f p (item tag at body x y)
  pub without-one : (p tag at : ℕ) (body : List ℕ) (x y : Items) → f p y ≤ f p (item tag at body x y)

module _ (f : ℕ → Items → ℕ) (measure : Measure f) where
  no_more : {s : Site} {t t' : Items} {h : Site} {u w : Items} → Swapped s t t' h u w → f h.spot.parent w ≤ f h.spot.parent u
      → f s.spot.parent t' ≤ f s.spot.parent t
  unfolding below past
  no_more (here s t t') l = l
  no_more (inside s tag at body x x' y h u w o v) l = measure.within s.spot.parent tag at body x x' y o (no_more v l)
  no_more (after s tag at body x y y' h u w v) l = measure.beside s.spot.parent tag at body x y y' (no_more v l)

  remove-less : (t : Items) → ruled at_top t ≡ true → (i : ℕ) → i < count t → f 0 (change_at without i t) ≤ f 0 t
  unfolding at_top without
  remove-less t r i l = let g = at-record without t r i l in no_more g.swapped (measure.without-one g.site.spot.parent g.tag g.at g.body g.x g.y)

-- ---- the octets of the normal form: a longer body has no shorter header
field-more : (m n : ℕ) → m ≤ n → length (length_field m) ≤ length (length_field n)
unfolding length_field digits
field-more m n h = go (leb m 0xFD) refl (leb n 0xFD) refl
  where
    go : (a : Bool) → leb m 0xFD ≡ a → (b : Bool) → leb n 0xFD ≡ b → length (cond a (m ∷ []) (0xFE ∷ digits 2 m)) ≤ length (cond b (n ∷ []) (0xFE ∷ digits 2 n))
    go true p true q = omega arith
    go true p false q = omega arith
    go false p true q = absurd (omega (arith, leb-false m 0xFD p, leb-true n 0xFD q))
    go false p false q = omega arith

pub framed-monotone : (m n : ℕ) → m ≤ n → framed_size m ≤ framed_size n
unfolding framed_size
framed-monotone m n h = omega (arith, field-more m n h)

sizes-measure : Measure normal_size
unfolding normal_size
sizes-measure = record {
  within = λ p tag at body x x' y o l. let f = framed-monotone (normal_size tag x') (normal_size tag x) l in rw o (omega arith);
  beside = λ p tag at body x y y' l. omega arith;
  without-one = λ p tag at body x y. omega arith;
}

pub remove-shrinks : (t : Items) → ruled at_top t ≡ true → (i : ℕ) → i < count t → length (encode (means [] (change_at without i t))) ≤ length (encode (means [] t))
remove-shrinks t r i l = omega (arith, remove-less normal_size sizes-measure t r i l, size-whole t r, size-whole (change_at without i t) (remove-rules t r i l))

-- ---- the records
counts-measure : Measure (λ p t. count t)
unfolding count
counts-measure = record {
  within = λ p tag at body x x' y o l. go (eqb tag 4) (count x') (count x) (count y) l;
  beside = λ p tag at body x y y' l. omega arith;
  without-one = λ p tag at body x y. omega arith;
}
  where
    go : (b : Bool) (m n k : ℕ) → m ≤ n → cond b 0 (1 + m) + k ≤ cond b 0 (1 + n) + k
    go true m n k l = omega arith
    go false m n k l = omega arith

-- ---- the store
abbrev store_size : ℕ → Items → ℕ
store_size p t = length (store_in [] p t)

abbrev own : (p tag : ℕ) → List ℕ → Items → List ℕ
own p tag body x = cond (eqb tag 4) [] (cond (opens tag) (store_in [] tag x) (stored [] (known p tag) body))

store-item : (p tag at : ℕ) (body : List ℕ) (x y : Items) → store_size p (item tag at body x y) ≡ length (own p tag body x) + store_size p y
unfolding store_in
store-item p tag at body x y = length-append (own p tag body x) (store_in [] p y)

store-measure : Measure store_size
store-measure = record {
  within = λ p tag at body x x' y o l. omega (arith, store-item p tag at body x y, store-item p tag at body x' y, held-less p tag body x x' o l);
  beside = λ p tag at body x y y' l. omega (arith, store-item p tag at body x y, store-item p tag at body x y');
  without-one = λ p tag at body x y. omega (arith, store-item p tag at body x y);
}
  where
    go : (b : Bool) (a c : List ℕ) → length a ≤ length c → length (cond b [] a) ≤ length (cond b [] c)
    go true a c l = omega arith
    go false a c l = l

    held-less : (p tag : ℕ) (body : List ℕ) (x x' : Items) → opens tag ≡ true → store_size tag x' ≤ store_size tag x
        → length (own p tag body x') ≤ length (own p tag body x)
    held-less p tag body x x' o l = rw o (go (eqb tag 4) (store_in [] tag x') (store_in [] tag x) l)

-- ---- the call: where memory holds a tree with such a record, nothing is refused
module _ (n : ℕ) (m : Memory) (t : Items) (h : tree_held n m ≡ some t) (os : Octets m.store) (i : ℕ) (there : is_there (remove i) t ≡ true) where
  rules : ruled at_top t ≡ true
  rules = (held n m t h).whole.rules

  number : i < count t
  unfolding is_there
  number = ltb-true i (count t) (and_right (ltb 0 i) (ltb i (count t)) there)

  abbrev less : Items
  less = change_at without i t

  stored-within : store_size 0 t ≤ length m.store
  stored-within = (held-store n m t (held n m t h)).0

  counted-within : count t ≤ places_in m
  unfolding places_in
  counted-within =
      let k = held n m t h in
      omega (arith, whole-count (row m.lists) n m.store t k.whole, le-min (held-places n m t k) k.fewer)

  bytes : Bytes less
  unfolding changed
  bytes = changed-bytes (remove i) t less (located-bytes m.store os t (held n m t h).whole.located) tt refl

  kept-rules : ruled at_top less ≡ true
  kept-rules = remove-rules t rules i number

  fits : overflow (as_octets 32_768) m (packed less) ≡ none
  unfolding overflow roomy first rule
  fits =
      let a : leb (count (packed less)) (places_in m) ≡ true =
      le-leb (count (packed less)) (places_in m)
      (omega (arith, packed-count less bytes kept-rules, remove-less (λ p u. count u) counts-measure t rules i number, counted-within)) in
      let b : leb (length (packed_store (packed less))) (length m.store) ≡ true =
      le-leb (length (packed_store (packed less))) (length m.store)
      (omega (arith, ap length (packed-store less bytes kept-rules), remove-less store_size store-measure t rules i number, stored-within)) in
      let c : leb (length (encode (means [] (packed less)))) 32_768 ≡ true =
      le-leb (length (encode (means [] (packed less)))) 32_768
      (omega (arith, ap (λ z. length (encode z)) (packed-means less bytes kept-rules), remove-shrinks t rules i number, (held n m t h).small)) in
      rw (a, b, c)

  pub remove-leaves : edited_in m (remove i) (some t) ≡ accepted (packed less)
  unfolding edited_in rule unless settled edited kept changed
  remove-leaves = rw (there, kept-rules, fits)
