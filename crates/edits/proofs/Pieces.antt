-- What is loaded of an item's share of a tree: apart from the items after it, and by what is laid of it.
use mathlib.Core.Path.{◌≡◌, refl, sym, ap, ap₂, ◌∙◌}
use mathlib.Core.Bool.{Bool, true, false, cond}
use mathlib.Core.Option.{Option, some}
use mathlib.Core.List.{List, [], ◌∷◌, ◌++◌, append-nil}
use Prim.Native.Nat.{ℕ, ◌+◌}
use native.Mathlib.Nat.{add-zero}
use native.Mathlib.Omega.{arith}
use lib.Dec.{eqb}
use lib.ListN.{length, length-append}
use lib.Seq.{sets}
use Rattle.octets.proofs.Lists.{sets-append}
use Rattle.text.specs.Tokens.{Entries}
use Rattle.values.specs.declared.Kind.{Kind}
use Rattle.values.specs.Table.{known}
use Rattle.format.specs.declared.Record.{Record}
use Rattle.format.specs.Tree.{Items, count, records}
use Rattle.format.specs.Tree.Items.{end, item}
use Rattle.format.specs.Judge.{is_known, is_items}
use Rattle.format.specs.Meaning.{opens}
use Rattle.format.specs.Loaded.{stored, store_in, loaded_in}
use Rattle.format.specs.Calls.{Lists, lay}
use Rattle.format.proofs.Means.{items-opens}
use Rattle.format.proofs.Spans.{records-count}
use Rattle.format.proofs.Lays.{lay-append}
use Rattle.judge.proofs.AllWays.{tokens-four}
use Rattle.reader.specs.Filling.{share}
use Rattle.reader.proofs.Shares.{records-item, count-item}
use Rattle.tags.specs.declared.Listed.TheVariants.{Nothing, Inside, Value}
use Rattle.tags.specs.Listed.{listed_as}
use Rattle.tags.proofs.Listing.{is-nothing, is-inside, is-value}
use Rattle.survey.specs.Normal.{framed_size}
use Rattle.edits.specs.Lay.{added_in, own_sizes}
use Rattle.state.specs.Order.{item_adds}
use Rattle.state.proofs.BodySizes.{open-counts}

-- ---- sizes of bodies: an item, and then what comes after it

sizes-item : (p tag at : ℕ) (body : List ℕ) (x y : Items) → own_sizes p (item tag at body x y) ≡ own_sizes p (item tag at body x end) ++ own_sizes p y
unfolding own_sizes
sizes-item p tag at body x y = ap (λ o. o ++ own_sizes p y) (sym (append-nil (cond (eqb tag 4) [] (cond (opens tag) (added_in tag x) (length body) ∷ own_sizes tag x))))

adds-item : (p tag at : ℕ) (body : List ℕ) (x y : Items) → added_in p (item tag at body x y) ≡ added_in p (item tag at body x end) + added_in p y
unfolding added_in
adds-item p tag at body x y = omega arith

-- one for each record
own_first : (tag own : ℕ) (x : Items) → length (own_sizes tag x) ≡ count x → (b : Bool) → length (cond b [] (own ∷ own_sizes tag x)) ≡ cond b 0 (1 + count x)
own_first tag own x e true = refl
own_first tag own x e false = omega arith

pub own-count : (p : ℕ) (t : Items) → length (own_sizes p t) ≡ count t
unfolding own_sizes count
own-count p end = refl
own-count p (item tag at body x y) =
    let own = cond (opens tag) (added_in tag x) (length body) in
    length-append (cond (eqb tag 4) [] (own ∷ own_sizes tag x)) (own_sizes p y) ∙ ap₂ (λ a b. a + b) (own_first tag own x (own-count tag x) (eqb tag 4)) (own-count p y)

-- an item that holds no items, and one that does
pub record Sized (p : ℕ) (t : Items) (size added : ℕ) (inside : List ℕ) : Type 0 where
  pub sizes : own_sizes p t ≡ size ∷ inside
  pub adds : added_in p t ≡ added

pub sized-value : (p tag at : ℕ) (body : List ℕ) → eqb tag 4 ≡ false → opens tag ≡ false
    → Sized p (item tag at body end end) (length body) (item_adds p tag body (length body)) []
unfolding own_sizes added_in
sized-value p tag at body f o = record { sizes = rw (f, o); adds = rw o (add-zero (item_adds p tag body (length body))) }

pub sized-items : (p tag at : ℕ) (body : List ℕ) (x : Items) → eqb tag 4 ≡ false → opens tag ≡ true
    → Sized p (item tag at body x end) (added_in tag x) (framed_size (added_in tag x)) (own_sizes tag x)
unfolding own_sizes added_in
sized-items p tag at body x f o = record { sizes = rw (f, o) (append-nil (added_in tag x ∷ own_sizes tag x)); adds = rw (o, open-counts p tag body o) (add-zero (framed_size (added_in tag x))) }

-- ---- an item's share, and then the items after it

-- a tree in two: what both take of the store, and what is loaded of both
pub record Splits (T : Entries) (p : ℕ) (whole own after : Items) : Type 0 where
  pub stores : store_in T p whole ≡ store_in T p own ++ store_in T p after
  pub many : (at : ℕ) → count (loaded_in T p at whole) ≡ count (loaded_in T p at own) + count (loaded_in T p (at + length (store_in T p own)) after)
  pub laid : (at depth parent n : ℕ)
      → records depth parent n (loaded_in T p at whole)
      ≡ records depth parent n (loaded_in T p at own) ++ records depth parent (n + count (loaded_in T p at own)) (loaded_in T p (at + length (store_in T p own)) after)
  pub sizes : (at : ℕ) → own_sizes p (loaded_in T p at whole) ≡ own_sizes p (loaded_in T p at own) ++ own_sizes p (loaded_in T p (at + length (store_in T p own)) after)
  pub adds : (at : ℕ) → added_in p (loaded_in T p at whole) ≡ added_in p (loaded_in T p at own) + added_in p (loaded_in T p (at + length (store_in T p own)) after)

splits-none : (T : Entries) (p : ℕ) (v : Items) → Splits T p v end v
unfolding store_in loaded_in records count own_sizes added_in
splits-none T p v = record {
  stores = refl;
  many = λ at. let e = ap (λ m. count (loaded_in T p m v)) (add-zero at) in omega arith;
  laid = λ at depth parent n. ap₂ (λ m k. records depth parent m (loaded_in T p k v)) (sym (add-zero n)) (sym (add-zero at));
  sizes = λ at. ap (λ m. own_sizes p (loaded_in T p m v)) (sym (add-zero at));
  adds = λ at. let e = ap (λ m. added_in p (loaded_in T p m v)) (add-zero at) in omega arith;
}

module _ (T : Entries) (p tag from : ℕ) (body : List ℕ) where
  -- what is loaded of an item and the items after it, by two tests of its tag: is it the token table, does it hold items
  module _ (x : Items) (at : ℕ) where
    abbrev held : List ℕ
    held = store_in T tag x

    abbrev single : List ℕ
    single = stored T (known p tag) body

    abbrev loads : (b c : Bool) → Items → Items
    loads b c v =
        cond b (loaded_in T p at v) (cond c (item tag 0 [] (loaded_in T tag at x) (loaded_in T p (at + length held) v)) (item tag at single end (loaded_in T p (at + length single) v)))

    abbrev takes : (b c : Bool) → List ℕ
    takes b c = cond b [] (cond c held single)

    item-many : (v : Items) (b c : Bool) → count (loads b c v) ≡ count (loads b c end) + count (loaded_in T p (at + length (takes b c ++ [])) v)
    unfolding loaded_in count
    item-many v true c = let e = ap (λ m. count (loaded_in T p m v)) (add-zero at) in omega arith
    item-many v false true =
        let X = loaded_in T tag at x in
        count-item tag 0 [] X (loaded_in T p (at + length held) v) ∙ ap (λ o. count (item tag 0 [] X end) + count (loaded_in T p (at + length o) v)) (sym (append-nil held))
    item-many v false false =
        count-item tag at single end (loaded_in T p (at + length single) v)
        ∙ ap (λ o. count (item tag at single end end) + count (loaded_in T p (at + length o) v)) (sym (append-nil single))

    item-laid : (v : Items) (depth parent n : ℕ) (b c : Bool)
        → records depth parent n (loads b c v)
        ≡ records depth parent n (loads b c end) ++ records depth parent (n + count (loads b c end)) (loaded_in T p (at + length (takes b c ++ [])) v)
    unfolding loaded_in records count
    item-laid v depth parent n true c = ap₂ (λ m k. records depth parent m (loaded_in T p k v)) (sym (add-zero n)) (sym (add-zero at))
    item-laid v depth parent n false true =
        let t = item tag 0 [] (loaded_in T tag at x) end in
        records-item tag 0 [] depth parent n (loaded_in T tag at x) (loaded_in T p (at + length held) v)
        ∙ ap (λ o. records depth parent n t ++ records depth parent (n + count t) (loaded_in T p (at + length o) v)) (sym (append-nil held))
    item-laid v depth parent n false false =
        let t = item tag at single end end in
        records-item tag at single depth parent n end (loaded_in T p (at + length single) v)
        ∙ ap (λ o. records depth parent n t ++ records depth parent (n + count t) (loaded_in T p (at + length o) v)) (sym (append-nil single))

    item-sizes : (v : Items) (b c : Bool) → own_sizes p (loads b c v) ≡ own_sizes p (loads b c end) ++ own_sizes p (loaded_in T p (at + length (takes b c ++ [])) v)
    unfolding loaded_in own_sizes
    item-sizes v true c = ap (λ m. own_sizes p (loaded_in T p m v)) (sym (add-zero at))
    item-sizes v false true =
        let X = loaded_in T tag at x in
        sizes-item p tag 0 [] X (loaded_in T p (at + length held) v) ∙ ap (λ o. own_sizes p (item tag 0 [] X end) ++ own_sizes p (loaded_in T p (at + length o) v)) (sym (append-nil held))
    item-sizes v false false =
        sizes-item p tag at single end (loaded_in T p (at + length single) v)
        ∙ ap (λ o. own_sizes p (item tag at single end end) ++ own_sizes p (loaded_in T p (at + length o) v)) (sym (append-nil single))

    item-adds : (v : Items) (b c : Bool) → added_in p (loads b c v) ≡ added_in p (loads b c end) + added_in p (loaded_in T p (at + length (takes b c ++ [])) v)
    unfolding loaded_in added_in
    item-adds v true c = let e = ap (λ m. added_in p (loaded_in T p m v)) (add-zero at) in omega arith
    item-adds v false true =
        let X = loaded_in T tag at x in
        adds-item p tag 0 [] X (loaded_in T p (at + length held) v) ∙ ap (λ o. added_in p (item tag 0 [] X end) + added_in p (loaded_in T p (at + length o) v)) (sym (append-nil held))
    item-adds v false false =
        adds-item p tag at single end (loaded_in T p (at + length single) v)
        ∙ ap (λ o. added_in p (item tag at single end end) + added_in p (loaded_in T p (at + length o) v)) (sym (append-nil single))

  splits-item : (x v : Items) → Splits T p (item tag from body x v) (item tag from body x end) v
  unfolding store_in loaded_in
  splits-item x v = record {
    stores = ap (λ o. o ++ store_in T p v) (sym (append-nil (takes x 0 (eqb tag 4) (opens tag))));
    many = λ at. item-many x at v (eqb tag 4) (opens tag);
    laid = λ at depth parent n. item-laid x at v depth parent n (eqb tag 4) (opens tag);
    sizes = λ at. item-sizes x at v (eqb tag 4) (opens tag);
    adds = λ at. item-adds x at v (eqb tag 4) (opens tag);
  }

  pub splits-share : (k : Option Kind) (u v : Items) → Splits T p (share k tag from body u v) (share k tag from body u end) v
  unfolding share
  splits-share k u v = go (is_items k) (is_known k)
    where
      go : (a b : Bool)
          → Splits T p (cond a (item tag from body u v) (cond b (item tag from body end v) v)) (cond a (item tag from body u end) (cond b (item tag from body end end) end)) v
      go true b = splits-item u v
      go false true = splits-item end v
      go false false = splits-none T p v

module _ {T : Entries} {p : ℕ} {whole own after : Items} (s : Splits T p whole own after) (at : ℕ) where
  -- the items after it begin where it ends
  abbrev behind : Items
  behind = loaded_in T p (at + length (store_in T p own)) after

  -- laid one after the other
  pub split-lists : (depth parent n : ℕ) (l : Lists)
      → lay n (records depth parent n (loaded_in T p at whole)) l
      ≡ lay (n + count (loaded_in T p at own)) (records depth parent (n + count (loaded_in T p at own)) behind) (lay n (records depth parent n (loaded_in T p at own)) l)
  split-lists depth parent n l =
      let first = records depth parent n (loaded_in T p at own) in
      let more = records depth parent (n + count (loaded_in T p at own)) behind in
      ap (λ (rs : List Record). lay n rs l) (s.laid at depth parent n) ∙ lay-append n first more l
      ∙ ap (λ (m : ℕ). lay (n + m) more (lay n first l)) (records-count (loaded_in T p at own) depth parent n)

  pub split-store : (store : List ℕ) → sets store at (store_in T p whole) ≡ sets (sets store at (store_in T p own)) (at + length (store_in T p own)) (store_in T p after)
  split-store store = ap (sets store at) s.stores ∙ sym (sets-append store at (store_in T p own) (store_in T p after))

  pub split-sizes : (n : ℕ) (bodies : List ℕ) → sets bodies n (own_sizes p (loaded_in T p at whole)) ≡ sets (sets bodies n (own_sizes p (loaded_in T p at own))) (n + count (loaded_in T p at own)) (own_sizes p behind)
  split-sizes n bodies =
      let first = own_sizes p (loaded_in T p at own) in
      ap (sets bodies n) (s.sizes at) ∙ sym (sets-append bodies n first (own_sizes p behind)) ∙ ap (λ m. sets (sets bodies n first) (n + m) (own_sizes p behind)) (own-count p (loaded_in T p at own))

-- ---- by what is laid of an item

module _ (T : Entries) (p tag from : ℕ) (body : List ℕ) (u : Items) where
  abbrev own : Items
  own = share (known p tag) tag from body u end

  -- nothing
  pub record OfNothing : Type 0 where
    pub stores : store_in T p own ≡ []
    pub loads : (at : ℕ) → loaded_in T p at own ≡ end

  pub of-nothing : Nothing ≡ listed_as (known p tag) → OfNothing
  unfolding share store_in loaded_in
  of-nothing h = go (is_known (known p tag)) refl
    where
      shut : is_items (known p tag) ≡ false
      shut = (is-nothing (known p tag) h).0

      go : (b : Bool) → is_known (known p tag) ≡ b → OfNothing
      go true q =
          let f : eqb tag 4 ≡ true = sym (tokens-four p tag) ∙ sym (is-nothing (known p tag) h).1 ∙ q in
          record { stores = rw (shut, q, f); loads = λ at. rw (shut, q, f) }
      go false q = record { stores = rw (shut, q); loads = λ at. rw (shut, q) }

  -- a value of a kind
  pub record OfOctets (k : Kind) : Type 0 where
    pub is : known p tag ≡ some k
    pub no_table : eqb tag 4 ≡ false
    pub shut : opens tag ≡ false
    pub stores : store_in T p own ≡ stored T (some k) body
    pub loads : (at : ℕ) → loaded_in T p at own ≡ item tag at (stored T (some k) body) end end

  pub of-octets : (k : Kind) → Value k ≡ listed_as (known p tag) → OfOctets k
  unfolding share store_in loaded_in is_known
  of-octets k h =
      let w = is-value (known p tag) k h in
      let f : eqb tag 4 ≡ false = sym (tokens-four p tag) ∙ w.no_table in
      let o : opens tag ≡ false = sym (items-opens p tag) ∙ w.shut in
      let y : is_known (known p tag) ≡ true = ap is_known w.is in
      record {
        is = w.is;
        no_table = f;
        shut = o;
        stores = rw (w.shut, y, f, o, w.is) (append-nil (stored T (some k) body));
        loads = λ at. rw (w.shut, y, f, o, w.is);
      }

  -- the items inside it
  pub record OfItems : Type 0 where
    pub holds : is_items (known p tag) ≡ true
    pub no_table : eqb tag 4 ≡ false
    pub unfolds : opens tag ≡ true
    pub stores : store_in T p own ≡ store_in T tag u
    pub loads : (at : ℕ) → loaded_in T p at own ≡ item tag 0 [] (loaded_in T tag at u) end

  pub of-items : Inside ≡ listed_as (known p tag) → OfItems
  unfolding share store_in loaded_in
  of-items h =
      let w = is-inside (known p tag) h in
      let f : eqb tag 4 ≡ false = sym (tokens-four p tag) ∙ w.1 in
      let o : opens tag ≡ true = sym (items-opens p tag) ∙ w.0 in
      record {
        holds = w.0;
        no_table = f;
        unfolds = o;
        stores = rw (w.0, f, o) (append-nil (store_in T tag u));
        loads = λ at. rw (w.0, f, o);
      }
