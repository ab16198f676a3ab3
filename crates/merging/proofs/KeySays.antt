-- Of accepted octets the keys are those of their meaning.
use mathlib.Core.Path.{◌≡◌, refl, sym, ap, ap₂, ◌∙◌, subst}
use mathlib.Core.Bool.{Bool, true, false, cond, not, ◌&&◌, ◌||◌, false≢true}
use mathlib.Core.List.{List}
use Prim.Native.Nat.{ℕ, zero, suc, ◌+◌}
use native.Mathlib.Omega.{arith}
use lib.Dec.{eqb}
use borrow.Author.Tests.{eqb-true}
use Rattle.text.specs.Tokens.{Entries, entries}
use Rattle.text.specs.Index.{Indexes, entries_by}
use Rattle.values.specs.Table.{known, attribute, kind_in, rows}
use Rattle.format.specs.Tree.{Items}
use Rattle.format.specs.Judge.{is_items, is_top}
use Rattle.format.specs.Meaning.{Meaning, opens, attributes_in, means}
use Rattle.reader.specs.Filling.{Accepts}
use Rattle.reader.proofs.Reading.{whole}
use Rattle.survey.specs.Places.{table_body}
use Rattle.compare.specs.Walks.{children_in}
use Rattle.compare.proofs.Sets.{SameAttribute, attribute-says}
use Rattle.compare.proofs.Answering.{found-means}
use Rattle.merge.specs.declared.Services.{Services}
use Rattle.merge.specs.declared.Services.TheVariants.{ByTag, ByBearers}
use Rattle.merge.specs.Keys.{merges, key_attribute, same_attribute, has_bearer, bearers_in, same_service, same_key, partners, has_partner}
use Rattle.merge.specs.Merged.{twice}
use Rattle.merge.proofs.Self.{cannot}
use Rattle.merge.proofs.Advanced.{merges-opens}
use Rattle.merging.specs.Searches.{any_child}
use Rattle.merging.specs.Keyed.{same_at, is_bearer_of, is_foreign, has_foreign, same_bearers, same_service_in, same_key_in, is_partner, is_again, twice_among, twice_inside}
use Rattle.merging.specs.Calls.{HasTwice}
use Rattle.merging.proofs.Shown.{Shows, shows}
use Rattle.merging.proofs.Shown.Shows.{over, holds, single}

-- an element of a tag that holds items is none that holds none
shut-other : (tag n : ℕ) → opens tag ≡ false → opens n ≡ true → eqb n tag ≡ false
shut-other tag n h k = go (eqb n tag) refl
  where
    go : (b : Bool) → eqb n tag ≡ b → b ≡ false
    go true e = absurd (false≢true (sym h ∙ (ap opens (sym (eqb-true n tag e)) ∙ k)))
    go false e = refl

shut-bearer : (tag : ℕ) → opens tag ≡ false → eqb tag 0x29 ≡ false
unfolding opens known is_items kind_in rows attribute
shut-bearer tag h = go (eqb tag 0x29) refl
  where
    go : (b : Bool) → eqb tag 0x29 ≡ b → b ≡ false
    go true e = absurd (false≢true (sym h ∙ ap opens (eqb-true tag 0x29 e)))
    go false e = refl

-- an attribute of two elements of one tag
pub at-says : (tag a : ℕ) (T : Entries) (x : List ℕ) (U : Entries) (y : List ℕ) (d e i j : ℕ) (t u : Items) → attribute a ≡ true → Accepts tag d i x t → Accepts tag e j y u
    → same_at tag a T x U y ≡ same_attribute (attributes_in T tag t a) (attributes_in U tag u a)
unfolding SameAttribute
at-says tag a T x U y d e i j t u h p q = attribute-says tag a T x U y h d e i j t u p q

key-is : (tag : ℕ) → attribute (key_attribute tag) ≡ true
unfolding key_attribute attribute
key-is tag = go (eqb tag 0x1C || eqb tag 0x23)
  where
    go : (b : Bool) → attribute (cond b 0x81 0x80) ≡ true
    go true = refl
    go false = refl

id-is : attribute 0x80 ≡ true
unfolding attribute
id-is = refl

module _ (T U : Entries) where
  -- ---- bearers

  bearer-says : (x : List ℕ) (d i : ℕ) (t : Items) → Accepts 0x29 d i x t → {e : ℕ} {l : List (ℕ × List ℕ)} {n : Meaning} → Shows U e l n
      → any_child (is_bearer_of T x U) l ≡ has_bearer (attributes_in T 0x29 t 0x80) n
  unfolding any_child is_bearer_of has_bearer
  bearer-says x d i t p over = refl
  bearer-says x d i t p {e = e} (holds {later = l} {m = n} tag from body u o deep q inner more) = ap₂ ◌||◌ (go (eqb tag 0x29) refl) (bearer-says x d i t p more)
    where
      go : (b : Bool) → eqb tag 0x29 ≡ b → b && same_at 0x29 0x80 T x U body ≡ b && same_attribute (attributes_in T 0x29 t 0x80) (attributes_in U tag u 0x80)
      go false h = refl
      go true h =
          let k = eqb-true tag 0x29 h in
          at-says 0x29 0x80 T x U body d (e + 1) i from t u id-is p (subst (λ g. Accepts g (e + 1) from body u) k q)
          ∙ ap (λ g. same_attribute (attributes_in T 0x29 t 0x80) (attributes_in U g u 0x80)) (sym k)
  bearer-says x d i t p (single tag body o more) = rw (shut-bearer tag o) (bearer-says x d i t p more)

  foreign-says : {d : ℕ} {l : List (ℕ × List ℕ)} {m : Meaning} → Shows T d l m → {e : ℕ} {k : List (ℕ × List ℕ)} {n : Meaning} → Shows U e k n
      → any_child (is_foreign T U k) l ≡ not (bearers_in m n)
  unfolding any_child is_foreign bearers_in
  foreign-says over s = refl
  foreign-says {d = d} (holds {later = l} {m = after} tag from body t o deep p inner more) {k = k} {n = n} s = go (eqb tag 0x29) refl (foreign-says more s)
    where
      join : (a b : Bool) → not a || not b ≡ not (a && b)
      join true b = refl
      join false b = refl

      go : (b : Bool) → eqb tag 0x29 ≡ b → any_child (is_foreign T U k) l ≡ not (bearers_in after n)
          → (b && not (any_child (is_bearer_of T body U) k)) || any_child (is_foreign T U k) l ≡ not ((not b || has_bearer (attributes_in T tag t 0x80) n) && bearers_in after n)
      go false h ih = ih
      go true h ih =
          let q = eqb-true tag 0x29 h in
          let one = bearer-says body (d + 1) from t (subst (λ g. Accepts g (d + 1) from body t) q p) s in
          rw (one, ih) (join (has_bearer (attributes_in T 0x29 t 0x80) n) (bearers_in after n) ∙ ap (λ g. not (has_bearer (attributes_in T g t 0x80) n && bearers_in after n)) (sym q))
  foreign-says (single tag body o more) s = rw (shut-bearer tag o) (foreign-says more s)

module _ (T U : Entries) where
  bearers-say : (x y : List ℕ) {d : ℕ} {m : Meaning} → Shows T d (children_in x) m → {e : ℕ} {n : Meaning} → Shows U e (children_in y) n
      → same_bearers T x U y ≡ bearers_in m n && bearers_in n m
  unfolding same_bearers has_foreign
  bearers-say x y {m = m} p {n = n} q = ap₂ (λ a b. not a && not b) (foreign-says T U p q) (foreign-says U T q p) ∙ go (bearers_in m n) (bearers_in n m)
    where
      go : (a b : Bool) → not (not a) && not (not b) ≡ a && b
      go true true = refl
      go true false = refl
      go false b = refl

  service-says : (by : Services) (x y : List ℕ) {d : ℕ} {m : Meaning} → Shows T d (children_in x) m → {e : ℕ} {n : Meaning} → Shows U e (children_in y) n
      → same_service_in by T x U y ≡ same_service by m n
  unfolding same_service_in same_service
  service-says ByTag x y p q = refl
  service-says ByBearers x y p q = bearers-say x y p q

  -- ---- keys

  key-says : (by : Services) (tag d e i j : ℕ) (x y : List ℕ) (t u : Items) → Accepts tag d i x t → Shows T d (children_in x) (means T t) → Accepts tag e j y u → Shows U e (children_in y) (means U u)
      → same_key_in by tag T x U y ≡ same_key by tag (attributes_in T tag t) (attributes_in U tag u) (means T t) (means U u)
  unfolding same_key_in same_key
  key-says by tag d e i j x y t u p f q g =
      ap₂ (λ a b. cond (is_top tag) true (cond (eqb tag 0x28) a b)) (service-says by x y f g) (at-says tag (key_attribute tag) T x U y d e i j t u (key-is tag) p q)

  -- an element that can have a partner, and one other
  pub partner-says : (by : Services) (tag other d e i j : ℕ) (x y : List ℕ) (t u : Items) → merges tag ≡ true → Accepts tag d i x t → Shows T d (children_in x) (means T t) → Accepts other e j y u
      → Shows U e (children_in y) (means U u)
      → is_partner by tag T x U other y ≡ partners by tag other (attributes_in T tag t) (attributes_in U other u) (means T t) (means U u)
  unfolding is_partner partners
  partner-says by tag other d e i j x y t u m p f q g = rw m (go (eqb tag other) refl)
    where
      go : (b : Bool) → eqb tag other ≡ b → b && same_key_in by tag T x U y ≡ b && same_key by tag (attributes_in T tag t) (attributes_in U other u) (means T t) (means U u)
      go false h = refl
      go true h =
          let k = eqb-true tag other h in
          key-says by tag d e i j x y t u p f (subst (λ a. Accepts a e j y u) (sym k) q) g
          ∙ ap (λ a. same_key by tag (attributes_in T tag t) (attributes_in U a u) (means T t) (means U u)) k

  -- one that holds no items is no partner
  pub partner-shut : (by : Services) (tag other : ℕ) (x y : List ℕ) → merges tag ≡ true → opens other ≡ false → is_partner by tag T x U other y ≡ false
  unfolding is_partner
  partner-shut by tag other x y m o = rw (shut-other other tag o (merges-opens tag m))

  -- and all others
  pub partners-say : (by : Services) (tag d i : ℕ) (x : List ℕ) (t : Items) → merges tag ≡ true → Accepts tag d i x t → Shows T d (children_in x) (means T t) → {e : ℕ} {l : List (ℕ × List ℕ)} {n : Meaning}
      → Shows U e l n → any_child (is_partner by tag T x U) l ≡ has_partner by tag (attributes_in T tag t) (means T t) n
  unfolding any_child has_partner
  partners-say by tag d i x t m p f over = refl
  partners-say by tag d i x t m p f {e = e} (holds other from body u o deep q inner more) =
      ap₂ ◌||◌ (partner-says by tag other d (e + 1) i from x body t u m p f q inner) (partners-say by tag d i x t m p f more)
  partners-say by tag d i x t m p f (single other body o more) = rw (partner-shut by tag other x body m o) (partners-say by tag d i x t m p f more)

-- ---- 21

module _ (by : Services) (T : Entries) where
  again-says : (tag d i : ℕ) (x : List ℕ) (t : Items) → Accepts tag d i x t → Shows T d (children_in x) (means T t) → {e : ℕ} {l : List (ℕ × List ℕ)} {n : Meaning} → Shows T e l n
      → is_again by T tag x l ≡ has_partner by tag (attributes_in T tag t) (means T t) n
  unfolding is_again
  again-says tag d i x t p f {l = l} {n = n} s = go (merges tag) refl
    where
      go : (b : Bool) → merges tag ≡ b → b && any_child (is_partner by tag T x T) l ≡ has_partner by tag (attributes_in T tag t) (means T t) n
      go true h = partners-say T T by tag d i x t h p f s
      go false h = sym (cannot by tag (attributes_in T tag t) (means T t) n h)

  again-shut : (tag : ℕ) (x : List ℕ) (l : List (ℕ × List ℕ)) → opens tag ≡ false → is_again by T tag x l ≡ false
  unfolding is_again
  again-shut tag x l o = go (merges tag) refl
    where
      go : (b : Bool) → merges tag ≡ b → b && any_child (is_partner by tag T x T) l ≡ false
      go true h = absurd (false≢true (sym o ∙ merges-opens tag h))
      go false h = refl

  inside-shut : (levels tag : ℕ) (x : List ℕ) → opens tag ≡ false → twice_inside by T levels tag x ≡ false
  unfolding twice_inside
  inside-shut zero tag x o = refl
  inside-shut (suc n) tag x o = rw o

  -- as many levels as an accepted object can have below a depth (rule 7)
  twice-says : (levels : ℕ) {d : ℕ} {l : List (ℕ × List ℕ)} {m : Meaning} → d + levels ≡ 17 → Shows T d l m → twice_among by T (twice_inside by T levels) l ≡ twice by m
  unfolding twice_among twice_inside twice
  twice-says levels e over = refl
  twice-says zero {d = d} e (holds tag from body t o deep p inner more) = absurd (omega arith)
  twice-says (suc n) {d = d} e (holds {later = l} {m = m} tag from body t o deep p inner more) =
      rw (again-says tag (d + 1) from body t p inner more, o, twice-says n (omega arith) inner, twice-says (suc n) e more)
  twice-says levels e (single {later = l} tag body o more) = rw (again-shut tag body l o, inside-shut levels tag body o, twice-says levels e more)

-- ---- has_key_twice

module _ (by : Services) (object table index : List ℕ) (e : table ≡ table_body object) (x : Indexes (entries table) index) (r : Bool)
    (s : r ≡ twice_among by (entries_by index table) (twice_inside by (entries_by index table) 16) (children_in object)) where
  pub twice-told : HasTwice by object r
  unfolding HasTwice
  twice-told t h =
      s ∙ twice-says by (entries_by index table) 16 refl (shows (entries_by index table) 16 0 1 0 object t refl (whole object t h)) ∙ ap (twice by) (found-means object t table index h e x)
