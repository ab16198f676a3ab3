-- What is written of an accepted object takes what its meaning says: so many records, so long a store, so long a normal form. Each is a sum over its items, in which
-- an attribute counts the same wherever it stands, and the token table and a default nothing. What is listed and stored of the object is as much and its defaults
-- besides, each a record and an octet.
use mathlib.Core.Path.{◌≡◌, refl, sym, ap, ◌∙◌, subst}
use mathlib.Core.Bool.{Bool, true, false, cond, ◌||◌, false≢true}
use mathlib.Core.Option.{Option, none, some}
use mathlib.Core.List.{List, [], ◌++◌}
use Prim.Native.Nat.{ℕ, zero, suc, ◌+◌}
use native.Mathlib.Omega.{arith}
use lib.Dec.{eqb}
use lib.ListN.{length, length-append}
use borrow.Author.Tests.{eq-eqb, ne_eqb, eqb-true, ltb-true}
use Rattle.octets.specs.Numbers.{among, Octets}
use Rattle.octets.specs.Header.{length_field, framed}
use Rattle.text.specs.Tokens.{Entries}
use Rattle.values.specs.declared.Kind.{Kind}
use Rattle.values.specs.declared.Kind.TheVariants.{HoldsItems, HoldsText, HoldsPlain}
use Rattle.values.specs.Table.{known, attribute}
use Rattle.values.specs.Values.{Value, fits, meant, octets_of}
use Rattle.values.specs.Calls.{default_octets}
use Rattle.octets.proofs.Answers.{framed-length}
use Rattle.octets.proofs.Tests.{cond_same}
use Rattle.values.proofs.DefaultValues.{element-keeps, default-length-one}
use Rattle.values.proofs.Known.{ElementTag, items-tag, plain-tag, language-tag, known-anywhere, known-cdata, known-one, known-six, Stands, stands}
use Rattle.values.proofs.Known.Stands.{stands-items, stands_plain, stands-cdata, stands-table, stands-language}
use Rattle.format.specs.Tree.{Items, find, count}
use Rattle.format.specs.Tree.Items.{end, item}
use Rattle.format.specs.Judge.{is_items, is_value, outermost, judge}
use Rattle.format.specs.Judge.Judged.{accepted}
use Rattle.format.specs.Meaning.{Meaning, opens, value_in, counted, attributes_in, cdata_in, leaf_octets, means, table_of, meaning_of, maybe, rising, encode, normal_of}
use Rattle.format.specs.Meaning.Meaning.{nothing, element, leaf}
use Rattle.format.specs.Writer.{Spot, below, past, at_top, is_end}
use Rattle.format.specs.Loaded.{stored, store_in, store_of}
use Rattle.format.proofs.Means.{items-known, opens-items, opens-leaf, child-element, means-attribute, means-cdata, means-table, means-element, means-leaf, leaf-text, leaf-plain, attribute-shut, same-attributes, same-cdata, absent-attribute, find_first}
use Rattle.format.proofs.Force.{attribute-four, attribute-one, top-known}
use Rattle.format.proofs.Told.{Told, ItemTold, top, accepted-told}
use Rattle.format.proofs.Fine.{known_is}
use Rattle.format.proofs.Order.{told-order, seen_none, three-end, cdata-three}
use Rattle.format.proofs.Sums.{sum, sum-none, sum_more}
use Rattle.format.proofs.Defaults.{default-attribute, defaults_in, present-attribute}

-- a way to measure: an element that holds items by what these take, any other item by its octets in the store
pub record Measure : Type 0 where
  pub holder : ℕ → ℕ
  pub single : List ℕ → ℕ

unfoldable pub if_any : {A : Type 0} → (A → ℕ) → Option A → ℕ
if_any f none = 0
if_any f (some a) = f a

-- what the attributes of an element take
unfoldable pub of_set : Measure → (ℕ → Option Value) → ℕ
of_set c f = sum 128 0x80 (λ tag. if_any (λ v. c.single (octets_of v)) (f tag))

unfoldable pub of_meaning : Measure → Meaning → ℕ
of_meaning c nothing = 0
of_meaning c (element tag attributes children cdata after) = c.holder (of_set c attributes + (of_meaning c children + if_any c.single cdata)) + of_meaning c after
of_meaning c (leaf tag octets after) = c.single octets + of_meaning c after

-- what all items in an element take but the token table, as they are listed and stored
unfoldable listed : Measure → Entries → ℕ → Items → ℕ
listed c T parent end = 0
listed c T parent (item tag at body inside after) =
    cond (eqb tag 4) 0 (cond (opens tag) (c.holder (listed c T tag inside)) (c.single (stored T (known parent tag) body))) + listed c T parent after

-- and what those of them take that are written, which defaults aren't
unfoldable pub takes : Measure → Entries → ℕ → Items → ℕ
takes c T parent end = 0
takes c T parent (item tag at body inside after) =
    cond (eqb tag 4 || default_octets parent tag body) 0 (cond (opens tag) (c.holder (takes c T tag inside)) (c.single (stored T (known parent tag) body)))
    + takes c T parent after

module _ (c : Measure) (T : Entries) where
  -- the sum for the items in an element, by what they mean
  abbrev means_take : ℕ → Items → ℕ
  means_take p t = of_set c (attributes_in T p t) + (of_meaning c (means T t) + if_any c.single (cdata_in T t))

  abbrev Taken : ℕ → Items → Type 0
  Taken p t = takes c T p t ≡ means_take p t

  takes-single : (p tag at : ℕ) (body : List ℕ) (x u : Items) (k : Kind) → eqb tag 4 ≡ false → opens tag ≡ false → known p tag ≡ some k
      → takes c T p (item tag at body x u) ≡ cond (default_octets p tag body) 0 (c.single (octets_of (meant T k body))) + takes c T p u
  unfolding takes stored
  takes-single p tag at body x u k f o e = rw (f, o, e)

  -- an item that holds none and is no attribute
  takes-other : (p tag at : ℕ) (body : List ℕ) (x u : Items) (k : Kind) → attribute tag ≡ false → eqb tag 4 ≡ false → opens tag ≡ false → known p tag ≡ some k
      → takes c T p (item tag at body x u) ≡ c.single (octets_of (meant T k body)) + takes c T p u
  takes-other p tag at body x u k a f o e = takes-single p tag at body x u k f o e ∙ rw (element-keeps p tag body a)

  taken-attribute : (s : Spot) (tag at : ℕ) (body : List ℕ) (x u : Items) (k : Kind) → ItemTold T s tag body x → attribute tag ≡ true → known s.parent tag ≡ some k → Told T (past s tag) u
      → Taken s.parent u → Taken s.parent (item tag at body x u)
  unfolding of_set if_any attributes_in counted find value_in past among attribute is_value
  taken-attribute s tag at body x u k i a e h ih =
      let p = s.parent in
      let one = takes-single p tag at body x u k (attribute-four tag a) (attribute-shut tag a) e in
      let gone : find tag u ≡ none = seen_none u (past s tag) tag a (rw (eq-eqb tag tag refl)) (told-order T u (past s tag) h) in
      let fit : fits k body ≡ true = rw e at i.kind.value in
      let now : attributes_in T p (item tag at body x u) tag ≡ cond (default_octets p tag body) none (some (meant T k body)) = present-attribute T p (item tag at body x u) tag k body a e (find_first tag at body x u) fit in
      let later : attributes_in T p u tag ≡ none = absent-attribute T p u tag (λ _. gone) in
      let own = cond (default_octets p tag body) 0 (c.single (octets_of (meant T k body))) in
      let more =
      sum_more 128 0x80 tag own (λ b. if_any (λ v. c.single (octets_of v)) (attributes_in T p (item tag at body x u) b))
      (λ b. if_any (λ v. c.single (octets_of v)) (attributes_in T p u b)) (rw (now, later) (if-counted (default_octets p tag body) (meant T k body))) (λ b d. rw (ne_eqb b tag d))
      (omega (arith, ltb-true 0x7F tag a)) (omega (arith, i.octet)) in
      let m : means T (item tag at body x u) ≡ means T u = means-attribute T tag at body x u a in
      let l : cdata_in T (item tag at body x u) ≡ cdata_in T u = same-cdata T tag at body x u (attribute-one tag a) in
      rw (m, l) (omega arith)
    where
      if-counted : (b : Bool) (v : Value) → if_any (λ v. c.single (octets_of v)) (cond b none (some v)) ≡ cond b 0 (c.single (octets_of v)) + if_any (λ v. c.single (octets_of v)) none
      if-counted true v = omega arith
      if-counted false v = omega arith

  taken-end : (p : ℕ) → Taken p end
  unfolding takes of_meaning of_set if_any means cdata_in find attributes_in counted value_in
  taken-end p =
      let none-set = sum-none 128 0x80 (λ b. if_any (λ v. c.single (octets_of v)) (attributes_in T p end b)) (λ b. ap (if_any (λ v. c.single (octets_of v))) (cond_same (attribute b) none)) in
      omega arith

  taken-cdata : (s : Spot) (at : ℕ) (body : List ℕ) (x u : Items) → Told T (past s 1) u → Taken s.parent (item 1 at body x u)
  unfolding takes of_meaning if_any means cdata_in find meant octets_of attribute is_items
  taken-cdata s at body x u h =
      let p = s.parent in
      let one = takes-other p 1 at body x end HoldsText refl refl (opens-leaf 1 HoldsText known-one refl) (known-cdata p) in
      let a : attributes_in T p (item 1 at body x end) ≡ attributes_in T p end = same-attributes T p 1 at body x end refl in
      let m : means T (item 1 at body x end) ≡ means T end = means-cdata T at body x end in
      let rest = taken-end p in
      subst (λ v. Taken p (item 1 at body x v)) (three-end u (past s 1) (cdata-three s) (told-order T u (past s 1) h)) (rw (a, m) (omega arith))

  taken-table : (p at : ℕ) (body : List ℕ) (x u : Items) → Taken p u → Taken p (item 4 at body x u)
  unfolding takes attribute
  taken-table p at body x u ih =
      let a : attributes_in T p (item 4 at body x u) ≡ attributes_in T p u = same-attributes T p 4 at body x u refl in
      let m : means T (item 4 at body x u) ≡ means T u = means-table T at body x u in
      let l : cdata_in T (item 4 at body x u) ≡ cdata_in T u = same-cdata T 4 at body x u refl in
      rw (a, m, l) (omega arith)

  taken-element : (p tag at : ℕ) (body : List ℕ) (x u : Items) → known 0 tag ≡ some HoldsItems → Taken tag x → Taken p u → Taken p (item tag at body x u)
  unfolding takes of_meaning
  taken-element p tag at body x u e inside later =
      let g = items-tag tag e in
      let a : attributes_in T p (item tag at body x u) ≡ attributes_in T p u = same-attributes T p tag at body x u g.not_attribute in
      let l : cdata_in T (item tag at body x u) ≡ cdata_in T u = same-cdata T tag at body x u g.not_cdata in
      rw (a, l, means-element T tag at body x u e, g.not_table, element-keeps p tag body g.not_attribute, opens-items tag e, inside) (omega arith)

  taken-leaf : (p tag at : ℕ) (body : List ℕ) (x u : Items) (k : Kind) → ElementTag tag → known 0 tag ≡ some k → is_items (some k) ≡ false → leaf_octets T tag body ≡ octets_of (meant T k body)
      → Taken p u → Taken p (item tag at body x u)
  unfolding of_meaning
  taken-leaf p tag at body x u k g e l o later =
      let one = takes-other p tag at body x u k g.not_attribute g.not_table (opens-leaf tag k e l) (known-anywhere p tag g.not_attribute ∙ e) in
      let a : attributes_in T p (item tag at body x u) ≡ attributes_in T p u = same-attributes T p tag at body x u g.not_attribute in
      let d : cdata_in T (item tag at body x u) ≡ cdata_in T u = same-cdata T tag at body x u g.not_cdata in
      rw (a, d, means-leaf T tag at body x u k g e l, o) (omega arith)

  -- an item that is no attribute, by its kind
  taken-known : (s : Spot) (tag at : ℕ) (body : List ℕ) (x u : Items) {k : Kind} → Stands tag k → Told T (past s tag) u → Taken tag x → Taken s.parent u
      → Taken s.parent (item tag at body x u)
  unfolding is_items meant octets_of
  taken-known s tag at body x u (stands-items e) h inside later = taken-element s.parent tag at body x u e inside later
  taken-known s tag at body x u (stands_plain e) h inside later = taken-leaf s.parent tag at body x u HoldsPlain (plain-tag tag e) e refl (leaf-plain T tag body e) later
  taken-known s tag at body x u stands-table h inside later = taken-table s.parent at body x u later
  taken-known s tag at body x u stands-cdata h inside later = taken-cdata s at body x u h
  taken-known s tag at body x u stands-language h inside later = taken-leaf s.parent 6 at body x u HoldsText language-tag known-six refl (leaf-text T 6 body known-six) later

  taken_item : (s : Spot) (tag at : ℕ) (body : List ℕ) (x u : Items) → ItemTold T s tag body x → Told T (past s tag) u → Taken tag x → Taken s.parent u → Taken s.parent (item tag at body x u)
  taken_item s tag at body x u i h inside later = go (attribute tag) refl (known_is (known s.parent tag) i.kind.is_one)
    where
      go : (a : Bool) → attribute tag ≡ a → (k : Kind) × (known s.parent tag ≡ some k) → Taken s.parent (item tag at body x u)
      go true a k = taken-attribute s tag at body x u k.0 i a k.1 h later
      go false a k = taken-known s tag at body x u (stands tag k.0 (sym (known-anywhere s.parent tag a) ∙ k.1)) h inside later

  taken-told : (t : Items) (s : Spot) → Told T s t → Taken s.parent t
  unfolding below past
  taken-told end s h = taken-end s.parent
  taken-told (item tag at body x u) s h = taken_item s tag at body x u h.0 h.2 (taken-told x (below s tag) h.1) (taken-told u (past s tag) h.2)

-- a whole object is one element, so its attributes and CDATA are inside it
takes-top : (c : Measure) (T : Entries) (tag at : ℕ) (body : List ℕ) (x : Items) → known 0 tag ≡ some HoldsItems → Taken c T tag x → takes c T 0 (item tag at body x end) ≡ of_meaning c (means T (item tag at body x end))
unfolding takes of_meaning means
takes-top c T tag at body x e inside =
    rw ((items-tag tag e).not_table, element-keeps 0 tag body (items-tag tag e).not_attribute, opens-items tag e, inside, child-element tag (items-tag tag e))

-- how many records
abbrev pub in_records : Measure
in_records = record { holder = suc; single = λ o. 1 }

-- how long a store
abbrev pub in_store : Measure
in_store = record { holder = λ n. n; single = length }

-- how long a normal form: each item has its header besides
abbrev pub in_form : Measure
in_form = record { holder = λ n. suc (length (length_field n)) + n; single = λ o. suc (length (length_field (length o))) + length o }

maybe-length : {A : Type 0} (tag : ℕ) (f : A → List ℕ) (o : Option A) → length (maybe (λ a. framed tag (f a)) o) ≡ if_any (λ a. in_form.single (f a)) o
unfolding maybe if_any
maybe-length tag f none = refl
maybe-length tag f (some a) = framed-length tag (f a)

-- attributes by rising tag: a sum over the tags
pub rising-length : (n start : ℕ) (f : ℕ → Option Value) → length (rising n start f) ≡ sum n start (λ tag. if_any (λ v. in_form.single (octets_of v)) (f tag))
unfolding rising sum
rising-length zero start f = refl
rising-length (suc n) start f = rw (length-append, maybe-length start octets_of (f start), rising-length n (suc start) f)

encode-length : (m : Meaning) → length (encode m) ≡ of_meaning in_form m
unfolding encode of_meaning of_set
encode-length nothing = refl
encode-length (element tag f kids cdata after) =
    let body = rising 128 0x80 f ++ (encode kids ++ maybe (framed 1) cdata) in
    let long : length body ≡ of_set in_form f + (of_meaning in_form kids + if_any in_form.single cdata) =
    rw (length-append, length-append, rising-length 128 0x80 f, encode-length kids, maybe-length 1 (λ o. o) cdata) in
    rw (length-append, framed-length, long, encode-length after)
encode-length (leaf tag o after) = rw (length-append, framed-length, encode-length after)

records-listed : (T : Entries) (t : Items) (s : Spot) → Told T s t → count t ≡ listed in_records T s.parent t
unfolding count listed below past is_end
records-listed T end s h = refl
records-listed T (item tag at body x u) s h = go (eqb tag 4) (opens tag) x h.0.holder (records-listed T x (below s tag) h.1) (records-listed T u (past s tag) h.2)
  where
    go : (b o : Bool) (y : Items) → o || is_end y ≡ true → count y ≡ listed in_records T tag y → count u ≡ listed in_records T s.parent u
        → cond b 0 (1 + count y) + count u ≡ cond b 0 (cond o (suc (listed in_records T tag y)) 1) + listed in_records T s.parent u
    go true o y q inside later = omega arith
    go false true y q inside later = omega arith
    go false false end q inside later = omega arith
    go false false (item tag' at' body' x' u') q inside later = absurd (false≢true q)

store-listed : (T : Entries) (p : ℕ) (t : Items) → length (store_in T p t) ≡ listed in_store T p t
unfolding store_in listed
store-listed T p end = refl
store-listed T p (item tag at body x u) = rw length-append (go (eqb tag 4) (opens tag) (store-listed T tag x) (store-listed T p u))
  where
    go : (b o : Bool) → length (store_in T tag x) ≡ listed in_store T tag x → length (store_in T p u) ≡ listed in_store T p u
        → length (cond b [] (cond o (store_in T tag x) (stored T (known p tag) body))) + length (store_in T p u)
        ≡ cond b 0 (cond o (listed in_store T tag x) (length (stored T (known p tag) body))) + listed in_store T p u
    go true o inside later = omega arith
    go false true inside later = omega arith
    go false false inside later = omega arith

-- what is listed is what is written and the defaults, in a measure that adds up and of which an octet takes one
module _ (c : Measure) (T : Entries) (adds : (n m : ℕ) → c.holder (n + m) ≡ c.holder n + m) (ones : (o : List ℕ) → length o ≡ 1 → c.single o ≡ 1) where
  abbrev More : ℕ → Items → Type 0
  More p t = listed c T p t ≡ takes c T p t + defaults_in p t

  more-shut : (s : Spot) (tag at : ℕ) (body : List ℕ) (u : Items) → ItemTold T s tag body end → opens tag ≡ false → More s.parent u → More s.parent (item tag at body end u)
  unfolding listed takes defaults_in stored attribute
  more-shut s tag at body u i o later = rw o (go (eqb tag 4) refl (default_octets s.parent tag body) refl (known_is (known s.parent tag) i.kind.is_one))
    where
      own : ℕ
      own = c.single (stored T (known s.parent tag) body)

      go : (b : Bool) → eqb tag 4 ≡ b → (d : Bool) → default_octets s.parent tag body ≡ d → (k : Kind) × (known s.parent tag ≡ some k)
          → cond b 0 own + listed c T s.parent u ≡ (cond (b || d) 0 own + takes c T s.parent u) + (cond d 1 0 + (0 + defaults_in s.parent u))
      go false q false e k = omega arith
      go false q true e k =
          let one : own ≡ 1 = ap (λ z. c.single (stored T z body)) k.1 ∙ (ones (octets_of (meant T k.0 body)) (default-length-one T s.parent tag k.0 body k.1 e)) in
          omega arith
      go true q false e k = omega arith
      go true q true e k = absurd (false≢true (sym (ap attribute (eqb-true tag 4 q)) ∙ default-attribute s.parent tag body e))

  more-open : (p tag at : ℕ) (body : List ℕ) (x u : Items) → known 0 tag ≡ some HoldsItems → More tag x → More p u → More p (item tag at body x u)
  unfolding listed takes defaults_in
  more-open p tag at body x u e inside later =
      let g = items-tag tag e in
      rw (g.not_table, element-keeps p tag body g.not_attribute, opens-items tag e, inside) (omega (arith, adds (takes c T tag x) (defaults_in tag x)))

  listed_more : (t : Items) (s : Spot) → Told T s t → More s.parent t
  unfolding listed takes defaults_in below past is_end opens
  listed_more end s h = refl
  listed_more (item tag at body x u) s h = go (opens tag) refl x h.0 (listed_more x (below s tag) h.1) (listed_more u (past s tag) h.2)
    where
      go : (o : Bool) → opens tag ≡ o → (y : Items) → ItemTold T s tag body y → More tag y → More s.parent u → More s.parent (item tag at body y u)
      go true o y i inside later = more-open s.parent tag at body y u (items-known (known 0 tag) o) inside later
      go false o end i inside later = more-shut s tag at body u i o later
      go false o (item tag' at' body' x' u') i inside later = absurd (false≢true (rw o at i.holder))

-- of an accepted object
module _ (o : List ℕ) (t : Items) (os : Octets o) (h : judge o ≡ accepted t) where
  pub takes-means : (c : Measure) → takes c (table_of t) 0 t ≡ of_meaning c (meaning_of t)
  unfolding below at_top outermost
  takes-means c =
      let w = top o t os h in
      let told : Told (table_of t) at_top (item w.tag w.from w.body w.inside end) = subst (Told (table_of t) at_top) w.is (accepted-told o t os h) in
      subst (λ x. takes c (table_of t) 0 x ≡ of_meaning c (means (table_of t) x)) (sym w.is)
      (takes-top c (table_of t) w.tag w.from w.body w.inside (top-known w.tag w.held.allow) (taken-told c (table_of t) w.inside (below at_top w.tag) told.1))

  pub records-means : count t ≡ of_meaning in_records (meaning_of t) + defaults_in 0 t
  unfolding at_top
  records-means =
      let told = accepted-told o t os h in
      records-listed (table_of t) t at_top told ∙ listed_more in_records (table_of t) (λ n m. omega arith) (λ o e. refl) t at_top told ∙ ap (λ n. n + defaults_in 0 t) (takes-means in_records)

  pub store-means : length (store_of t) ≡ of_meaning in_store (meaning_of t) + defaults_in 0 t
  unfolding at_top
  store-means =
      store-listed (table_of t) 0 t ∙ listed_more in_store (table_of t) (λ n m. refl) (λ o e. e) t at_top (accepted-told o t os h) ∙ ap (λ n. n + defaults_in 0 t) (takes-means in_store)

  pub normal-takes : length (normal_of t) ≡ takes in_form (table_of t) 0 t
  normal-takes = encode-length (meaning_of t) ∙ sym (takes-means in_form)
