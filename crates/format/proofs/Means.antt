-- What an item adds to a meaning, by what its tag is.
use mathlib.Core.Path.{◌≡◌, refl, sym, ap, ◌∙◌, fun_ext}
use mathlib.Core.Bool.{Bool, true, false, cond, false≢true}
use mathlib.Core.Option.{Option, none, some, map}
use mathlib.Core.List.{List, []}
use Prim.Native.Nat.{ℕ}
use lib.Dec.{eqb}
use borrow.Author.Tests.{eqb-true, eqb-false, eq-eqb, ne_eqb}
use Rattle.text.specs.Tokens.{Entries, expanded}
use Rattle.values.specs.declared.Kind.{Kind}
use Rattle.values.specs.declared.Kind.TheVariants.{HoldsItems, HoldsTokens, HoldsText, HoldsPlain, HoldsTime, HoldsBearer, HoldsNumber}
use Rattle.values.specs.Table.{known, attribute}
use Rattle.values.specs.Values.{meant, is_default}
use Rattle.format.specs.Tree.{Items, find}
use Rattle.format.specs.Tree.Items.{item}
use Rattle.format.specs.Judge.{is_items, is_text}
use Rattle.format.specs.Meaning.{opens, is_child, value_in, counted, attributes_in, cdata_in, leaf_octets, means}
use Rattle.format.specs.Meaning.Meaning.{element, leaf}
use Rattle.text.proofs.Words.{expanded-empty}
use Rattle.values.proofs.Values.{value_kind}
use Rattle.values.proofs.Known.{ElementTag, items-tag, known-anywhere, attribute-kind, not-attribute}

pub items-known : (k : Option Kind) → is_items k ≡ true → k ≡ some HoldsItems
unfolding is_items
items-known none h = absurd (false≢true h)
items-known (some HoldsItems) h = refl
items-known (some HoldsTokens) h = absurd (false≢true h)
items-known (some HoldsText) h = absurd (false≢true h)
items-known (some HoldsPlain) h = absurd (false≢true h)
items-known (some HoldsTime) h = absurd (false≢true h)
items-known (some HoldsBearer) h = absurd (false≢true h)
items-known (some (HoldsNumber n)) h = absurd (false≢true h)

pub text-known : (k : Option Kind) → is_text k ≡ true → k ≡ some HoldsText
unfolding is_text
text-known none h = absurd (false≢true h)
text-known (some HoldsItems) h = absurd (false≢true h)
text-known (some HoldsTokens) h = absurd (false≢true h)
text-known (some HoldsText) h = refl
text-known (some HoldsPlain) h = absurd (false≢true h)
text-known (some HoldsTime) h = absurd (false≢true h)
text-known (some HoldsBearer) h = absurd (false≢true h)
text-known (some (HoldsNumber n)) h = absurd (false≢true h)

pub opens-items : (tag : ℕ) → known 0 tag ≡ some HoldsItems → opens tag ≡ true
unfolding opens is_items
opens-items tag e = rw e

pub opens-leaf : (tag : ℕ) (k : Kind) → known 0 tag ≡ some k → is_items (some k) ≡ false → opens tag ≡ false
unfolding opens
opens-leaf tag k e l = rw (e, l)

pub value-no-items : (k : Kind) → value_kind k ≡ true → is_items (some k) ≡ false
unfolding is_items
value-no-items HoldsItems h = absurd (false≢true h)
value-no-items HoldsTokens h = refl
value-no-items HoldsText h = refl
value-no-items HoldsPlain h = refl
value-no-items HoldsTime h = refl
value-no-items HoldsBearer h = refl
value-no-items (HoldsNumber n) h = refl

attribute-no-items : (p tag : ℕ) → attribute tag ≡ true → is_items (known p tag) ≡ false
unfolding is_items
attribute-no-items p tag a = go (known p tag) refl
  where
    go : (o : Option Kind) → known p tag ≡ o → is_items o ≡ false
    go none e = refl
    go (some k) e = value-no-items k (attribute-kind p tag k a e)

pub attribute-shut : (tag : ℕ) → attribute tag ≡ true → opens tag ≡ false
unfolding opens
attribute-shut tag a = attribute-no-items 0 tag a

-- what holds items, holds them wherever it stands
pub items-opens : (p tag : ℕ) → is_items (known p tag) ≡ opens tag
unfolding opens
items-opens p tag = go (attribute tag) refl
  where
    go : (b : Bool) → attribute tag ≡ b → is_items (known p tag) ≡ is_items (known 0 tag)
    go true a = attribute-no-items p tag a ∙ sym (attribute-no-items 0 tag a)
    go false a = ap is_items (known-anywhere p tag a)

pub child-element : (tag : ℕ) → ElementTag tag → is_child tag ≡ true
unfolding is_child
child-element tag t = rw (t.not_attribute, t.not_cdata, t.not_table)

pub attribute-no-child : (tag : ℕ) → attribute tag ≡ true → is_child tag ≡ false
unfolding is_child
attribute-no-child tag h = rw h

pub means-attribute : (table : Entries) (tag at : ℕ) (body : List ℕ) (t u : Items) → attribute tag ≡ true → means table (item tag at body t u) ≡ means table u
unfolding means
means-attribute table tag at body t u h = rw (attribute-no-child tag h)

pub means-cdata : (table : Entries) (at : ℕ) (body : List ℕ) (t u : Items) → means table (item 1 at body t u) ≡ means table u
unfolding means is_child attribute
means-cdata table at body t u = refl

pub means-table : (table : Entries) (at : ℕ) (body : List ℕ) (t u : Items) → means table (item 4 at body t u) ≡ means table u
unfolding means is_child attribute
means-table table at body t u = refl

pub means-element : (table : Entries) (tag at : ℕ) (body : List ℕ) (t u : Items) → known 0 tag ≡ some HoldsItems
    → means table (item tag at body t u) ≡ element tag (attributes_in table tag t) (means table t) (cdata_in table t) (means table u)
unfolding means
means-element table tag at body t u e = rw (child-element tag (items-tag tag e), opens-items tag e)

pub means-leaf : (table : Entries) (tag at : ℕ) (body : List ℕ) (t u : Items) (k : Kind) → ElementTag tag → known 0 tag ≡ some k → is_items (some k) ≡ false
    → means table (item tag at body t u) ≡ leaf tag (leaf_octets table tag body) (means table u)
unfolding means
means-leaf table tag at body t u k g e l = rw (child-element tag g, opens-leaf tag k e l)

pub leaf-text : (table : Entries) (tag : ℕ) (body : List ℕ) → known 0 tag ≡ some HoldsText → leaf_octets table tag body ≡ expanded table body
unfolding leaf_octets is_text
leaf-text table tag body e = rw e

pub leaf-plain : (table : Entries) (tag : ℕ) (body : List ℕ) → known 0 tag ≡ some HoldsPlain → leaf_octets table tag body ≡ body
unfolding leaf_octets is_text
leaf-plain table tag body e = rw e

-- without a table texts are themselves
pub cdata-itself : (o : Option (List ℕ)) → map (expanded []) o ≡ o
cdata-itself none = refl
cdata-itself (some o) = ap some (expanded-empty o)

-- an attribute with its default, which no later item of the element repeats, might as well not be there (change request 2026-05)
pub default-nothing : (table : Entries) (parent tag at : ℕ) (body : List ℕ) (t u : Items) (k : Kind) → known parent tag ≡ some k → is_default parent tag (meant table k body) ≡ true
    → find tag u ≡ none → attributes_in table parent (item tag at body t u) ≡ attributes_in table parent u
unfolding attributes_in counted value_in find
default-nothing table parent tag at body t u k e d n = fun_ext (λ b. go b (eqb b tag) refl)
  where
    go : (b : ℕ) (s : Bool) → eqb b tag ≡ s
        → cond (attribute b) (counted parent b (value_in table (cond s (some body) (find b u)) (known parent b))) none ≡ cond (attribute b) (counted parent b (value_in table (find b u) (known parent b))) none
    go b false q = refl
    go b true q = rw (eqb-true b tag q, e, d, n)

-- ---- what an item leaves as it is: an attribute of another tag; all attributes, if it is none; the CDATA, if it isn't that

pub other-attribute : (table : Entries) (p tag at : ℕ) (body : List ℕ) (t u : Items) (a : ℕ) → (a ≡ tag → ⊥) → attributes_in table p (item tag at body t u) a ≡ attributes_in table p u a
unfolding attributes_in find
other-attribute table p tag at body t u a d = rw (ne_eqb a tag d)

pub same-attributes : (table : Entries) (p tag at : ℕ) (body : List ℕ) (t u : Items) → attribute tag ≡ false → attributes_in table p (item tag at body t u) ≡ attributes_in table p u
unfolding attributes_in find
same-attributes table p tag at body t u n = fun_ext (λ a. go a (attribute a) refl)
  where
    go : (a : ℕ) (b : Bool) → attribute a ≡ b
        → cond b (counted p a (value_in table (cond (eqb a tag) (some body) (find a u)) (known p a))) none ≡ cond b (counted p a (value_in table (find a u) (known p a))) none
    go a false q = refl
    go a true q = rw (not-attribute a tag q n)

pub same-cdata : (table : Entries) (tag at : ℕ) (body : List ℕ) (t u : Items) → eqb tag 1 ≡ false → cdata_in table (item tag at body t u) ≡ cdata_in table u
unfolding cdata_in find
same-cdata table tag at body t u o = rw (ne_eqb 1 tag (λ e. eqb-false tag 1 o (sym e)))

-- ---- when an attribute isn't there: no item has its tag, or no kind of it is known

pub absent-attribute : (table : Entries) (p : ℕ) (t : Items) (a : ℕ) → (attribute a ≡ true → find a t ≡ none) → attributes_in table p t a ≡ none
unfolding attributes_in value_in counted
absent-attribute table p t a h = go (attribute a) refl
  where
    go : (x : Bool) → attribute a ≡ x → cond x (counted p a (value_in table (find a t) (known p a))) none ≡ none
    go true e = rw (h e)
    go false e = refl

pub unknown-attribute : (table : Entries) (p : ℕ) (t : Items) (a : ℕ) → known p a ≡ none → attributes_in table p t a ≡ none
unfolding attributes_in value_in counted
unknown-attribute table p t a h = rw h (go (attribute a) (find a t))
  where
    go : (b : Bool) (o : Option (List ℕ)) → cond b (counted p a (value_in table o none)) none ≡ none
    go true none = refl
    go true (some x) = refl
    go false o = refl

-- the first item is found by its tag
pub find_first : (tag at : ℕ) (body : List ℕ) (t u : Items) → find tag (item tag at body t u) ≡ some body
unfolding find
find_first tag at body t u = rw (eq-eqb tag tag refl)
