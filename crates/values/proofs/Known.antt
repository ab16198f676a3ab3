-- Facts of the table: a test that holds of each row holds of what is known.
use mathlib.Core.Path.{◌≡◌, refl, sym, ap, ◌∙◌, subst}
use mathlib.Core.Bool.{Bool, true, false, cond, not, ◌&&◌, ◌||◌, false≢true}
use mathlib.Core.Option.{Option, none, some, some-injective, none-ne-some, some-ne-none}
use mathlib.Core.List.{List, [], ◌∷◌}
use Prim.Native.Nat.{ℕ, ◌≤◌}
use native.Mathlib.Omega.{arith}
use lib.Dec.{eqb, ltb}
use borrow.Author.Tests.{eqb-true, ne_eqb, ltb-true, lt-ltb, not-true}
use Rattle.values.specs.declared.Kind.{Kind}
use Rattle.values.specs.declared.Kind.TheVariants.{HoldsItems, HoldsTokens, HoldsText, HoldsPlain, HoldsTime, HoldsBearer, HoldsNumber}
use Rattle.values.specs.Table.{rows, kind_in, known, attribute}
use Rattle.octets.proofs.Tests.{and_left, and_right, or_elim, never}
use Rattle.values.proofs.Values.{value_kind}

abbrev pub every : (ℕ → ℕ → Kind → Bool) → List (ℕ × ℕ × Kind) → Bool
every P [] = true
every P (r ∷ rs) = P r.0 r.1 r.2 && every P rs

pub row-holds : (P : ℕ → ℕ → Kind → Bool) (e tag : ℕ) (k : Kind) (rs : List (ℕ × ℕ × Kind)) → every P rs ≡ true → kind_in e tag rs ≡ some k → P e tag k ≡ true
unfolding kind_in
row-holds P e tag k [] q h = absurd (none-ne-some k h)
row-holds P e tag k (r ∷ rs) q h =
    go (row-holds P e tag k rs (and_right (P r.0 r.1 r.2) (every P rs) q)) (eqb e r.0) (eqb tag r.1) refl refl (and_left (P r.0 r.1 r.2) (every P rs) q) h
  where
    go : (kind_in e tag rs ≡ some k → P e tag k ≡ true) → (y z : Bool) → eqb e r.0 ≡ y → eqb tag r.1 ≡ z → P r.0 r.1 r.2 ≡ true
        → cond (y && z) (some r.2) (kind_in e tag rs) ≡ some k → P e tag k ≡ true
    go ih true true y z p g = rw (eqb-true e r.0 y, eqb-true tag r.1 z) (subst (λ l. P r.0 r.1 l ≡ true) (some-injective r.2 k g) p)
    go ih true false y z p g = ih g
    go ih false d y z p g = ih g

-- the kinds under 0, by tag: only 0x04 holds tokens, only CDATA and 0x06 hold text, none holds a value, and none is an attribute's
abbrev pub element_row : ℕ → Kind → Bool
element_row tag HoldsItems = true
element_row tag HoldsPlain = true
element_row tag HoldsTokens = eqb tag 4
element_row tag HoldsText = eqb tag 1 || eqb tag 6
element_row tag HoldsTime = false
element_row tag HoldsBearer = false
element_row tag (HoldsNumber n) = false

under-zero : (P : ℕ → Kind → Bool) (tag : ℕ) (k : Kind) → every (λ e t l. not (eqb 0 e) || P t l) rows ≡ true → known 0 tag ≡ some k → P tag k ≡ true
unfolding known
under-zero P tag k q h = row-holds (λ e t l. not (eqb 0 e) || P t l) 0 tag k rows q (sym (ap (λ n. kind_in n tag rows) (same (attribute tag))) ∙ h)
  where
    same : (b : Bool) → ◌≡◌ {A = ℕ} (cond b 0 0) 0
    same true = refl
    same false = refl

pub element-kind : (tag : ℕ) (k : Kind) → known 0 tag ≡ some k → element_row tag k ≡ true
unfolding rows
element-kind tag k h = under-zero element_row tag k refl h

pub no-attribute : (tag : ℕ) (k : Kind) → known 0 tag ≡ some k → attribute tag ≡ false
unfolding rows attribute
no-attribute tag k h = not-true (ltb 0x7F tag) (under-zero (λ t l. not (ltb 0x7F t)) tag k refl h)

pub attribute-kind : (p tag : ℕ) (k : Kind) → attribute tag ≡ true → known p tag ≡ some k → value_kind k ≡ true
unfolding known rows attribute
attribute-kind p tag k a h =
    let g : not (ltb 0x7F tag) || value_kind k ≡ true = row-holds (λ e t l. not (ltb 0x7F t) || value_kind l) p tag k rows refl (rw a at h) in
    rw a at g

pub known-one : known 0 1 ≡ some HoldsText
unfolding known attribute kind_in rows
known-one = refl

pub known-four : known 0 4 ≡ some HoldsTokens
unfolding known attribute kind_in rows
known-four = refl

pub known-six : known 0 6 ≡ some HoldsText
unfolding known attribute kind_in rows
known-six = refl

pub known_two : known 0 2 ≡ some HoldsItems
unfolding known attribute kind_in rows
known_two = refl

pub known-three : known 0 3 ≡ some HoldsItems
unfolding known attribute kind_in rows
known-three = refl

-- no known item has the tag 0
pub not-zero : (tag : ℕ) (k : Kind) → known 0 tag ≡ some k → eqb tag 0 ≡ false
unfolding known attribute kind_in rows
not-zero tag k e = ne_eqb tag 0 (λ q. none-ne-some k (ap (known 0) (sym q) ∙ e))

-- what is no attribute is known in any element
pub known-anywhere : (parent tag : ℕ) → attribute tag ≡ false → known parent tag ≡ known 0 tag
unfolding known
known-anywhere parent tag e = rw e

pub known-cdata : (parent : ℕ) → known parent 1 ≡ some HoldsText
unfolding attribute
known-cdata parent = known-anywhere parent 1 refl ∙ known-one

pub unknown-four : (p tag : ℕ) → known p tag ≡ none → eqb tag 4 ≡ false
unfolding attribute
unknown-four p tag e = ne_eqb tag 4 (λ q. some-ne-none HoldsTokens (sym (known-anywhere p 4 refl ∙ known-four) ∙ (ap (known p) (sym q) ∙ e)))

pub items-no-attribute : (p tag : ℕ) → known p tag ≡ some HoldsItems → attribute tag ≡ false
items-no-attribute p tag e = go (attribute tag) refl
  where
    go : (b : Bool) → attribute tag ≡ b → b ≡ false
    go false a = refl
    go true a = absurd (false≢true (attribute-kind p tag HoldsItems a e))

-- attributes have the tags from 0x80 on, and nothing else has the tag of one
pub attribute-high : (tag : ℕ) → attribute tag ≡ true → 0x80 ≤ tag
unfolding attribute
attribute-high tag h = omega (arith, ltb-true 0x7F tag h)

pub high-attribute : (tag : ℕ) → 0x80 ≤ tag → attribute tag ≡ true
unfolding attribute
high-attribute tag h = lt-ltb 0x7F tag (omega arith)

pub not-attribute : (a tag : ℕ) → attribute a ≡ true → attribute tag ≡ false → eqb a tag ≡ false
not-attribute a tag q e = ne_eqb a tag (λ z. false≢true (sym e ∙ (ap attribute (sym z) ∙ q)))

-- what the tag of an element other than 0x04 is not
pub record ElementTag (tag : ℕ) : Type 0 where
  pub not_attribute : attribute tag ≡ false
  pub not_cdata : eqb tag 1 ≡ false
  pub not_table : eqb tag 4 ≡ false

-- a tag that is known under 0 with one kind is none that is known with another
differs : (tag other : ℕ) (k l : Kind) → known 0 tag ≡ some k → known 0 other ≡ some l → (◌≡◌ {A = Option Kind} (some k) (some l) → ⊥) → eqb tag other ≡ false
differs tag other k l e f d = ne_eqb tag other (λ q. d (sym e ∙ (ap (known 0) q ∙ f)))

element-tag : (tag : ℕ) (k : Kind) → known 0 tag ≡ some k → (◌≡◌ {A = Option Kind} (some k) (some HoldsText) → ⊥) → (◌≡◌ {A = Option Kind} (some k) (some HoldsTokens) → ⊥) → ElementTag tag
element-tag tag k e f g = record { not_attribute = no-attribute tag k e; not_cdata = differs tag 1 k HoldsText e known-one f; not_table = differs tag 4 k HoldsTokens e known-four g }

pub items-tag : (tag : ℕ) → known 0 tag ≡ some HoldsItems → ElementTag tag
items-tag tag e = element-tag tag HoldsItems e (λ q. never (cc)) (λ q. never (cc))

pub plain-tag : (tag : ℕ) → known 0 tag ≡ some HoldsPlain → ElementTag tag
plain-tag tag e = element-tag tag HoldsPlain e (λ q. never (cc)) (λ q. never (cc))

pub language-tag : ElementTag 6
unfolding attribute
language-tag = record { not_attribute = refl; not_cdata = refl; not_table = refl }

-- the items there are that are no attributes, each with its kind: elements that hold items, elements that hold plain octets, CDATA, the token table, and the language
pub data Stands : ℕ → Kind → Type 0 where
  stands-items : {tag : ℕ} → known 0 tag ≡ some HoldsItems → Stands tag HoldsItems
  stands_plain : {tag : ℕ} → known 0 tag ≡ some HoldsPlain → Stands tag HoldsPlain
  stands-cdata : Stands 1 HoldsText
  stands-table : Stands 4 HoldsTokens
  stands-language : Stands 6 HoldsText

pub stands : (tag : ℕ) (k : Kind) → known 0 tag ≡ some k → Stands tag k
stands tag HoldsItems e = stands-items e
stands tag HoldsPlain e = stands_plain e
stands tag HoldsTokens e = subst (λ n. Stands n HoldsTokens) (sym (eqb-true tag 4 (element-kind tag HoldsTokens e))) stands-table
stands tag HoldsText e =
    or_elim (eqb tag 1) (eqb tag 6)
    (λ q. subst (λ n. Stands n HoldsText) (sym (eqb-true tag 1 q)) stands-cdata)
    (λ q. subst (λ n. Stands n HoldsText) (sym (eqb-true tag 6 q)) stands-language)
    (element-kind tag HoldsText e)
stands tag HoldsTime e = absurd (false≢true (element-kind tag HoldsTime e))
stands tag HoldsBearer e = absurd (false≢true (element-kind tag HoldsBearer e))
stands tag (HoldsNumber n) e = absurd (false≢true (element-kind tag (HoldsNumber n) e))
