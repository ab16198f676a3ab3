-- What is listed of an item, and what its body holds: the ways through the code, and what the answers say of the kind.
use Rattle.std.specs.Prelude.{Some, None, Option as Optional}
use mathlib.Core.Path.{◌≡◌, refl, sym, ap, ◌∙◌}
use mathlib.Core.Bool.{true, false}
use mathlib.Core.Option.{Option, none, some}
use Prim.Native.Nat.{ℕ}
use types.Run.{OneOf}
use denote.Enum.Declared.{tag_of}
use Rattle.octets.proofs.Tests.{never}
use Rattle.values.specs.declared.Kind.{Kind}
use Rattle.values.specs.declared.Kind.TheVariants.{HoldsItems, HoldsTokens, HoldsText, HoldsPlain, HoldsTime, HoldsBearer, HoldsNumber}
use Rattle.values.specs.declared.NumberKind.{NumberKind}
use Rattle.values.specs.Table.{known}
use Rattle.values.specs.Calls.{known_kind}
use Rattle.values.specs.contracts.Kind.{the_type}
use Rattle.values.proofs.Laws.{known-kind, unknown-kind}
use Rattle.format.specs.Judge.{is_known, is_items, is_tokens, is_text}
use Rattle.format.specs.Meaning.{opens}
use Rattle.tags.specs.declared.Listed.{Listed}
use Rattle.tags.specs.declared.Listed.TheVariants.{Nothing, Inside, Value}
use Rattle.tags.specs.Listed.{listed_as}
use Rattle.tags.proofs.Arms.{Untexted, not-text}

-- ---- listed_as
module _ (p tag : ℕ) (r : Optional Kind) (e : r ≡ known_kind p tag) where
  pub listed-unknown : r ≡ None → Nothing ≡ listed_as (known p tag)
  unfolding listed_as
  listed-unknown q = rw (unknown-kind p tag r e q)

  module _ (k : Kind) (q : r ≡ Some k) where
    kind-is : known p tag ≡ some k
    kind-is = known-kind p tag r e k q

    pub listed-items : k ≡ HoldsItems → Inside ≡ listed_as (known p tag)
    unfolding listed_as
    listed-items w = rw (kind-is, w)

    pub listed-tokens : k ≡ HoldsTokens → Nothing ≡ listed_as (known p tag)
    unfolding listed_as
    listed-tokens w = rw (kind-is, w)

    pub listed-text : k ≡ HoldsText → Value k ≡ listed_as (known p tag)
    unfolding listed_as
    listed-text w = rw (kind-is, w)

    pub listed_plain : k ≡ HoldsPlain → Value k ≡ listed_as (known p tag)
    unfolding listed_as
    listed_plain w = rw (kind-is, w)

    pub listed-time : k ≡ HoldsTime → Value k ≡ listed_as (known p tag)
    unfolding listed_as
    listed-time w = rw (kind-is, w)

    pub listed-bearer : k ≡ HoldsBearer → Value k ≡ listed_as (known p tag)
    unfolding listed_as
    listed-bearer w = rw (kind-is, w)

    pub listed-number : (n : NumberKind) → k ≡ HoldsNumber n → Value k ≡ listed_as (known p tag)
    unfolding listed_as
    listed-number n w = rw (kind-is, w)

pub ruleset listed-ways = (listed-unknown, listed-items, listed-tokens, listed-text, listed_plain, listed-time, listed-bearer, listed-number)

-- ---- what it says
pub is-nothing : (k : Option Kind) → Nothing ≡ listed_as k → (is_items k ≡ false) × (is_known k ≡ is_tokens k) × (is_text k ≡ false)
unfolding listed_as is_items is_known is_tokens is_text
is-nothing none h = (refl, refl, refl)
is-nothing (some HoldsItems) h = never (cc)
is-nothing (some HoldsTokens) h = (refl, refl, refl)
is-nothing (some HoldsText) h = never (cc)
is-nothing (some HoldsPlain) h = never (cc)
is-nothing (some HoldsTime) h = never (cc)
is-nothing (some HoldsBearer) h = never (cc)
is-nothing (some (HoldsNumber n)) h = never (cc)

pub is-inside : (k : Option Kind) → Inside ≡ listed_as k → (is_items k ≡ true) × (is_tokens k ≡ false) × (is_known k ≡ true)
unfolding listed_as is_items is_tokens is_known
is-inside none h = never (cc)
is-inside (some HoldsItems) h = (refl, refl, refl)
is-inside (some HoldsTokens) h = never (cc)
is-inside (some HoldsText) h = never (cc)
is-inside (some HoldsPlain) h = never (cc)
is-inside (some HoldsTime) h = never (cc)
is-inside (some HoldsBearer) h = never (cc)
is-inside (some (HoldsNumber n)) h = never (cc)

-- a value's kind
pub record OfValue (k : Option Kind) (v : Kind) : Type 0 where
  pub is : k ≡ some v
  pub shut : is_items k ≡ false
  pub no_table : is_tokens k ≡ false

pub is-value : (k : Option Kind) (v : Kind) → Value v ≡ listed_as k → OfValue k v
unfolding listed_as is_items is_tokens
is-value none v h = never (cc)
is-value (some HoldsItems) v h = never (cc)
is-value (some HoldsTokens) v h = never (cc)
is-value (some HoldsText) v h = record { is = cc; shut = refl; no_table = refl }
is-value (some HoldsPlain) v h = record { is = cc; shut = refl; no_table = refl }
is-value (some HoldsTime) v h = record { is = cc; shut = refl; no_table = refl }
is-value (some HoldsBearer) v h = record { is = cc; shut = refl; no_table = refl }
is-value (some (HoldsNumber n)) v h = record { is = cc; shut = refl; no_table = refl }

-- ---- holds_items
pub is_not_inside : (k : Option Kind) → (listed_as k ≡ Inside → ⊥) → is_items k ≡ false
unfolding listed_as is_items
is_not_inside none h = refl
is_not_inside (some HoldsItems) h = absurd (h refl)
is_not_inside (some HoldsTokens) h = refl
is_not_inside (some HoldsText) h = refl
is_not_inside (some HoldsPlain) h = refl
is_not_inside (some HoldsTime) h = refl
is_not_inside (some HoldsBearer) h = refl
is_not_inside (some (HoldsNumber n)) h = refl

module _ (tag : ℕ) (r : Listed) (e : r ≡ listed_as (known 0 tag)) where
  pub holds-inside : r ≡ Inside → true ≡ opens tag
  unfolding opens
  holds-inside q = rw (is-inside (known 0 tag) (sym q ∙ e)).0

  pub holds-other : (r ≡ Inside → ⊥) → false ≡ opens tag
  unfolding opens
  holds-other q = sym (is_not_inside (known 0 tag) (λ p. q (e ∙ p)))

pub ruleset holds-ways = (holds-inside, holds-other)

-- ---- holds_text
module _ (p tag : ℕ) (r : Optional Kind) (e : r ≡ known_kind p tag) where
  pub text-unknown : r ≡ None → false ≡ is_text (known p tag)
  unfolding is_text
  text-unknown q = rw (unknown-kind p tag r e q)

  module _ (k : Kind) (q : r ≡ Some k) where
    pub text-is : k ≡ HoldsText → true ≡ is_text (known p tag)
    unfolding is_text
    text-is w = rw (known-kind p tag r e k q, w)

    pub text-not : OneOf Untexted (tag_of the_type k) → false ≡ is_text (known p tag)
    text-not w = sym (ap is_text (known-kind p tag r e k q) ∙ not-text k w)

pub ruleset text-ways = (text-unknown, text-is, text-not)
