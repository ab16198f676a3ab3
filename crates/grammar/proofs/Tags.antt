-- Tags by their class and where each may stand, and rule 8 as a fact of a tree.
use mathlib.Core.Path.{◌≡◌, sym, ap, ◌∙◌}
use mathlib.Core.Bool.{true, false, ◌||◌, false≢true, or-true}
use mathlib.Core.Option.{none, some}
use Prim.Native.Nat.{ℕ}
use lib.Dec.{eqb}
use borrow.Author.Tests.{ne_eqb}
use Rattle.octets.specs.Numbers.{among}
use Rattle.values.specs.declared.Kind.TheVariants.{HoldsItems}
use Rattle.values.specs.Table.{known, attribute}
use Rattle.values.proofs.Known.{known-one, known-four, known-six}
use Rattle.format.specs.Tree.{Items, find}
use Rattle.format.specs.Judge.{is_known, is_text, is_tokens, Context, is_top, allowed}
use Rattle.format.proofs.Force.{top-known}

-- the tag of an element that is not CDATA, the table or the language
pub record ChildTag (tag : ℕ) : Type 0 where
  pub not_cdata : eqb tag 1 ≡ false
  pub not_table : eqb tag 4 ≡ false
  pub not_language : eqb tag 6 ≡ false

pub child-tag : (tag : ℕ) → is_text (known 0 tag) ≡ false → is_tokens (known 0 tag) ≡ false → ChildTag tag
unfolding is_text is_tokens
child-tag tag t k = record {
  not_cdata = ne_eqb tag 1 (λ q. false≢true (sym t ∙ (ap (λ n. is_text (known 0 n)) q ∙ ap is_text known-one)));
  not_table = ne_eqb tag 4 (λ q. false≢true (sym k ∙ (ap (λ n. is_tokens (known 0 n)) q ∙ ap is_tokens known-four)));
  not_language = ne_eqb tag 6 (λ q. false≢true (sym t ∙ (ap (λ n. is_text (known 0 n)) q ∙ ap is_text known-six)));
}

-- where each may stand
pub allowed-child : (parent tag : ℕ) → eqb parent 0 ≡ false → eqb tag 0 ≡ false → is_top tag ≡ false → ChildTag tag → allowed parent tag ≡ true
unfolding allowed
allowed-child parent tag p z t c = rw (p, z, t, c.not_table, c.not_language) (or-true (is_top parent))

-- the table and the language in the top
pub allowed-top : (parent tag : ℕ) → eqb parent 0 ≡ false → is_top parent ≡ true → eqb tag 0 || is_top tag ≡ false → allowed parent tag ≡ true
unfolding allowed
allowed-top parent tag p t e = rw (p, e, t)

-- a known attribute that was seen is not among the items to come
abbrev pub Once : Context → Items → Type 0
Once c t = (a : ℕ) → attribute a ≡ true → is_known (known c.parent a) ≡ true → among a c.seen ≡ true → find a t ≡ none

-- a top is known
pub top-items : (tag : ℕ) → is_top tag ≡ true → known 0 tag ≡ some HoldsItems
unfolding allowed
top-items tag t = top-known tag t
