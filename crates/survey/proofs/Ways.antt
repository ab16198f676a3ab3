-- The four ways of an item in a tree that keeps the writer's rules: an attribute, CDATA with nothing behind it, an element that holds items, any other element.
-- What each adds to the normal form.
use mathlib.Core.Path.{◌≡◌, refl, sym, ap, ◌∙◌}
use mathlib.Core.Bool.{Bool, true, false, false≢true, or-true}
use mathlib.Core.Option.{some}
use mathlib.Core.List.{List, []}
use Prim.Native.Nat.{ℕ}
use lib.Dec.{eqb}
use lib.ListN.{length}
use borrow.Author.Tests.{eqb-true}
use Rattle.octets.specs.Header.{framed}
use Rattle.text.specs.Tokens.{Entries}
use Rattle.text.proofs.Expansion.{Sound}
use Rattle.values.specs.declared.Kind.{Kind}
use Rattle.values.specs.declared.Kind.TheVariants.{HoldsItems, HoldsTokens, HoldsText, HoldsPlain, HoldsTime, HoldsBearer, HoldsNumber}
use Rattle.values.specs.Table.{known, attribute}
use Rattle.values.specs.Values.{fits, meant, octets_of}
use Rattle.values.specs.Proper.{Proper}
use Rattle.values.specs.Calls.{default_octets}
use Rattle.octets.proofs.Answers.{framed-length as header-and-body}
use Rattle.values.proofs.Known.{ElementTag, element-kind, known-anywhere}
use Rattle.values.proofs.Values.{value_kind, fits-proper}
use Rattle.format.specs.Tree.{Items}
use Rattle.format.specs.Tree.Items.{end}
use Rattle.format.specs.Judge.{is_items, is_tokens, is_value}
use Rattle.format.specs.Meaning.{opens, leaf_octets, maybe}
use Rattle.format.specs.Writer.{Spot, past}
use Rattle.format.proofs.Kept.{Kept, keeps-parts, keeps-tag, Ruled}
use Rattle.format.proofs.Told.{ItemTold, KindTold}
use Rattle.format.proofs.Fine.{told_text, known_is}
use Rattle.format.proofs.Means.{items-opens, leaf-text, leaf-plain}
use Rattle.format.proofs.Order.{ruled-order, three-end, cdata-three}
use Rattle.judge.proofs.AllWays.{tokens-four}
use Rattle.survey.specs.Normal.{framed_size, value_octets, written_as, item_octets}

pub framed-length : (tag : ℕ) (body : List ℕ) → length (framed tag body) ≡ framed_size (length body)
unfolding framed_size
framed-length tag body = header-and-body tag body

-- a value of its kind has its normal octets
pub value-fits : (k : Kind) (body : List ℕ) → fits k body ≡ true → value_octets k body ≡ octets_of (meant [] k body)
unfolding value_octets
value-fits k body h = rw h

-- a known item but the token table is written as a value of its kind, unless it is a default
pub item-known : (p tag : ℕ) (body : List ℕ) (k : Kind) → eqb tag 4 ≡ false → default_octets p tag body ≡ false → known p tag ≡ some k
    → item_octets p tag body ≡ framed tag (value_octets k body)
unfolding item_octets written_as maybe
item-known p tag body k f d e = rw (f, d, e)

pub item-default : (p tag : ℕ) (body : List ℕ) → default_octets p tag body ≡ true → item_octets p tag body ≡ []
unfolding item_octets written_as maybe
item-default p tag body d = rw (d, or-true (eqb tag 4))

-- what is neither an element that holds items nor the token table has a value
value-kind : (p tag : ℕ) (k : Kind) → known p tag ≡ some k → eqb tag 4 ≡ false → opens tag ≡ false → value_kind k ≡ true
unfolding is_items is_tokens
value-kind p tag HoldsItems e f o = absurd (false≢true (sym o ∙ (sym (items-opens p tag) ∙ rw e)))
value-kind p tag HoldsTokens e f o = absurd (false≢true (sym f ∙ (sym (tokens-four p tag) ∙ rw e)))
value-kind p tag HoldsText e f o = refl
value-kind p tag HoldsPlain e f o = refl
value-kind p tag HoldsTime e f o = refl
value-kind p tag HoldsBearer e f o = refl
value-kind p tag (HoldsNumber n) e f o = refl

-- and of an item that acceptance tells of the value is a proper one
pub told-value : (T : Entries) → Sound T → (s : Spot) (tag : ℕ) (body : List ℕ) (inside : Items) → ItemTold T s tag body inside → eqb tag 4 ≡ false → opens tag ≡ false
    → (k : Kind) × (known s.parent tag ≡ some k) × Proper k (meant T k body)
unfolding is_value
told-value T sound s tag body inside i f o =
    let k = known_is (known s.parent tag) i.kind.is_one in
    let h : KindTold T s.parent tag body (some k.0) = rw k.1 at i.kind in
    let v = value-kind s.parent tag k.0 k.1 f o in
    (k.0, k.1, fits-proper T k.0 body i.octets v h.value (λ q. told_text T s.parent tag body sound (rw q at h)))

-- the ways of an item in an element of a tag
pub data Way (p tag : ℕ) (body : List ℕ) (after : Items) : Type 0 where
  is_attribute : (k : Kind) → attribute tag ≡ true → known p tag ≡ some k → fits k body ≡ true → Way p tag body after
  is_cdata : 1 ≡ tag → end ≡ after → Way p tag body after
  is_element : known 0 tag ≡ some HoldsItems → Way p tag body after
  is_leaf : (k : Kind) → ElementTag tag → known 0 tag ≡ some k → is_items (some k) ≡ false → leaf_octets [] tag body ≡ value_octets k body → Way p tag body after

way-kind : (s : Spot) (tag : ℕ) (body : List ℕ) (after : Items) (k : Kind) → attribute tag ≡ false → eqb tag 1 ≡ false → known 0 tag ≡ some k → Kept s tag body (some k)
    → eqb tag 4 ≡ false → Way s.parent tag body after
unfolding is_tokens is_items is_value fits meant octets_of
way-kind s tag body after HoldsItems a o e h f = is_element e
way-kind s tag body after HoldsTokens a o e h f = absurd (false≢true (sym h.no_table))
way-kind s tag body after HoldsText a o e h f =
    is_leaf HoldsText (record { not_attribute = a; not_cdata = o; not_table = f }) e refl (leaf-text [] tag body e ∙ sym (value-fits HoldsText body h.value))
way-kind s tag body after HoldsPlain a o e h f =
    is_leaf HoldsPlain (record { not_attribute = a; not_cdata = o; not_table = f }) e refl (leaf-plain [] tag body e ∙ sym (value-fits HoldsPlain body h.value))
way-kind s tag body after HoldsTime a o e h f = absurd (false≢true (element-kind tag HoldsTime e))
way-kind s tag body after HoldsBearer a o e h f = absurd (false≢true (element-kind tag HoldsBearer e))
way-kind s tag body after (HoldsNumber w) a o e h f = absurd (false≢true (element-kind tag (HoldsNumber w) e))

pub way : (s : Spot) (tag : ℕ) (body : List ℕ) (inside after : Items) → Ruled s tag body inside after → Way s.parent tag body after
unfolding is_value
way s tag body inside after u = go (attribute tag) (eqb tag 1) refl refl
  where
    kept : Kept s tag body (known s.parent tag)
    kept = keeps-parts s tag body u.rules

    kind : (k : Kind) × (known s.parent tag ≡ some k)
    kind = known_is (known s.parent tag) kept.is_one

    go : (a o : Bool) → attribute tag ≡ a → eqb tag 1 ≡ o → Way s.parent tag body after
    go true o p q = is_attribute kind.0 p kind.1 (rw kind.1 at kept.value)
    go false true p q =
        let z : 1 ≡ tag = sym (eqb-true tag 1 q) in
        is_cdata z (three-end after (past s tag) (ap (λ m. (past s m).stage) (sym z) ∙ cdata-three s) (ruled-order after (past s tag) u.beside))
    go false false p q =
        let e : known 0 tag ≡ some kind.0 = sym (known-anywhere s.parent tag p) ∙ kind.1 in
        way-kind s tag body after kind.0 p q e (rw kind.1 at kept) (keeps-tag s tag body u.rules)
