-- The body of a record, one law for each way through the code.
use Prim.Native.Nat.{ℕ, min}
use mathlib.Core.Path.{◌≡◌, refl, sym, ap, ◌∙◌}
use mathlib.Core.Bool.{Bool, true, false, cond, ◌&&◌, and-true as and_yes, false≢true}
use mathlib.Core.Option.{Option as Maybe, none, some}
use mathlib.Core.Logic.{◌⊎◌, ⊎_elim}
use mathlib.Core.List.{List, []}
use lib.ListN.{take}
use Rattle.std.specs.Prelude.{Option, None, Some}
use Rattle.std.specs.Bool.{then_some}
use Rattle.text.specs.Text.{text}
use Rattle.text.specs.Tokens.{entries, cut, shown_length, covered}
use Rattle.text.specs.Weighing.{tags, Marks, Shows, weighed_by, covered_shown}
use Rattle.text.proofs.Words.{plain-text, plain-text-covered}
use Rattle.text.proofs.Expansion.{text-plain}
use Rattle.text.proofs.WeighLaws.{weighed-none, weighed-text, weighed-covered, weighed-shown}
use Rattle.text.specs.declared.Weighed.{Weighed}
use Rattle.octets.specs.Counts.{as_characters}
use Rattle.octets.specs.declared.counts.Characters.{Characters}
use Rattle.values.specs.declared.NumberKind.{NumberKind}
use Rattle.values.specs.declared.Kind.{Kind}
use Rattle.values.specs.declared.Kind.TheVariants.{HoldsItems, HoldsTokens, HoldsText, HoldsPlain, HoldsTime, HoldsBearer, HoldsNumber}
use Rattle.values.specs.Table.{known}
use Rattle.values.specs.Values.{fits}
use Rattle.format.specs.Judge.{is_known, is_items, is_tokens, is_text, is_value, shown}
use Rattle.format.specs.Writer.{body_keeps}
use Rattle.tags.proofs.TagTests.{capped-shown, short-other}
use Rattle.values.specs.Calls.{as_known, known_kind}
use Rattle.records.specs.Check.{held_as}
use Rattle.records.specs.declared.check.Held.{Held}
use Rattle.records.specs.declared.check.Held.TheVariants.{Octets, Inner}

-- there is no token table: an empty part has no entries
pub no-entries : (o : List ℕ) → entries (take 0 o) ≡ []
unfolding entries cut
no-entries o = refl

module _ (parent tag : ℕ) (body o : List ℕ) (marks : ℕ) (m : Marks marks (tags (entries (take 0 o)))) (shows : List ℕ) (k : Shows 32 (entries (take 0 o)) shows)
    (r : Option Weighed) (e : r ≡ weighed_by marks shows body (as_characters 32_769)) where
  abbrev Kept : Bool
  Kept = text false body && shown parent tag (shown_length [] body)

  no_text : (text false body ≡ true → ⊥) → false ≡ Kept
  no_text n = go (text false body) refl
    where
      go : (b : Bool) → text false body ≡ b → false ≡ b && shown parent tag (shown_length [] body)
      go true q = absurd (n q)
      go false q = refl

  pub text-none : r ≡ None → false ≡ Kept
  text-none f = no_text (λ q. false≢true (sym (weighed-none (entries (take 0 o)) marks shows m k body (as_characters 32_769) r e f) ∙ plain-text body q))

  module _ (c : Bool) (n : Characters) (f : r ≡ Some (covered_shown c n)) where
    covers : c ≡ covered [] body
    covers = weighed-covered (entries (take 0 o)) marks shows m k body (as_characters 32_769) r e (covered_shown c n) f ∙ ap (λ es. covered es body) (no-entries o)

    pub text-tokens : c ≡ false → false ≡ Kept
    text-tokens g = no_text (λ q. false≢true (sym g ∙ covers ∙ plain-text-covered body q))

    pub text-bare : c ≡ true → (b : Bool) → b ≡ shown parent tag n → b ≡ Kept
    text-bare g b h =
        let t : text false body ≡ true = text-plain body (weighed-text (entries (take 0 o)) marks shows m k body (as_characters 32_769) r e (covered_shown c n) f) (sym covers ∙ g) in
        let s : n ≡ as_characters (min 32_769 (shown_length [] body).0) =
        weighed-shown (entries (take 0 o)) marks shows m k body (as_characters 32_769) r e (covered_shown c n) f ∙ ap (λ es. as_characters (min 32_769 (shown_length es body).0)) (no-entries o) in
        rw t (h ∙ ap (shown parent tag) s ∙ capped-shown parent tag (shown_length [] body))

-- only CDATA may have a limit
pub text-other : (parent tag : ℕ) (body : List ℕ) → (tag ≡ 1 → ⊥) → (b : Bool) → b ≡ text false body → b ≡ text false body && shown parent tag (shown_length [] body)
text-other parent tag body h b e = e ∙ sym (ap (λ c. text false body && c) (sym (short-other parent tag (shown_length [] body) h)) ∙ and_yes (text false body))

pub ruleset text-ways = (text-none, text-tokens, text-bare, text-other)

some-if : (b : Bool) → cond b (Some Octets) None ≡ then_some b Octets
some-if true = refl
some-if false = refl

module _ (parent tag : ℕ) (body : List ℕ) where
  -- a value keeps the rules where it is one
  held-value : (k : Kind) → is_items (some k) ≡ false → is_tokens (some k) ≡ false → is_text (some k) ≡ false
      → held_as parent tag body (some k) ≡ then_some (fits k body) Octets
  unfolding held_as body_keeps is_known is_value
  held-value k i t x = rw (i, t, x, and_yes (fits k body)) (some-if (fits k body))

  module _ (k : Kind) where
    pub kind-items : k ≡ HoldsItems → Some Inner ≡ held_as parent tag body (some k)
    unfolding held_as body_keeps is_known is_items is_tokens is_text is_value fits
    kind-items e = rw e

    pub kind-tokens : k ≡ HoldsTokens → None ≡ held_as parent tag body (some k)
    unfolding held_as body_keeps is_known is_items is_tokens is_text is_value fits
    kind-tokens e = rw e

    pub kind-plain : k ≡ HoldsPlain → Some Octets ≡ held_as parent tag body (some k)
    unfolding held_as body_keeps is_known is_items is_tokens is_text is_value fits
    kind-plain e = rw e

    module _ (b : Bool) (h : Option Held) (he : h ≡ then_some b Octets) where
      pub kind-text : b ≡ text false body && shown parent tag (shown_length [] body) → k ≡ HoldsText → h ≡ held_as parent tag body (some k)
      unfolding held_as body_keeps is_known is_items is_tokens is_text is_value fits
      kind-text f e = rw e (he ∙ ap (λ c. then_some c Octets) f ∙ sym (some-if (text false body && shown parent tag (shown_length [] body))))

      module _ (f : b ≡ fits k body) where
        value-is : is_items (some k) ≡ false → is_tokens (some k) ≡ false → is_text (some k) ≡ false → h ≡ held_as parent tag body (some k)
        value-is i t x = he ∙ (ap (λ c. then_some c Octets) f ∙ sym (held-value k i t x))

        pub kind-value : (k ≡ HoldsTime) ⊎ ((k ≡ HoldsBearer) ⊎ ((n : NumberKind) × (k ≡ HoldsNumber n))) → h ≡ held_as parent tag body (some k)
        unfolding is_items is_tokens is_text
        kind-value = ⊎_elim (λ e. value-is (rw e) (rw e) (rw e)) (⊎_elim (λ e. value-is (rw e) (rw e) (rw e)) (λ e. value-is (rw e.1) (rw e.1) (rw e.1)))

pub ruleset kind-ways = (kind-items, kind-tokens, kind-plain, kind-text, kind-value)

-- the kind that an answer of the table stands for
as_option : Option Kind → Maybe Kind
as_option None = none
as_option (Some k) = some k

known-back : (o : Maybe Kind) → as_option (as_known o) ≡ o
unfolding as_option as_known
known-back none = refl
known-back (some k) = refl

known_is : (parent tag : ℕ) (x y : Option Kind) → x ≡ known_kind parent tag → x ≡ y → as_option y ≡ known parent tag
unfolding known_kind
known_is parent tag x y e f = ap as_option (sym f ∙ e) ∙ known-back (known parent tag)

module _ (parent tag : ℕ) (body : List ℕ) (x : Option Kind) (e : x ≡ known_kind parent tag) where
  pub body-unknown : x ≡ None → None ≡ held_as parent tag body (known parent tag)
  unfolding held_as body_keeps is_known as_option
  body-unknown f = rw (sym (known_is parent tag x None e f))

  pub body-known : (k : Kind) (h : Option Held) → h ≡ held_as parent tag body (some k) → x ≡ Some k → h ≡ held_as parent tag body (known parent tag)
  unfolding as_option
  body-known k h g f = g ∙ ap (held_as parent tag body) (known_is parent tag x (Some k) e f)

pub ruleset body-ways = (body-unknown, body-known)
