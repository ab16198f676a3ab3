-- The rules of one item, on each way through the code's tests.
use mathlib.Core.Path.{◌≡◌, refl, sym, ap, ◌∙◌}
use mathlib.Core.Bool.{Bool, true, false, ◌&&◌, ◌||◌}
use mathlib.Core.Option.{Option, none, some}
use mathlib.Core.List.{List, [], ◌∷◌}
use Prim.Native.Nat.{ℕ, ◌≤◌, ◌<◌}
use types.Run.{OneOf}
use denote.Enum.Declared.{tag_of}
use borrow.Author.Tests.{le-leb, lt-leb}
use Rattle.octets.specs.Numbers.{among}
use Rattle.octets.specs.declared.counts.Characters.{Characters}
use Rattle.octets.specs.Counts.{as_characters}
use Rattle.text.specs.Text.{text}
use Rattle.text.specs.Tokens.{entries, is_table, covered, shown_length}
use Rattle.text.specs.Weighing.{weighed_by, covered_shown}
use Rattle.text.proofs.WeighLaws.{weighed-none, weighed-text, weighed-covered, weighed-shown}
use Rattle.text.specs.declared.Weighed.{Weighed}
use Rattle.values.specs.declared.Kind.{Kind}
use Rattle.values.specs.contracts.Kind.{the_type}
use Rattle.values.specs.declared.Kind.TheVariants.{HoldsItems, HoldsTokens, HoldsText, HoldsPlain, HoldsTime, HoldsBearer, HoldsNumber}
use Rattle.values.specs.Table.{known, attribute}
use Rattle.values.specs.Values.{fits, wrong_field}
use Rattle.format.specs.declared.Refusal.{Refusal}
use Rattle.format.specs.Answers.{refusal, wrong_value}
use Rattle.format.specs.Judge.{is_top, is_known, is_text, is_tokens, is_value, wrong_in, latest, shown, of_top, rule, value_rule, first, kind_rules, item_rules}
use Rattle.format.proofs.Rules.{first_one}
use Rattle.values.specs.Calls.{as_known, known_kind}
use Rattle.tags.specs.Rules.{within_depth, has_bit, Seen}
use Rattle.tags.proofs.Arms.{never}
use Rattle.tags.proofs.Masks.{twice-is}
use Rattle.tags.proofs.TagTests.{capped-shown}
use Rattle.judge.specs.Says.{ctx, bare, InForce, depth_of, as_kind, checked, ItemSays}
use Rattle.std.specs.Prelude.{Result, Ok, Err, ⊤, Some, None, Option as Optional}
use Rattle.judge.specs.declared.Progress.{Progress}

-- what the lookup answers, in the definition's words
pub kind-known : (k : Optional Kind) (parent tag : ℕ) → k ≡ known_kind parent tag → as_kind k ≡ known parent tag
unfolding known_kind as_kind as_known
kind-known k parent tag e = ap as_kind e ∙ same (known parent tag)
  where
    same : (o : Option Kind) → as_kind (as_known o) ≡ o
    same none = refl
    same (some k) = refl

-- rules 10, 12 and 13
module _ (parent tag place : ℕ) (table body : List ℕ) (marks : ℕ) (shows : List ℕ) (told : InForce table marks shows)
    (r : Optional Weighed) (e : r ≡ weighed_by marks shows body (as_characters 32_769)) where
  abbrev Ruled : Option Refusal
  Ruled = kind_rules (bare parent (entries table)) place tag body (some HoldsText)

  pub text-bad : r ≡ None → (x : Refusal) → x ≡ refusal 10 place → checked (Err x) ≡ Ruled
  unfolding kind_rules first rule value_rule checked is_value is_text is_tokens fits
  text-bad f x m = rw (m, weighed-none (entries table) marks shows told.marking told.showing body (as_characters 32_769) r e f)

  module _ (holds : Bool) (count : Characters) (f : r ≡ Some (covered_shown holds count)) (t : Bool) (g : t ≡ ((attribute tag && is_top parent) || holds)) where
    is-text : text true body ≡ true
    is-text = weighed-text (entries table) marks shows told.marking told.showing body (as_characters 32_769) r e (covered_shown holds count) f

    is_held : ((attribute tag && is_top parent) || covered (entries table) body) ≡ t
    is_held =
        ap (λ b. (attribute tag && is_top parent) || b) (sym (weighed-covered (entries table) marks shows told.marking told.showing body (as_characters 32_769) r e (covered_shown holds count) f)) ∙ sym g

    pub text-uncovered : t ≡ false → (x : Refusal) → x ≡ refusal 12 place → checked (Err x) ≡ Ruled
    unfolding kind_rules first rule value_rule checked is_value is_text is_tokens fits of_top
    text-uncovered h x m = rw (m, is-text, is_held ∙ h)

    module _ (h : t ≡ true) (u : Bool) (i : u ≡ shown parent tag count) where
      is-shown : shown parent tag (shown_length (entries table) body) ≡ u
      is-shown =
          sym (capped-shown parent tag (shown_length (entries table) body))
          ∙ ap (shown parent tag) (sym (weighed-shown (entries table) marks shows told.marking told.showing body (as_characters 32_769) r e (covered_shown holds count) f)) ∙ sym i

      pub text-long : u ≡ false → (x : Refusal) → x ≡ refusal 13 place → checked (Err x) ≡ Ruled
      unfolding kind_rules first rule value_rule checked is_value is_text is_tokens fits of_top
      text-long j x m = rw (m, is-text, is_held ∙ h, is-shown ∙ j)

      pub text-good : u ≡ true → checked (Ok tt) ≡ Ruled
      unfolding kind_rules first rule value_rule checked is_value is_text is_tokens fits of_top
      text-good j = rw (is-text, is_held ∙ h, is-shown ∙ j)

pub ruleset text-ways = (text-bad, text-uncovered, text-long, text-good)

-- rules 9 to 13, for a kind
module _ (parent tag place : ℕ) (table body : List ℕ) (k : Kind) where
  abbrev Kinds : Option Kind → Option Refusal
  Kinds = kind_rules (bare parent (entries table)) place tag body

  pub kind-items : k ≡ HoldsItems → checked (Ok tt) ≡ Kinds (some k)
  unfolding kind_rules first rule value_rule checked is_value is_text is_tokens fits
  kind-items q = rw q

  pub kind-plain : k ≡ HoldsPlain → checked (Ok tt) ≡ Kinds (some k)
  unfolding kind_rules first rule value_rule checked is_value is_text is_tokens fits
  kind-plain q = rw q

  pub kind-text : k ≡ HoldsText → (r : Result ⊤ Refusal) → checked r ≡ Kinds (some HoldsText) → checked r ≡ Kinds (some k)
  kind-text q r h = rw q h

  pub kind-table : k ≡ HoldsTokens → (t : Bool) → t ≡ is_table body → t ≡ true → checked (Ok tt) ≡ Kinds (some k)
  unfolding kind_rules first rule value_rule checked is_value is_text is_tokens fits
  kind-table q t g h = rw (q, sym g ∙ h)

  pub kind-no-table : k ≡ HoldsTokens → (t : Bool) → t ≡ is_table body → t ≡ false → (x : Refusal) → x ≡ refusal 11 place → checked (Err x) ≡ Kinds (some k)
  unfolding kind_rules first rule value_rule checked is_value is_text is_tokens fits
  kind-no-table q t g h x m = rw (m, q, sym g ∙ h)

  module _ (b : Bool) (e : b ≡ fits k body) where
    pub kind-misfit : b ≡ false → (n : ℕ) → n ≡ wrong_field k body → checked (Err (wrong_value place n)) ≡ Kinds (some k)
    unfolding kind_rules first value_rule checked is_value wrong_in
    kind-misfit f n q = rw (sym e ∙ f, q)

    value-kind : b ≡ true → is_text (some k) ≡ false → is_tokens (some k) ≡ false → checked (Ok tt) ≡ Kinds (some k)
    unfolding kind_rules first rule value_rule checked is_value
    value-kind f x y = rw (sym e ∙ f, x, y)

-- what the arms `_` know
abbrev Formed : List ℕ
Formed = 4 ∷ 5 ∷ 6 ∷ []

no_words : (k : Kind) → OneOf Formed (tag_of the_type k) → (is_text (some k) ≡ false) × (is_tokens (some k) ≡ false)
unfolding is_text is_tokens among
no_words HoldsItems h = never Formed 0 refl h
no_words HoldsTokens h = never Formed 1 refl h
no_words HoldsText h = never Formed 2 refl h
no_words HoldsPlain h = never Formed 3 refl h
no_words HoldsTime h = (refl, refl)
no_words HoldsBearer h = (refl, refl)
no_words (HoldsNumber n) h = (refl, refl)

pub kind-formed : (parent tag place : ℕ) (table body : List ℕ) (k : Kind) (b : Bool) → b ≡ fits k body → b ≡ true → OneOf Formed (tag_of the_type k)
    → checked (Ok tt) ≡ kind_rules (bare parent (entries table)) place tag body (some k)
kind-formed parent tag place table body k b e f h = value-kind parent tag place table body k b e f (no_words k h).0 (no_words k h).1

pub ruleset kind-ways = (kind-items, kind-plain, kind-text, kind-table, kind-no-table, kind-misfit, kind-formed)

-- rules 9 to 13, for what the lookup answers
module _ (known : Optional Kind) where
  pub body-unknown : (parent tag place : ℕ) (table body : List ℕ) → known ≡ None
      → checked (Ok tt) ≡ kind_rules (bare parent (entries table)) place tag body (as_kind known)
  unfolding kind_rules first rule value_rule checked is_value is_text is_tokens as_kind
  body-unknown parent tag place table body e = rw e

  pub body-known : (parent tag place : ℕ) (table body : List ℕ) (k : Kind) → known ≡ Some k → (r : Result ⊤ Refusal)
      → checked r ≡ kind_rules (bare parent (entries table)) place tag body (some k) → checked r ≡ kind_rules (bare parent (entries table)) place tag body (as_kind known)
  unfolding as_kind
  body-known parent tag place table body k e r h = rw e h

pub ruleset body-ways = (body-unknown, body-known)

-- rules 6 to 13
module _ (parent tag left : ℕ) (progress : Progress) (place : ℕ) (table body : List ℕ) (l : ℕ) (e : l ≡ latest tag) where
  pub item-late : l < progress.stage → (x : Refusal) → x ≡ refusal 6 place → ItemSays parent tag left progress place table body (Err x)
  unfolding ItemSays item_rules first rule checked
  item-late h x m seen waiting s = rw (m, lt-leb progress.stage (latest tag) (rw e at h))

  module _ (h : progress.stage ≤ l) (d : Bool) (f : d ≡ within_depth tag (depth_of left)) where
    pub item-deep : d ≡ false → (x : Refusal) → x ≡ refusal 7 place → ItemSays parent tag left progress place table body (Err x)
    unfolding ItemSays item_rules first rule checked
    item-deep g x m seen waiting s = rw (m, le-leb progress.stage (latest tag) (rw e at h), sym f ∙ g)

    module _ (g : d ≡ true) (k : Optional Kind) (ke : k ≡ known_kind parent tag) (t : Bool) (i : t ≡ (is_known (as_kind k) && has_bit progress.mask tag)) where
      twice : (seen : List ℕ) → Seen parent progress.mask seen → (attribute tag && is_known (known parent tag) && among tag seen) ≡ t
      twice seen s = twice-is parent progress.mask tag seen s ∙ ap (λ (o : Option Kind). is_known o && has_bit progress.mask tag) (sym (kind-known k parent tag ke)) ∙ sym i

      pub item-twice : t ≡ true → (x : Refusal) → x ≡ refusal 8 place → ItemSays parent tag left progress place table body (Err x)
      unfolding ItemSays item_rules first rule checked
      item-twice j x m seen waiting s = rw (m, le-leb progress.stage (latest tag) (rw e at h), sym f ∙ g, twice seen s ∙ j)

      pub item-kind : t ≡ false → (r : Result ⊤ Refusal) → checked r ≡ kind_rules (bare parent (entries table)) place tag body (as_kind k)
          → ItemSays parent tag left progress place table body r
      unfolding ItemSays item_rules first rule kind_rules of_top
      item-kind j r q seen waiting s =
          rw (le-leb progress.stage (latest tag) (rw e at h), sym f ∙ g, twice seen s ∙ j)
          (first_one (kind_rules (ctx parent (depth_of left) progress.stage seen (entries table) waiting) place tag body (known parent tag)) ∙ rw (← kind-known k parent tag ke) (sym q))

pub ruleset item-ways = (item-late, item-deep, item-twice, item-kind)
