-- The ways through is_same, and what the walks over the child elements of a part say of an accepted one.
use mathlib.Core.Path.{◌≡◌, refl, sym, ap, ap₂, ◌∙◌, subst}
use mathlib.Core.Bool.{Bool, true, false, cond, ◌&&◌, ◌||◌, false≢true, and-true}
use mathlib.Core.List.{List}
use Prim.Native.Nat.{ℕ, ◌+◌, ◌≤◌}
use lib.Dec.{eqb}
use borrow.Author.Tests.{eqb-true, eqb-false, eq-eqb, ne_eqb}
use Rattle.text.specs.Tokens.{Entries}
use Rattle.values.specs.Table.{rows, kind_in, known, attribute}
use Rattle.format.specs.Tree.{Items}
use Rattle.format.specs.Tree.Items.{end, item}
use Rattle.format.specs.Judge.{is_items}
use Rattle.format.specs.Meaning.{Meaning, opens, is_child, attributes_in, cdata_in, leaf_octets, means}
use Rattle.format.specs.Meaning.Meaning.{nothing, element, leaf}
use Rattle.format.specs.Same.{same_meaning}
use Rattle.reader.specs.Filling.{Accepts}
use Rattle.compare.specs.Walks.{children_in}
use Rattle.compare.specs.Items.{same_element}
use Rattle.compare.proofs.Walking.{Told, children-told}
use Rattle.compare.proofs.Walking.Told.{over, comes}
use Rattle.compare.proofs.Comparing.{same_inside, tags-differ, tags-same, element-says}
use Rattle.merge.specs.Keys.{has_equal}
use Rattle.merge.specs.Merged.{has_language}
use Rattle.merging.specs.Searches.{any_child}
use Rattle.merging.specs.Among.{is_equal, equal_in, is_language, language_in}

-- ---- is_same

module _ (tag other levels : ℕ) (es : Entries) (a : List ℕ) (fs : Entries) (b : List ℕ) where
  pub same-apart : (tag ≡ other → ⊥) → false ≡ is_equal levels es tag a fs other b
  unfolding is_equal
  same-apart h = rw (ne_eqb tag other h)

  pub same-tagged : tag ≡ other → (r : Bool) → r ≡ same_element levels es fs tag a b → r ≡ is_equal levels es tag a fs other b
  unfolding is_equal
  same-tagged h r e = e ∙ rw (eq-eqb tag other h)

pub ruleset same-ways = (same-apart, same-tagged)

-- ---- what they say of an accepted part

module _ (es : Entries) (one : Meaning) (tag at : ℕ) (body : List ℕ) (inside after : Items) (k : is_child tag ≡ true) where
  -- the first child element, and then the others
  first-equal : has_equal one (means es (item tag at body inside after)) ≡ same_meaning one (means es (item tag at body inside end)) || has_equal one (means es after)
  unfolding means has_equal
  first-equal = rw k (go (opens tag))
    where
      go : (o : Bool)
          → has_equal one (cond o (element tag (attributes_in es tag inside) (means es inside) (cdata_in es inside) (means es after)) (leaf tag (leaf_octets es tag body) (means es after)))
          ≡ same_meaning one (cond o (element tag (attributes_in es tag inside) (means es inside) (cdata_in es inside) nothing) (leaf tag (leaf_octets es tag body) nothing)) || has_equal one (means es after)
      go true = refl
      go false = refl

-- an element of a tag with a body and the items inside it, held against one of the child elements
module _ (es fs : Entries) (levels tag d i : ℕ) (a : List ℕ) (t : Items) (k : is_child tag ≡ true) (n : d + levels ≡ 17) (h : opens tag ≡ true → (d ≤ 16) × Accepts tag (d + 1) i a t) where
  abbrev single : Meaning
  single = means es (item tag i a t end)

  one-says : (other e j : ℕ) (b : List ℕ) (u : Items) → is_child other ≡ true → (opens other ≡ true → (e ≤ 16) × Accepts other (e + 1) j b u)
      → is_equal levels es tag a fs other b ≡ same_meaning single (means fs (item other j b u end))
  unfolding is_equal same_meaning means
  one-says other e j b u k' g = go (eqb tag other) refl
    where
      go : (q : Bool) → eqb tag other ≡ q → q && same_element levels es fs tag a b ≡ same_meaning single (means fs (item other j b u end))
      go false q = sym (tags-differ es fs tag i a t end k other j b u end k' (eqb-false tag other q))
      go true q =
          let w : tag ≡ other = eqb-true tag other q in
          let g' : opens tag ≡ true → (e ≤ 16) × Accepts tag (e + 1) j b u = subst (λ x. opens x ≡ true → (e ≤ 16) × Accepts x (e + 1) j b u) (sym w) g in
          element-says es fs levels tag d e i j a b t u n h g'
          ∙ sym (ap (λ x. same_meaning single (means fs (item x j b u end))) (sym w) ∙ tags-same es fs tag i a t end k j b u end ∙ and-true (same_inside es fs tag a t b u))

  told-equal : (e : ℕ) (l : List (ℕ × List ℕ)) (u : Items) → Told e l u → any_child (is_equal levels es tag a fs) l ≡ has_equal single (means fs u)
  unfolding any_child has_equal
  told-equal e l u (over x) = sym (ap (has_equal single) (x fs))
  told-equal e l u (comes {later = l'} other from body inside after c g x later) =
      ap₂ ◌||◌ (one-says other e from body inside c g) (told-equal e l' after later) ∙ sym (ap (has_equal single) (x fs) ∙ first-equal fs single other from body inside after c)

  -- among the child elements of an accepted part is one of equal meaning
  pub equal-says : (p e j : ℕ) (part : List ℕ) (u : Items) → Accepts p e j part u → equal_in levels es tag a fs part ≡ has_equal single (means fs u)
  unfolding equal_in
  equal-says p e j part u y = told-equal e (children_in part) u (children-told p e j part u y)

pub six-shut : opens 6 ≡ false
unfolding opens is_items known kind_in rows attribute
six-shut = refl

pub open-not-six : (tag : ℕ) → opens tag ≡ true → eqb tag 6 ≡ false
open-not-six tag o = go (eqb tag 6) refl
  where
    go : (b : Bool) → eqb tag 6 ≡ b → b ≡ false
    go true e = absurd (false≢true (sym (ap opens (eqb-true tag 6 e) ∙ six-shut) ∙ o))
    go false e = refl

-- a default language stands among them
first-language : (es : Entries) (tag at : ℕ) (body : List ℕ) (inside after : Items) → is_child tag ≡ true
    → has_language (means es (item tag at body inside after)) ≡ eqb tag 6 || has_language (means es after)
unfolding means has_language
first-language es tag at body inside after k = rw k (go (opens tag) refl)
  where
    go : (o : Bool) → opens tag ≡ o
        → has_language (cond o (element tag (attributes_in es tag inside) (means es inside) (cdata_in es inside) (means es after)) (leaf tag (leaf_octets es tag body) (means es after)))
        ≡ eqb tag 6 || has_language (means es after)
    go true e = rw (not-six (eqb tag 6) refl)
      where
        not-six : (b : Bool) → eqb tag 6 ≡ b → eqb tag 6 ≡ false
        not-six false q = q
        not-six true q = absurd (false≢true (sym (ap opens (eqb-true tag 6 q) ∙ six-shut) ∙ e))
    go false e = refl

pub language-says : (es : Entries) (p e j : ℕ) (part : List ℕ) (u : Items) → Accepts p e j part u → language_in part ≡ has_language (means es u)
unfolding language_in any_child has_language is_language
language-says es p e j part u y = go (children_in part) u (children-told p e j part u y)
  where
    go : (l : List (ℕ × List ℕ)) (t : Items) → Told e l t → any_child is_language l ≡ has_language (means es t)
    go l t (over x) = sym (ap has_language (x es))
    go l t (comes {later = l'} tag from body inside after c g x later) =
        ap (λ b. eqb tag 6 || b) (go l' after later) ∙ sym (ap has_language (x es) ∙ first-language es tag from body inside after c)
