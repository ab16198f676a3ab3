-- A tree has at most two records for each octet of its normal form: an item has two octets there or more, but for a default, which has none, and of these an element
-- has no more than there are attributes with a default.
use mathlib.Core.Path.{◌≡◌, refl, sym, ap, ◌∙◌, subst}
use mathlib.Core.Bool.{Bool, true, false, cond, ◌&&◌, ◌||◌, false≢true}
use mathlib.Core.List.{List, [], ◌∷◌}
use Prim.Native.Nat.{ℕ, suc, ◌+◌, ◌*◌, ◌≤◌}
use native.Mathlib.Omega.{arith}
use lib.Dec.{eqb}
use lib.ListN.{length, get_or}
use borrow.Author.Tests.{eqb-true, eq-eqb, not-true}
use Rattle.octets.specs.Numbers.{among}
use Rattle.octets.proofs.Answers.{size-two}
use Rattle.octets.proofs.Tests.{and_right, or_elim}
use Rattle.values.specs.Table.{attribute, defaults, default_in}
use Rattle.values.specs.Calls.{default_octets}
use Rattle.values.proofs.DefaultValues.{no_default}
use Rattle.format.specs.Tree.{Items, count}
use Rattle.format.specs.Tree.Items.{end, item}
use Rattle.format.specs.Meaning.{opens, means, encode}
use Rattle.format.specs.Writer.{Spot, below, past, at_top, ruled}
use Rattle.format.proofs.Kept.{Ruled, ruled-parts, keeps-parts, keeps-tag, end_is}
use Rattle.format.proofs.Fine.{placed-parts}
use Rattle.format.proofs.Defaults.{default-attribute}
use Rattle.format.proofs.Tabled.{count-item}
use Rattle.survey.specs.Normal.{framed_size, normal_size}
use Rattle.survey.proofs.NormalSizes.{size-whole}
use Rattle.state.specs.Order.{item_adds}
use Rattle.state.proofs.BodySizes.{body_size, size-open, size-item, open-counts}

-- whether the default of an attribute can still come, and how many can
unfoldable free : (p tag : ℕ) → List ℕ → ℕ
free p tag seen = cond (default_in p tag 1 defaults) (cond (among tag seen) 0 1) 0

unfoldable left : ℕ → List ℕ → ℕ
left p seen = free p 0x81 seen + free p 0x83 seen + free p 0x84 seen

free-less : (p a tag : ℕ) (seen : List ℕ) → free p a (tag ∷ seen) ≤ free p a seen
unfolding free among
free-less p a tag seen = go (default_in p a 1 defaults) (eqb a tag) (among a seen)
  where
    go : (d e f : Bool) → cond d (cond (e || f) 0 1) 0 ≤ cond d (cond f 0 1) 0
    go false e f = omega arith
    go true true f = omega arith
    go true false f = omega arith

left_less : (p tag : ℕ) (seen : List ℕ) → left p (tag ∷ seen) ≤ left p seen
unfolding left
left_less p tag seen = omega (arith, free-less p 0x81 tag seen, free-less p 0x83 tag seen, free-less p 0x84 tag seen)

free_one : (p a : ℕ) (seen : List ℕ) → free p a seen ≤ 1
unfolding free
free_one p a seen = go (default_in p a 1 defaults) (among a seen)
  where
    go : (d e : Bool) → cond d (cond e 0 1) 0 ≤ 1
    go false e = omega arith
    go true true = omega arith
    go true false = omega arith

left-three : (p : ℕ) (seen : List ℕ) → left p seen ≤ 3
unfolding left
left-three p seen = omega (arith, free_one p 0x81 seen, free_one p 0x83 seen, free_one p 0x84 seen)

-- a default that comes leaves one less
free_seen : (p tag : ℕ) (seen : List ℕ) → free p tag (tag ∷ seen) ≡ 0
unfolding free among
free_seen p tag seen = go (default_in p tag 1 defaults) (eqb tag tag) (eq-eqb tag tag refl)
  where
    go : (d e : Bool) → e ≡ true → ◌≡◌ {A = ℕ} (cond d (cond (e || among tag seen) 0 1) 0) 0
    go false e h = refl
    go true true h = refl
    go true false h = absurd (false≢true h)

free-unseen : (p tag : ℕ) (seen : List ℕ) → default_in p tag 1 defaults ≡ true → among tag seen ≡ false → free p tag seen ≡ 1
unfolding free
free-unseen p tag seen d h = rw (d, h)

default-tag : (C : ℕ → Type 0) (p tag : ℕ) → default_in p tag 1 defaults ≡ true → C 0x81 → C 0x83 → C 0x84 → C tag
unfolding default_in defaults
default-tag C p tag h one three four =
    or_elim (eqb p 0x14 && eqb tag 0x81) _ (λ e. is 0x14 0x81 e one)
    (or_elim (eqb p 0x1C && eqb tag 0x83) _ (λ e. is 0x1C 0x83 e three)
    (or_elim (eqb p 0x1C && eqb tag 0x84) _ (λ e. is 0x1C 0x84 e four)
    (or_elim (eqb p 0x2E && eqb tag 0x83) _ (λ e. is 0x2E 0x83 e three)
    (or_elim (eqb p 0x2E && eqb tag 0x84) false (λ e. is 0x2E 0x84 e four) (λ e. absurd (false≢true e)))))) h
  where
    is : (q a : ℕ) → eqb p q && eqb tag a ≡ true → C a → C tag
    is q a e c = subst C (sym (eqb-true tag a (and_right (eqb p q) (eqb tag a) e))) c

left-used : (p tag : ℕ) (seen : List ℕ) → default_in p tag 1 defaults ≡ true → among tag seen ≡ false → left p (tag ∷ seen) + 1 ≤ left p seen
unfolding left
left-used p tag seen d h = default-tag (λ a. (a ≡ tag) → left p (tag ∷ seen) + 1 ≤ left p seen) p tag d
    (λ e. omega (arith, free-less p 0x83 tag seen, free-less p 0x84 tag seen, gone 0x81 e, comes 0x81 e))
    (λ e. omega (arith, free-less p 0x81 tag seen, free-less p 0x84 tag seen, gone 0x83 e, comes 0x83 e))
    (λ e. omega (arith, free-less p 0x81 tag seen, free-less p 0x83 tag seen, gone 0x84 e, comes 0x84 e)) refl
  where
    gone : (a : ℕ) → a ≡ tag → free p a (tag ∷ seen) ≡ 0
    gone a e = ap (λ z. free p z (tag ∷ seen)) e ∙ free_seen p tag seen

    comes : (a : ℕ) → a ≡ tag → free p a seen ≡ 1
    comes a e = ap (λ z. free p z seen) e ∙ free-unseen p tag seen d h

-- by its octets
default-in : (p tag : ℕ) (body : List ℕ) → default_octets p tag body ≡ true → default_in p tag 1 defaults ≡ true
unfolding default_octets
default-in p tag body h = go (default_in p tag 1 defaults) refl
  where
    go : (b : Bool) → default_in p tag 1 defaults ≡ b → b ≡ true
    go true e = refl
    go false e = absurd (false≢true (sym (no_default p tag (get_or body 0 0) e) ∙ and_right (eqb (length body) 1) (default_in p tag (get_or body 0 0) defaults) h))

module _ (s : Spot) (tag at : ℕ) (body : List ℕ) (x y : Items) (u : Ruled s tag body x y) where
  abbrev p : ℕ
  p = s.parent

  unseen : default_octets p tag body ≡ true → among tag s.seen ≡ false
  unseen d =
      let once = (placed-parts s tag (keeps-parts s tag body u.rules).place).once in
      and-rest (attribute tag) (among tag s.seen) (default-attribute p tag body d) (not-true (attribute tag && among tag s.seen) once)
    where
      and-rest : (a b : Bool) → a ≡ true → a && b ≡ false → b ≡ false
      and-rest true b e h = h
      and-rest false b e h = absurd (false≢true e)

  few-item : count x ≤ 2 * normal_size tag x + left tag [] → suc (count x) + left p (tag ∷ s.seen) ≤ 2 * item_adds p tag body (body_size p tag body x) + left p s.seen
  unfolding framed_size count
  few-item inside = go (opens tag) refl (default_octets p tag body) refl
    where
      shut : opens tag ≡ false → count x ≡ 0
      shut o = ap count (sym (end_is x (or-rest (opens tag) o u.holder)))
        where
          or-rest : (a : Bool) → a ≡ false → {b : Bool} → a || b ≡ true → b ≡ true
          or-rest false e h = h
          or-rest true e h = absurd (false≢true (sym e))

      go : (o : Bool) → opens tag ≡ o → (d : Bool) → default_octets p tag body ≡ d
          → suc (count x) + left p (tag ∷ s.seen) ≤ 2 * cond d 0 (framed_size (body_size p tag body x)) + left p s.seen
      go true o true d = absurd (false≢true (sym (open-counts p tag body o) ∙ d))
      go true o false d =
          omega (arith, left_less p tag s.seen, left-three tag [], size-open s p tag body x o u.within, size-two (body_size p tag body x))
      go false o true d = omega (arith, shut o, left-used p tag s.seen (default-in p tag body d) (unseen d))
      go false o false d = omega (arith, shut o, left_less p tag s.seen, size-two (body_size p tag body x))

few : (t : Items) (s : Spot) → ruled s t ≡ true → count t ≤ 2 * normal_size s.parent t + left s.parent s.seen
unfolding count below past
few end s r = omega arith
few (item tag at body x y) s r =
    let u = ruled-parts s tag at body x y r in
    let own = few-item s tag at body x y u (few x (below s tag) u.within) in
    let later = few y (past s tag) u.beside in
    omega (arith, count-item tag at body x y (keeps-tag s tag body u.rules), size-item s tag at body x y u)

pub tree-few : (t : Items) → ruled at_top t ≡ true → count t ≤ 2 * length (encode (means [] t))
unfolding at_top left free default_in defaults
tree-few t r = omega (arith, few t at_top r, size-whole t r)
