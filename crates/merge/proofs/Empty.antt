-- Merging with an Advanced object whose top is empty gives Basic's meaning.
use mathlib.Core.Path.{◌≡◌, refl, ap, fun_ext}
use mathlib.Core.Bool.{Bool, true, false, cond, ◌&&◌, ◌||◌, and-false}
use mathlib.Core.Option.{Option, none, some}
use mathlib.Core.List.{List}
use Prim.Native.Nat.{ℕ, zero, suc}
use lib.Dec.{eqb}
use borrow.Author.Tests.{eqb-true, eq-eqb}
use Rattle.values.specs.Values.{Value}
use Rattle.format.specs.Judge.{is_top, allowed}
use Rattle.format.specs.Meaning.{Meaning}
use Rattle.format.specs.Meaning.Meaning.{nothing, element, leaf}
use Rattle.format.specs.WellFormed.{ObjectOk}
use Rattle.merge.specs.declared.Services.{Services}
use Rattle.merge.specs.Keys.{merges, same_key, partners, has_partner}
use Rattle.merge.specs.Kept.{empty_top}
use Rattle.merge.specs.Merged.{either, united, then, has_language, languages, new_language, added, paired, merged, apart, any_apart, both_there, other_language, clashing, clash, same_top, twice}

pub either-none : {A : Type 0} (a : Option A) → either a none ≡ a
unfolding either
either-none none = refl
either-none (some a) = refl

pub united-none : (f : ℕ → Option Value) → united f (λ a. none) ≡ f
unfolding united
united-none f = fun_ext (λ a. either-none (f a))

pub then-nothing : (m : Meaning) → then m nothing ≡ m
unfolding then
then-nothing nothing = refl
then-nothing (element tag f m c after) = ap (element tag f m c) (then-nothing after)
then-nothing (leaf tag o after) = ap (leaf tag o) (then-nothing after)

-- without anything of Advanced, Basic's elements stand as they are
pub merged-nothing : (by : Services) (m : Meaning) → merged by m nothing ≡ m
unfolding merged paired
merged-nothing by nothing = refl
merged-nothing by (element tag f m c after) = ap (element tag f m c) (merged-nothing by after)
merged-nothing by (leaf tag o after) = ap (leaf tag o) (merged-nothing by after)

new-nothing : (m : Meaning) → new_language m nothing ≡ nothing
unfolding new_language languages
new-nothing m = go (has_language m)
  where
    go : (b : Bool) → cond b nothing nothing ≡ nothing
    go true = refl
    go false = refl

pub children-nothing : (by : Services) (m : Meaning) → then (new_language m nothing) (then (merged by m nothing) (added by m nothing)) ≡ m
unfolding added then
children-nothing by m = rw (new-nothing m, merged-nothing by m) (then-nothing m)

-- the top of an object is a top
pub top-is : (tag : ℕ) → allowed 0 tag ≡ true → is_top tag ≡ true
unfolding allowed
top-is tag h = h

pub tops-partners : (by : Services) (tag : ℕ) (f g : ℕ → Option Value) (m n : Meaning) → is_top tag ≡ true → partners by tag tag f g m n ≡ true
unfolding partners merges same_key
tops-partners by tag f g m n h = rw (h, eq-eqb tag tag refl)

top-empty : (by : Services) (tag tag' : ℕ) (f : ℕ → Option Value) (m : Meaning) (c : Option (List ℕ)) → is_top tag ≡ true → tag ≡ tag'
    → merged by (element tag f m c nothing) (empty_top tag') ≡ element tag f m c nothing
unfolding merged paired
top-empty by tag tag' f m c h e = rw (← e, tops-partners by tag f (λ a. none) m nothing h, united-none f, children-nothing by m, either-none c)

-- merging with an empty Advanced object gives Basic's meaning
pub merged-empty : (by : Services) (b : Meaning) (tag : ℕ) → ObjectOk b → same_top b (empty_top tag) ≡ true → merged by b (empty_top tag) ≡ b
unfolding same_top
merged-empty by nothing tag ok h = absurd ok
merged-empty by (leaf t o after) tag ok h = absurd ok
merged-empty by (element t f m c nothing) tag ok h = top-empty by t tag f m c (top-is t ok.0.allow) (eqb-true t tag h)
merged-empty by (element t f m c (element t' f' m' c' after)) tag ok h = absurd ok
merged-empty by (element t f m c (leaf t' o after)) tag ok h = absurd ok

-- and nothing clashes, nor is a key there twice but in Basic
apart_none : (k a : ℕ) (f : ℕ → Option Value) → any_apart k a f (λ b. none) ≡ false
unfolding any_apart apart
apart_none zero a f = refl
apart_none (suc k) a f = go (f a) (apart_none k (suc a) f)
  where
    go : (o : Option Value) → any_apart k (suc a) f (λ b. none) ≡ false → apart o none || any_apart k (suc a) f (λ b. none) ≡ false
    go none h = h
    go (some v) h = h

both-none : {A : Type 0} (c : Option A) → both_there c none ≡ false
unfolding both_there
both-none none = refl
both-none (some o) = refl

clash-nothing : (by : Services) (m : Meaning) → clash by m nothing ≡ false
unfolding clash clashing other_language
clash-nothing by nothing = refl
clash-nothing by (element tag f m c after) = clash-nothing by after
clash-nothing by (leaf tag o after) = rw (and-false (eqb tag 6)) (clash-nothing by after)

top-quiet : (by : Services) (tag tag' : ℕ) (f : ℕ → Option Value) (m : Meaning) (c : Option (List ℕ)) → clash by (element tag f m c nothing) (empty_top tag') ≡ false
unfolding clash clashing
top-quiet by tag tag' f m c = rw (apart_none 128 0x80 f, both-none c, clash-nothing by m) (go (partners by tag tag' f (λ a. none) m nothing))
  where
    go : (b : Bool) → b && false || false || false ≡ false
    go true = refl
    go false = refl

pub empty-quiet : (by : Services) (b : Meaning) (tag : ℕ) → ObjectOk b → clash by b (empty_top tag) ≡ false
empty-quiet by nothing tag ok = absurd ok
empty-quiet by (leaf t o after) tag ok = absurd ok
empty-quiet by (element t f m c nothing) tag ok = top-quiet by t tag f m c
empty-quiet by (element t f m c (element t' f' m' c' after)) tag ok = absurd ok
empty-quiet by (element t f m c (leaf t' o after)) tag ok = absurd ok

pub empty-once : (by : Services) (tag : ℕ) → twice by (empty_top tag) ≡ false
unfolding twice has_partner
empty-once by tag = refl
