-- The ways through span and body.
use mathlib.Core.Path.{◌≡◌, refl, ap, ◌∙◌}
use mathlib.Core.Bool.{Bool, true, false, cond, ◌&&◌}
use mathlib.Core.List.{List}
use Prim.Native.Nat.{ℕ, ◌+◌, ◌-◌, ◌^◌, ◌≤◌, ◌<◌, min}
use native.Mathlib.Nat.{add-sub_cancel_left}
use native.Mathlib.Omega.{arith}
use lib.Dec.{leb, ltb}
use lib.ListN.{length, get_or, take, drop}
use mir.Syntax.{w64}
use mir.Val.{Fits}
use borrow.Author.Tests.{leb-true, le-leb, lt-leb, le-ltb, lt-ltb}
use Rattle.format.specs.declared.Span.{Span}
use Rattle.format.specs.Calls.{span_of, body_at}

-- the part of length 0 at the start
abbrev nothing : Span
nothing = record { start = 0; size = 0 }

module _ (object starts sizes : List ℕ) (i : ℕ) where
  unlisted : min (length starts) (length sizes) ≤ i → nothing ≡ span_of object starts sizes i
  unfolding span_of
  unlisted h = rw (le-ltb i (min (length starts) (length sizes)) h)

  pub no_start : length starts ≤ i → nothing ≡ span_of object starts sizes i
  no_start h = unlisted (omega arith)

  pub no_size : length sizes ≤ i → nothing ≡ span_of object starts sizes i
  no_size h = unlisted (omega arith)

  module _ (h : i < length starts) (g : i < length sizes) where
    listed : ltb i (min (length starts) (length sizes)) ≡ true
    listed = lt-ltb i (min (length starts) (length sizes)) (omega arith)

    pub outside : length object < get_or starts i 0 + get_or sizes i 0 → nothing ≡ span_of object starts sizes i
    unfolding span_of
    outside k = rw (listed, lt-leb (get_or starts i 0 + get_or sizes i 0) (length object) k)

    pub inside : get_or starts i 0 + get_or sizes i 0 ≤ length object → record { start = get_or starts i 0; size = get_or sizes i 0 } ≡ span_of object starts sizes i
    unfolding span_of
    inside k = rw (listed, le-leb (get_or starts i 0 + get_or sizes i 0) (length object) k)

  abbrev chosen : Bool → Span
  chosen b = cond b (record { start = get_or starts i 0; size = get_or sizes i 0 }) nothing

  -- a span lies in the object, whatever the lists hold
  pub span-inside : (span_of object starts sizes i).start + (span_of object starts sizes i).size ≤ length object
  unfolding span_of
  span-inside = go (ltb i (min (length starts) (length sizes))) (leb (get_or starts i 0 + get_or sizes i 0) (length object)) refl
    where
      go : (a b : Bool) → leb (get_or starts i 0 + get_or sizes i 0) (length object) ≡ b → (chosen (a && b)).start + (chosen (a && b)).size ≤ length object
      go true true e = leb-true (get_or starts i 0 + get_or sizes i 0) (length object) e
      go true false e = omega arith
      go false b e = omega arith

  module _ (s : Span) (e : s ≡ span_of object starts sizes i) where
    within : s.start + s.size ≤ length object
    within = rw e span-inside

    pub body-fits : length object < 2 ^ 64 → Fits w64 (s.start + s.size)
    body-fits l = omega (arith, within)

    pub body-ends : s.start + s.size ≤ length object
    body-ends = within

    pub body_is : take (s.start + s.size - s.start) (drop s.start object) ≡ body_at object (span_of object starts sizes i)
    unfolding body_at
    body_is = ap (λ (n : ℕ). take n (drop s.start object)) (add-sub_cancel_left s.start s.size) ∙ ap (body_at object) e

pub ruleset span-ways = (no_start, no_size, outside, inside)

pub ruleset body-ways = (body-fits, body-ends, body_is)
