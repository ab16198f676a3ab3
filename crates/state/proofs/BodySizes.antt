-- The size of a body in normal form: what is directly in it makes it up, each item but a default with its header.
use mathlib.Core.Path.{◌≡◌, refl, sym, ap, ◌∙◌}
use mathlib.Core.Bool.{Bool, true, false, cond, false≢true}
use mathlib.Core.List.{List, []}
use Prim.Native.Nat.{ℕ, ◌+◌, ◌≤◌}
use native.Mathlib.Omega.{arith}
use lib.ListN.{length}
use Rattle.octets.specs.Header.{framed}
use Rattle.octets.proofs.Answers.{size-four}
use Rattle.values.specs.Table.{known}
use Rattle.values.specs.Values.{meant, octets_of}
use Rattle.values.specs.Calls.{default_octets}
use Rattle.format.specs.Tree.{Items}
use Rattle.format.specs.Tree.Items.{item}
use Rattle.format.specs.Judge.{is_value}
use Rattle.format.specs.Meaning.{opens}
use Rattle.format.specs.Writer.{Spot, below, ruled}
use Rattle.format.specs.Loaded.{stored}
use Rattle.format.specs.State.{normal_body}
use Rattle.format.proofs.Kept.{Ruled, keeps-parts, keeps-tag}
use Rattle.format.proofs.Fine.{known_is}
use Rattle.format.proofs.Means.{attribute-shut}
use Rattle.format.proofs.Defaults.{default-attribute}
use Rattle.survey.specs.Normal.{framed_size, normal_size}
use Rattle.survey.proofs.NormalSizes.{size-inside}
use Rattle.survey.proofs.Ways.{framed-length, value-fits, item-known, item-default}
use Rattle.state.specs.Order.{item_adds}

abbrev pub body_size : (parent tag : ℕ) → List ℕ → Items → ℕ
body_size parent tag body x = length (normal_body parent tag body x)

pub size-open : (s : Spot) (p tag : ℕ) (body : List ℕ) (x : Items) → opens tag ≡ true → ruled (below s tag) x ≡ true → body_size p tag body x ≡ normal_size tag x
unfolding normal_body below
size-open s p tag body x o r = rw o (size-inside tag x (below s tag) refl r)

pub size-shut : (p tag : ℕ) (body : List ℕ) (x : Items) → opens tag ≡ false → body_size p tag body x ≡ length (stored [] (known p tag) body)
unfolding normal_body
size-shut p tag body x o = rw o

-- a header has no more than four octets
pub framed-few : (n : ℕ) → framed_size n ≤ n + 4
unfolding framed_size
framed-few n = omega (arith, size-four n)

-- no element that holds items is a default
pub open-counts : (p tag : ℕ) (body : List ℕ) → opens tag ≡ true → default_octets p tag body ≡ false
open-counts p tag body o = go (default_octets p tag body) refl
  where
    go : (d : Bool) → default_octets p tag body ≡ d → d ≡ false
    go false d = refl
    go true d = absurd (false≢true (sym (attribute-shut tag (default-attribute p tag body d)) ∙ o))

pub size-item : (s : Spot) (tag at : ℕ) (body : List ℕ) (x y : Items) → Ruled s tag body x y
    → normal_size s.parent (item tag at body x y) ≡ item_adds s.parent tag body (body_size s.parent tag body x) + normal_size s.parent y
unfolding normal_size stored is_value
size-item s tag at body x y u = go (opens tag) refl (default_octets s.parent tag body) refl
  where
    p : ℕ
    p = s.parent

    go : (b : Bool) → opens tag ≡ b → (d : Bool) → default_octets p tag body ≡ d → normal_size p (item tag at body x y) ≡ cond d 0 (framed_size (body_size p tag body x)) + normal_size p y
    go true o true d = absurd (false≢true (sym (open-counts p tag body o) ∙ d))
    go true o false d = rw o (ap (λ n. framed_size n + normal_size p y) (sym (size-open s p tag body x o u.within)))
    go false o true d = rw (o, item-default p tag body d)
    go false o false d =
        let h = keeps-parts s tag body u.rules in
        let k = known_is (known p tag) h.is_one in
        let v = rw k.1 at h.value in
        let e = item-known p tag body k.0 (keeps-tag s tag body u.rules) d k.1 ∙ ap (framed tag) (value-fits k.0 body v) in
        let n : body_size p tag body x ≡ length (octets_of (meant [] k.0 body)) = size-shut p tag body x o ∙ ap (λ q. length (stored [] q body)) k.1 in
        rw o (ap (λ z. length z + normal_size p y) e ∙ ap (λ z. z + normal_size p y) (framed-length tag (octets_of (meant [] k.0 body)) ∙ ap framed_size (sym n)))
