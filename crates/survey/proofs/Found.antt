-- Where an attribute can be found in an element: none is found behind the first item that is no attribute.
use mathlib.Core.Path.{◌≡◌, refl}
use mathlib.Core.Bool.{Bool, true, false, cond}
use mathlib.Core.Option.{none, some}
use mathlib.Core.List.{List}
use Prim.Native.Nat.{ℕ, ◌≤◌}
use native.Mathlib.Omega.{arith}
use lib.Dec.{eqb}
use borrow.Author.Tests.{leb-true}
use Rattle.values.specs.Table.{attribute}
use Rattle.values.proofs.Known.{not-attribute}
use Rattle.format.specs.Tree.{Items, find}
use Rattle.format.specs.Tree.Items.{end, item}
use Rattle.format.specs.Judge.{latest, stage_after}
use Rattle.format.specs.Writer.{Spot, past, ruled}
use Rattle.format.proofs.Kept.{keeps-parts, ruled-parts}
use Rattle.format.proofs.Fine.{Placed, placed-parts, stage-past}
use Rattle.format.proofs.Force.{attribute-latest}

placed-item : (s : Spot) (tag at : ℕ) (body : List ℕ) (x y : Items) → ruled s (item tag at body x y) ≡ true → Placed s tag
placed-item s tag at body x y h = placed-parts s tag (keeps-parts s tag body (ruled-parts s tag at body x y h).rules).place

stage-on : (tag : ℕ) → attribute tag ≡ false → 1 ≤ stage_after tag
unfolding stage_after
stage-on tag h = rw h (go (eqb tag 4) (eqb tag 1))
  where
    go : (b c : Bool) → 1 ≤ cond b 1 (cond c 3 2)
    go true c = omega arith
    go false true = omega arith
    go false false = omega arith

pub no_more : (t : Items) (s : Spot) (a : ℕ) → attribute a ≡ true → 1 ≤ s.stage → ruled s t ≡ true → find a t ≡ none
unfolding find
no_more end s a q g h = refl
no_more (item tag at body x y) s a q g h = go (attribute tag) refl (λ z. no_more y (past s tag) a q z (ruled-parts s tag at body x y h).beside)
  where
    go : (b : Bool) → attribute tag ≡ b → (1 ≤ (past s tag).stage → find a y ≡ none) → cond (eqb a tag) (some body) (find a y) ≡ none
    go true e f = absurd (omega (arith, attribute-latest tag e, leb-true s.stage (latest tag) (placed-item s tag at body x y h).order))
    go false e f = rw (not-attribute a tag q e) (f (omega (arith, stage-on tag e, stage-past s tag)))

-- behind an item that is no attribute there is none
pub none-behind : (s : Spot) (a tag at : ℕ) (body : List ℕ) (x y : Items) → attribute a ≡ true → attribute tag ≡ false → ruled s (item tag at body x y) ≡ true → find a (item tag at body x y) ≡ none
unfolding find
none-behind s a tag at body x y q e h =
    rw (not-attribute a tag q e) (no_more y (past s tag) a q (omega (arith, stage-on tag e, stage-past s tag)) (ruled-parts s tag at body x y h).beside)
