-- Items that keep the rules at a spot keep them at one that has come less far, and where fewer attributes stand before them.
use mathlib.Core.Path.{◌≡◌, refl}
use mathlib.Core.Bool.{Bool, true, false, ◌||◌}
use mathlib.Core.List.{List, [], ◌∷◌}
use Prim.Native.Nat.{ℕ, ◌≤◌}
use native.Mathlib.Omega.{arith}
use lib.Dec.{eqb}
use Rattle.octets.specs.Numbers.{among}
use Rattle.octets.proofs.Tests.{and_right, and-true}
use Rattle.values.specs.Table.{known, attribute}
use Rattle.format.specs.Tree.{Items}
use Rattle.format.specs.Tree.Items.{end, item}
use Rattle.format.specs.Writer.{Spot, below, past, placed, body_keeps, keeps, ruled}
use Rattle.format.proofs.Kept.{ruled-parts, is-ruled, keeps-parts}
use Rattle.format.proofs.Fine.{placed-parts}
use Rattle.format.proofs.Loading.{lower, placed-lower}

-- where the first item of an element stands
abbrev pub first_in : (parent depth : ℕ) → Spot
first_in parent depth = record { parent = parent; depth = depth; stage = 0; seen = [] }

-- only attributes may stand but once, so other tags before an item are no matter
abbrev pub FewAttributes : List ℕ → List ℕ → Type 0
FewAttributes few many = (a : ℕ) → attribute a ≡ true → among a few ≡ true → among a many ≡ true

pub few-both : (tag : ℕ) (few many : List ℕ) → FewAttributes few many → FewAttributes (tag ∷ few) (tag ∷ many)
unfolding among
few-both tag few many h a e q = go (eqb a tag) q
  where
    go : (b : Bool) → b || among a few ≡ true → b || among a many ≡ true
    go true r = refl
    go false r = h a e r

pub ruled-lower : (t : Items) (s : Spot) → ruled s t ≡ true → (stage : ℕ) (seen : List ℕ) → stage ≤ s.stage → FewAttributes seen s.seen
    → ruled (lower s stage seen) t ≡ true
unfolding ruled keeps below past
ruled-lower end s h stage seen l f = refl
ruled-lower (item tag at body x y) s h stage seen l f =
    let u = ruled-parts s tag at body x y h in
    let p = placed-lower s tag (placed-parts s tag (keeps-parts s tag body u.rules).place) stage seen l (f tag) in
    let k = and_right (placed s tag) (body_keeps s.parent tag body (known s.parent tag)) u.rules in
    is-ruled (lower s stage seen) tag at body x y (record {
      holder = u.holder;
      rules = and-true _ _ p k;
      within = u.within;
      beside = ruled-lower y (past s tag) u.beside (past s tag).stage (tag ∷ seen) (omega arith) (few-both tag seen s.seen f);
    })
