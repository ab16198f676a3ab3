-- The items of one element, each in its place behind those before it: a tag that was seen is not found again, and nothing comes after CDATA.
use mathlib.Core.Path.{◌≡◌, refl}
use mathlib.Core.Bool.{Bool, true, false, cond, not, ◌&&◌, ◌||◌, false≢true}
use mathlib.Core.Option.{none, some}
use Prim.Native.Nat.{ℕ}
use lib.Dec.{eqb}
use borrow.Author.Tests.{eqb-true}
use Rattle.octets.specs.Numbers.{among}
use Rattle.text.specs.Tokens.{Entries}
use Rattle.values.specs.Table.{attribute}
use Rattle.octets.proofs.Tests.{cond_same}
use Rattle.format.specs.Tree.{Items, find}
use Rattle.format.specs.Tree.Items.{end, item}
use Rattle.format.specs.Judge.{stage_after}
use Rattle.format.specs.Writer.{Spot, past, ruled}
use Rattle.format.proofs.Told.{Told}
use Rattle.format.proofs.Fine.{Placed, placed-parts, three-last}
use Rattle.format.proofs.Kept.{keeps-parts, ruled-parts}

abbrev pub InOrder : Spot → Items → Type 0
InOrder s end = Unit {0}
InOrder s (item tag at body inside after) = Placed s tag × InOrder (past s tag) after

-- so stand the items of an accepted object, and those of records that keep the writer's rules
pub told-order : (T : Entries) (t : Items) (s : Spot) → Told T s t → InOrder s t
told-order T end s h = tt
told-order T (item tag at body inside after) s h = (placed-parts s tag h.0.place, told-order T after (past s tag) h.2)

pub ruled-order : (t : Items) (s : Spot) → ruled s t ≡ true → InOrder s t
ruled-order end s h = tt
ruled-order (item tag at body inside after) s h =
    let u = ruled-parts s tag at body inside after h in
    (placed-parts s tag (keeps-parts s tag body u.rules).place, ruled-order after (past s tag) u.beside)

pub seen_none : (t : Items) (s : Spot) (a : ℕ) → attribute a ≡ true → among a s.seen ≡ true → InOrder s t → find a t ≡ none
unfolding find past among
seen_none end s a q m h = refl
seen_none (item tag at body inside after) s a q m h = go (eqb a tag) refl (λ k. seen_none after (past s tag) a q k h.1)
  where
    go : (b : Bool) → eqb a tag ≡ b → (eqb a tag || among a s.seen ≡ true → find a after ≡ none) → cond b (some body) (find a after) ≡ none
    go true e ih =
        let w : not (attribute a && among a s.seen) ≡ true = rw (eqb-true a tag e) h.0.once in
        absurd (false≢true (rw (q, m) at w))
    go false e ih = ih (rw (e, m))

pub three-end : (t : Items) (s : Spot) → s.stage ≡ 3 → InOrder s t → end ≡ t
three-end end s e h = refl
three-end (item tag at body inside after) s e h = absurd (three-last s tag e h.0)

pub cdata-three : (s : Spot) → (past s 1).stage ≡ 3
unfolding past stage_after attribute
cdata-three s = cond_same (eqb s.parent 0) 3
