-- What the walk sums up of a tree over its store are the sizes of its bodies in normal form, where it keeps the rules.
use mathlib.Core.Path.{◌≡◌, refl, sym, ap, ap₂, ◌∙◌}
use mathlib.Core.Bool.{Bool, true, false, cond}
use mathlib.Core.List.{List, []}
use Prim.Native.Nat.{ℕ, ◌+◌}
use lib.ListN.{length}
use Rattle.values.specs.Table.{known}
use Rattle.format.specs.Tree.{Items}
use Rattle.format.specs.Tree.Items.{end, item}
use Rattle.format.specs.Meaning.{opens, means, encode}
use Rattle.format.specs.Writer.{Spot, below, past, at_top, ruled}
use Rattle.format.specs.Loaded.{stored}
use Rattle.format.specs.State.{body_sizes, packed}
use Rattle.format.proofs.Kept.{Ruled, ruled-parts, keeps-tag}
use Rattle.survey.specs.Normal.{normal_size}
use Rattle.survey.proofs.NormalSizes.{size-whole}
use Rattle.edits.specs.Lay.{added_in, own_sizes}
use Rattle.state.specs.Order.{item_adds}
use Rattle.state.proofs.BodySizes.{body_size, size-open, size-shut, size-item}
use Rattle.state.proofs.SizesHeld.{Own, own-packed}

record Same (p : ℕ) (t : Items) : Type 0 where
  sizes : own_sizes p t ≡ body_sizes p t
  adds : added_in p t ≡ normal_size p t

same_item : (s : Spot) (tag at : ℕ) (body : List ℕ) (x y : Items) → Ruled s tag body x y → (opens tag ≡ false → stored [] (known s.parent tag) body ≡ body) → Same tag x → Same s.parent y
    → Same s.parent (item tag at body x y)
unfolding own_sizes added_in body_sizes
same_item s tag at body x y u w ix iy = record {
  sizes = rw (keeps-tag s tag body u.rules, own, ix.sizes, iy.sizes);
  adds = ap₂ (λ n k. item_adds p tag body n + k) own iy.adds ∙ sym (size-item s tag at body x y u);
}
  where
    p : ℕ
    p = s.parent

    by : (b : Bool) → opens tag ≡ b → cond b (added_in tag x) (length body) ≡ body_size p tag body x
    by true o = ix.adds ∙ sym (size-open s p tag body x o u.within)
    by false o = sym (size-shut p tag body x o ∙ ap length (w o))

    own : cond (opens tag) (added_in tag x) (length body) ≡ body_size p tag body x
    own = by (opens tag) refl

same : (t : Items) (s : Spot) → ruled s t ≡ true → Own s.parent t → Same s.parent t
unfolding own_sizes added_in body_sizes normal_size below past
same end s r w = record { sizes = refl; adds = refl }
same (item tag at body x y) s r w =
    let u = ruled-parts s tag at body x y r in
    same_item s tag at body x y u w.0 (same x (below s tag) u.within w.1) (same y (past s tag) u.beside w.2)

-- of items that are as the store has them
pub own-sizes : (t : Items) (s : Spot) → ruled s t ≡ true → Own s.parent t → (own_sizes s.parent t ≡ body_sizes s.parent t) × (added_in s.parent t ≡ normal_size s.parent t)
own-sizes t s r w = let g = same t s r w in (g.sizes, g.adds)

-- of a packed tree
module _ (t : Items) (rules : ruled at_top t ≡ true) (packs : packed t ≡ t) where
  whole : Same 0 t
  unfolding at_top
  whole = same t at_top rules (own-packed t at_top 0 rules packs)

  pub sizes-summed : own_sizes 0 t ≡ body_sizes 0 t
  sizes-summed = whole.sizes

  pub all-summed : added_in 0 t ≡ length (encode (means [] t))
  all-summed = whole.adds ∙ size-whole t rules
