-- What a tree takes of the store is no more than its normal form has: each text and value stands there too, behind a header, but for defaults, of which an element has at
-- most two, and its header outweighs them.
use mathlib.Core.Path.{◌≡◌, refl, sym, ap, ◌∙◌}
use mathlib.Core.Bool.{Bool, true, false, cond, false≢true}
use mathlib.Core.List.{List, []}
use Prim.Native.Nat.{ℕ, ◌+◌, ◌≤◌}
use native.Mathlib.Omega.{arith}
use lib.ListN.{length, length-append}
use Rattle.octets.proofs.Answers.{size-two}
use Rattle.values.specs.declared.Kind.TheVariants.{HoldsNumber}
use Rattle.values.specs.declared.NumberKind.TheVariants.{Enumerated}
use Rattle.values.specs.Table.{known}
use Rattle.values.specs.Calls.{default_octets}
use Rattle.values.proofs.DefaultValues.{default-enumerated, default-length-one}
use Rattle.format.specs.Tree.{Items}
use Rattle.format.specs.Tree.Items.{end, item}
use Rattle.format.specs.Meaning.{opens, means, encode}
use Rattle.format.specs.Writer.{Spot, below, past, at_top, ruled}
use Rattle.format.specs.Loaded.{stored, store_in}
use Rattle.format.specs.State.{packed_store}
use Rattle.format.proofs.Told.{Told}
use Rattle.format.proofs.Kept.{Ruled, ruled-parts, keeps-tag}
use Rattle.format.proofs.Written.{Bytes, ruled-told}
use Rattle.format.proofs.Defaults.{own_defaults, own-none, own-few}
use Rattle.survey.specs.Normal.{framed_size, normal_size}
use Rattle.survey.proofs.NormalSizes.{size-whole}
use Rattle.state.specs.Order.{item_adds}
use Rattle.state.proofs.BodySizes.{body_size, size-open, size-shut, size-item, open-counts}
use Rattle.edits.specs.Sites.{share}
use Rattle.edits.proofs.Sites.{store-here}
use Rattle.edits.proofs.Cuts.{share-shut}
use Rattle.edits.proofs.Records.{share-open}

-- a default takes one octet
default-one : (p tag : ℕ) (body : List ℕ) → default_octets p tag body ≡ true → length (stored [] (known p tag) body) ≡ 1
unfolding stored
default-one p tag body d =
    let k = default-enumerated p tag body d in
    ap (λ q. length (stored [] q body)) k ∙ default-length-one [] p tag (HoldsNumber Enumerated) body k d

module _ (s : Spot) (tag : ℕ) (body : List ℕ) (x y : Items) (u : Ruled s tag body x y) where
  abbrev p : ℕ
  p = s.parent

  share-less : own_defaults tag x ≤ 2 → length (store_in [] tag x) ≤ normal_size tag x + own_defaults tag x
      → length (share p tag body x) ≤ item_adds p tag body (body_size p tag body x) + cond (default_octets p tag body) 1 0
  unfolding framed_size
  share-less few inside = go (opens tag) refl (default_octets p tag body) refl
    where
      go : (o : Bool) → opens tag ≡ o → (d : Bool) → default_octets p tag body ≡ d
          → length (share p tag body x) ≤ cond d 0 (framed_size (body_size p tag body x)) + cond d 1 0
      go true o true d = absurd (false≢true (sym (open-counts p tag body o) ∙ d))
      go true o false d =
          omega (arith, ap length (share-open p tag body x o), size-open s p tag body x o u.within, size-two (body_size p tag body x))
      go false o true d = omega (arith, ap length (share-shut p tag body x o), default-one p tag body d)
      go false o false d = omega (arith, ap length (share-shut p tag body x o), size-shut p tag body x o)

pub store-less : (t : Items) (s : Spot) → ruled s t ≡ true → Told [] s t → length (store_in [] s.parent t) ≤ normal_size s.parent t + own_defaults s.parent t
unfolding store_in normal_size own_defaults below past
store-less end s r h = omega arith
store-less (item tag at body x y) s r h =
    let u = ruled-parts s tag at body x y r in
    let inside = store-less x (below s tag) u.within h.1 in
    let later = store-less y (past s tag) u.beside h.2 in
    let own = share-less s tag body x y u (own-few [] x (below s tag) h.1) inside in
    let long = ap length (store-here s.parent tag at body x y (keeps-tag s tag body u.rules)) ∙ length-append (share s.parent tag body x) (store_in [] s.parent y) in
    omega (arith, size-item s tag at body x y u)

pub store-short : (t : Items) → Bytes t → ruled at_top t ≡ true → length (packed_store t) ≤ length (encode (means [] t))
unfolding at_top
store-short t bytes rules = omega (arith, store-less t at_top rules (ruled-told t at_top bytes rules), own-none t, size-whole t rules)
