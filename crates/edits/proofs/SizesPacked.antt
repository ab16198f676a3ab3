-- A packed tree has the sizes of the tree.
use mathlib.Core.Path.{◌≡◌, refl, sym, ap, ap₂, ◌∙◌, subst}
use mathlib.Core.Bool.{Bool, true, false, cond}
use mathlib.Core.Option.{some}
use mathlib.Core.List.{List, [], ◌∷◌, ◌++◌}
use Prim.Native.Nat.{ℕ, ◌+◌}
use native.Mathlib.Omega.{arith}
use lib.Dec.{eqb}
use lib.ListN.{length}
use Rattle.text.proofs.Expansion.{sound_empty}
use Rattle.values.specs.Table.{known}
use Rattle.values.specs.Values.{meant, octets_of, is_default}
use Rattle.values.specs.Calls.{default_octets}
use Rattle.values.proofs.Values.{proper-means, proper-fits}
use Rattle.values.proofs.DefaultValues.{default-meant}
use Rattle.format.specs.Tree.{Items}
use Rattle.format.specs.Tree.Items.{end, item}
use Rattle.format.specs.Judge.{is_value}
use Rattle.format.specs.Meaning.{opens}
use Rattle.format.specs.Writer.{Spot, below, past, at_top, ruled}
use Rattle.format.specs.Loaded.{stored, store_in, loaded_in}
use Rattle.format.specs.State.{body_sizes, packed}
use Rattle.format.proofs.Kept.{Ruled, ruled-parts, keeps-tag, end_is}
use Rattle.format.proofs.Told.{Told, ItemTold, KindTold}
use Rattle.format.proofs.Written.{Bytes, ruled-told}
use Rattle.format.proofs.Loading.{loaded-held, loaded-single, loaded-keeps}
use Rattle.survey.specs.Normal.{framed_size, normal_size}
use Rattle.survey.proofs.Ways.{told-value}
use Rattle.state.specs.Order.{item_adds}
use Rattle.state.proofs.BodySizes.{body_size, size-open, size-shut, size-item}
use Rattle.edits.proofs.Sizes.{open-adds}

record Same (s : Spot) (t : Items) : Type 0 where
  sizes : (at : ℕ) → body_sizes s.parent (loaded_in [] s.parent at t) ≡ body_sizes s.parent t
  size : (at : ℕ) → normal_size s.parent (loaded_in [] s.parent at t) ≡ normal_size s.parent t

module _ (s : Spot) (tag from : ℕ) (body : List ℕ) (x y : Items) (rules : ruled s (item tag from body x y) ≡ true) (told : Told [] s (item tag from body x y)) where
  p : ℕ
  p = s.parent

  u : Ruled s tag body x y
  u = ruled-parts s tag from body x y rules

  f : eqb tag 4 ≡ false
  f = keeps-tag s tag body u.rules

  loaded-rules : (at : ℕ) → ruled s (loaded_in [] s.parent at (item tag from body x y)) ≡ true
  loaded-rules at = loaded-keeps [] sound_empty (item tag from body x y) s told at s.stage s.seen (omega arith) (λ a q. q)

  -- what is loaded of an element that holds items
  inner-rules : opens tag ≡ true → (at : ℕ) → Ruled s tag [] (loaded_in [] tag at x) (loaded_in [] p (at + length (store_in [] tag x)) y)
  unfolding p
  inner-rules o at =
      let n = at + length (store_in [] tag x) in
      ruled-parts s tag 0 [] (loaded_in [] tag at x) (loaded_in [] p n y) (subst (λ z. ruled s z ≡ true) (loaded-held [] p at tag from body x y f o) (loaded-rules at))

  inner-size : opens tag ≡ true → Same (below s tag) x → (at : ℕ) → body_size p tag [] (loaded_in [] tag at x) ≡ body_size p tag body x
  unfolding below
  inner-size o inside at =
      size-open s p tag [] (loaded_in [] tag at x) o (inner-rules o at).within ∙ (inside.size at ∙ sym (size-open s p tag body x o u.within))

  same-held : opens tag ≡ true → Same (below s tag) x → Same (past s tag) y → Same s (item tag from body x y)
  unfolding p below past body_sizes
  same-held o inside later = record {
    sizes = λ at.
        let n = at + length (store_in [] tag x) in
        ap (body_sizes p) (loaded-held [] p at tag from body x y f o) ∙ ap₂ (λ a c. a ∷ c) (inner-size o inside at) (ap₂ ◌++◌ (inside.sizes at) (later.sizes n));
    size = λ at.
        let n = at + length (store_in [] tag x) in
        let b : item_adds p tag [] (body_size p tag [] (loaded_in [] tag at x)) ≡ item_adds p tag body (body_size p tag body x) =
        open-adds p tag [] (body_size p tag [] (loaded_in [] tag at x)) o
        ∙ (ap framed_size (inner-size o inside at) ∙ sym (open-adds p tag body (body_size p tag body x) o)) in
        ap (normal_size p) (loaded-held [] p at tag from body x y f o)
        ∙ (size-item s tag 0 [] (loaded_in [] tag at x) (loaded_in [] p n y) (inner-rules o at) ∙ (ap₂ ◌+◌ b (later.size n) ∙ sym (size-item s tag from body x y u)));
  }

  -- what is stored of a text or value is stored as it stands the next time, and is a default where that was one
  abbrev own : List ℕ
  own = stored [] (known p tag) body

  own-again : opens tag ≡ false → ItemTold [] s tag body x → (stored [] (known p tag) own ≡ own) × (default_octets p tag own ≡ default_octets p tag body)
  unfolding p stored is_value
  own-again o i =
      let k = told-value [] sound_empty s tag body x i f o in
      let h : KindTold [] p tag body (some k.0) = rw k.1 at i.kind in
      let m = proper-means k.2 in
      rw k.1 (
        ap octets_of m,
        default-meant [] p tag k.0 (octets_of (meant [] k.0 body)) k.1 (proper-fits k.2)
            ∙ (ap (is_default p tag) m ∙ sym (default-meant [] p tag k.0 body k.1 h.value)),
      )

  same-single : opens tag ≡ false → ItemTold [] s tag body x → end ≡ x → Same (past s tag) y → Same s (item tag from body x y)
  unfolding p past body_sizes
  same-single o i none later =
      let a = own-again o i in
      let b : body_size p tag own end ≡ body_size p tag body x = size-shut p tag own end o ∙ (ap length a.0 ∙ sym (size-shut p tag body x o)) in
      record {
        sizes = λ at.
            ap (body_sizes p) (loaded-single [] p at tag from body x y f o) ∙ ap₂ (λ a c. a ∷ c) b (ap₂ ◌++◌ (ap (body_sizes tag) none) (later.sizes (at + length own)));
        size = λ at.
            let n = at + length own in
            let e = loaded-single [] p at tag from body x y f o in
            let v = ruled-parts s tag at own end (loaded_in [] p n y) (subst (λ z. ruled s z ≡ true) e (loaded-rules at)) in
            let c : item_adds p tag own (body_size p tag own end) ≡ item_adds p tag body (body_size p tag body x) = ap₂ (λ d z. cond d 0 (framed_size z)) a.1 b in
            ap (normal_size p) e ∙ (size-item s tag at own end (loaded_in [] p n y) v ∙ (ap₂ ◌+◌ c (later.size n) ∙ sym (size-item s tag from body x y u)));
      }

same-sizes : (t : Items) (s : Spot) → ruled s t ≡ true → Told [] s t → Same s t
unfolding loaded_in
same-sizes end s r h = record { sizes = λ at. refl; size = λ at. refl }
same-sizes (item tag from body x y) s r h =
    let u = ruled-parts s tag from body x y r in
    go (same-sizes x (below s tag) u.within h.1) (same-sizes y (past s tag) u.beside h.2) (opens tag) refl
  where
    go : Same (below s tag) x → Same (past s tag) y → (b : Bool) → opens tag ≡ b → Same s (item tag from body x y)
    go inside later true o = same-held s tag from body x y r h o inside later
    go inside later false o = same-single s tag from body x y r h o h.0 (end_is x (rw o at (ruled-parts s tag from body x y r).holder)) later

-- of items, wherever they are loaded
pub sizes-loaded : (t : Items) (s : Spot) → ruled s t ≡ true → Told [] s t → (at : ℕ)
    → (body_sizes s.parent (loaded_in [] s.parent at t) ≡ body_sizes s.parent t) × (normal_size s.parent (loaded_in [] s.parent at t) ≡ normal_size s.parent t)
sizes-loaded t s r h at = let g = same-sizes t s r h in (g.sizes at, g.size at)

pub sizes-packed : (t : Items) → Bytes t → ruled at_top t ≡ true → body_sizes 0 (packed t) ≡ body_sizes 0 t
unfolding at_top
sizes-packed t b r = (same-sizes t at_top r (ruled-told t at_top b r)).sizes 0
