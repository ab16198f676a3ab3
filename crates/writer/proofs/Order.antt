-- What is written, item after item in the order of the records, is the normal form.
use mathlib.Core.Path.{◌≡◌, refl, sym, ap, ◌∙◌, subst}
use mathlib.Core.Bool.{true, cond}
use mathlib.Core.List.{List, [], ◌++◌, append_assoc, append-nil}
use Prim.Native.Nat.{ℕ}
use Rattle.octets.specs.Header.{framed}
use Rattle.text.specs.Tokens.{expanded}
use Rattle.values.specs.declared.Kind.TheVariants.{HoldsText}
use Rattle.values.specs.Table.{attribute}
use Rattle.values.specs.Values.{fits, meant, octets_of}
use Rattle.values.proofs.DefaultValues.{element-keeps}
use Rattle.values.proofs.Known.{ElementTag, known-anywhere, known-cdata, known-one, items-tag}
use Rattle.format.specs.Tree.{Items, find}
use Rattle.format.specs.Tree.Items.{end, item}
use Rattle.format.specs.Judge.{is_items}
use Rattle.format.specs.Meaning.{opens, cdata_in, means, maybe, encode}
use Rattle.format.specs.Writer.{Spot, below, past, at_top, ruled}
use Rattle.format.proofs.Kept.{Ruled, ruled-parts}
use Rattle.format.proofs.Means.{means-attribute, means-cdata, means-element, means-leaf, opens-items, opens-leaf, same-cdata}
use Rattle.format.proofs.Force.{attribute-one}
use Rattle.survey.specs.Normal.{value_octets, item_octets, attribute_octets, later_octets}
use Rattle.survey.proofs.Ways.{item-known, Way, way}
use Rattle.survey.proofs.Ways.Way.{is_attribute, is_cdata, is_element, is_leaf}
use Rattle.survey.proofs.NormalSizes.{top-alone}

abbrev cdata : Items → List ℕ
cdata t = maybe (framed 1) (cdata_in [] t)

abbrev Laid : ℕ → Items → Type 0
Laid p t = later_octets p t ≡ encode (means [] t) ++ cdata t

laid-attribute : (p tag at : ℕ) (body : List ℕ) (x y : Items) → attribute tag ≡ true → Laid p y → Laid p (item tag at body x y)
unfolding later_octets
laid-attribute p tag at body x y a h = rw (a, means-attribute [] tag at body x y a, same-cdata [] tag at body x y (attribute-one tag a)) h

laid-cdata : (p at : ℕ) (body : List ℕ) (x : Items) → Laid p (item 1 at body x end)
unfolding later_octets means find cdata_in attribute encode maybe value_octets fits meant octets_of is_items
laid-cdata p at body x =
    let own : later_octets p (item 1 at body x end) ≡ framed 1 (expanded [] body) ++ [] = rw (opens-leaf 1 HoldsText known-one refl, item-known p 1 body HoldsText refl (element-keeps p 1 body refl) (known-cdata p)) in
    let none : encode (means [] (item 1 at body x end)) ≡ [] = ap encode (means-cdata [] at body x end) in
    own ∙ (append-nil (framed 1 (expanded [] body)) ∙ ap (λ o. o ++ framed 1 (expanded [] body)) (sym none))

-- an element before the items behind it
laid-front : (p tag at : ℕ) (body own : List ℕ) (x y : Items) → ElementTag tag → cond (opens tag) (framed tag (attribute_octets tag x ++ later_octets tag x)) (item_octets p tag body) ≡ own
    → encode (means [] (item tag at body x y)) ≡ own ++ encode (means [] y) → Laid p y → Laid p (item tag at body x y)
unfolding later_octets
laid-front p tag at body own x y g o m h =
    rw (g.not_attribute, o, m, same-cdata [] tag at body x y g.not_cdata, h) (sym (append_assoc own (encode (means [] y)) (cdata y)))

laid-item : (tag at : ℕ) (body : List ℕ) (x y : Items) → ((s : Spot) → ruled s x ≡ true → Laid s.parent x) → ((s : Spot) → ruled s y ≡ true → Laid s.parent y)
    → (s : Spot) → ruled s (item tag at body x y) ≡ true → Laid s.parent (item tag at body x y)
unfolding below past encode attribute_octets
laid-item tag at body x y fx fy s h = go (way s tag body x y u)
  where
    u : Ruled s tag body x y
    u = ruled-parts s tag at body x y h

    later : Laid s.parent y
    later = fy (past s tag) u.beside

    go : Way s.parent tag body y → Laid s.parent (item tag at body x y)
    go (is_attribute k a e f) = laid-attribute s.parent tag at body x y a later
    go (is_cdata q z) = subst (λ v. Laid s.parent (item tag at body x v)) z (subst (λ m. Laid s.parent (item m at body x end)) q (laid-cdata s.parent at body x))
    go (is_element e) =
        let inner : Laid tag x = fx (below s tag) u.within in
        laid-front s.parent tag at body (framed tag (attribute_octets tag x ++ (encode (means [] x) ++ cdata x))) x y (items-tag tag e) (rw (opens-items tag e, inner))
        (ap encode (means-element [] tag at body x y e)) later
    go (is_leaf k g e l o) =
        laid-front s.parent tag at body (framed tag (value_octets k body)) x y g
        (rw (opens-leaf tag k e l) (item-known s.parent tag body k g.not_table (element-keeps s.parent tag body g.not_attribute) (known-anywhere s.parent tag g.not_attribute ∙ e)))
        (ap encode (means-leaf [] tag at body x y k g e l) ∙ ap (λ v. framed tag v ++ encode (means [] y)) o) later

pub laid : (t : Items) (s : Spot) → ruled s t ≡ true → later_octets s.parent t ≡ encode (means [] t) ++ maybe (framed 1) (cdata_in [] t)
unfolding later_octets means encode cdata_in find maybe
laid end s h = refl
laid (item tag at body x y) s h = laid-item tag at body x y (laid x) (laid y) s h

-- so all that is written of a whole tree is its normal form
pub laid-whole : (t : Items) → ruled at_top t ≡ true → later_octets 0 t ≡ encode (means [] t)
unfolding at_top maybe
laid-whole t h = laid t at_top h ∙ (ap (λ o. encode (means [] t) ++ maybe (framed 1) o) (top-alone t h).cdata ∙ append-nil (encode (means [] t)))
