-- The sizes of items, summed in the order of their records, are the length of the normal form.
use mathlib.Core.Path.{◌≡◌, refl, sym, ap, ◌∙◌, subst}
use mathlib.Core.Bool.{Bool, true, false, cond, false≢true}
use mathlib.Core.Option.{Option, none, some, map}
use mathlib.Core.List.{List, [], ◌++◌}
use Prim.Native.Nat.{ℕ, ◌+◌, ◌≤◌}
use native.Mathlib.Omega.{arith}
use lib.Dec.{eqb}
use lib.ListN.{length, length-append}
use borrow.Author.Tests.{eq-eqb, ne_eqb, eqb-true, eqb-false}
use Rattle.octets.specs.Numbers.{among}
use Rattle.octets.specs.Header.{framed}
use Rattle.text.specs.Tokens.{expanded}
use Rattle.values.specs.declared.Kind.{Kind}
use Rattle.values.specs.declared.Kind.TheVariants.{HoldsItems, HoldsText}
use Rattle.values.specs.Table.{known, attribute}
use Rattle.values.specs.Values.{fits, meant, octets_of}
use Rattle.values.specs.Calls.{default_octets}
use Rattle.octets.proofs.Tests.{cond_same}
use Rattle.values.proofs.DefaultValues.{element-keeps}
use Rattle.values.proofs.Known.{known-anywhere, known-cdata, known-one, no-attribute, items-tag, attribute-high}
use Rattle.format.specs.Tree.{Items, find}
use Rattle.format.specs.Tree.Items.{end, item}
use Rattle.format.specs.Judge.{is_items, allowed, is_top}
use Rattle.format.specs.Meaning.{opens, value_in, counted, attributes_in, cdata_in, means, maybe, encode, rising}
use Rattle.format.specs.Writer.{Spot, below, past, at_top, ruled}
use Rattle.format.proofs.Kept.{keeps-parts, Ruled, ruled-parts}
use Rattle.format.proofs.Fine.{placed-parts}
use Rattle.format.proofs.Means.{items-known, means-attribute, means-cdata, means-element, means-leaf, opens-items, opens-leaf, attribute-shut, same-attributes, same-cdata, other-attribute, absent-attribute, unknown-attribute, find_first}
use Rattle.format.proofs.Order.{ruled-order, seen_none, three-end}
use Rattle.format.proofs.Defaults.{present-attribute}
use Rattle.format.proofs.Force.{attribute-one}
use Rattle.survey.specs.Normal.{value_octets, normal_size, attribute_octets}
use Rattle.survey.proofs.Rising.{rising-same, rising_none, rising-more, known-few}
use Rattle.survey.proofs.Ways.{framed-length, value-fits, item-known, item-default, Way, way}
use Rattle.survey.proofs.Ways.Way.{is_attribute, is_cdata, is_element, is_leaf}

-- what holds items is no attribute, and no attribute holds items
pub opens-no-attribute : (tag : ℕ) → opens tag ≡ true → attribute tag ≡ false
unfolding opens
opens-no-attribute tag o = no-attribute tag HoldsItems (items-known (known 0 tag) o)

-- the octets of its attributes, which any other item leaves as they are
pub attributes-same : (p tag at : ℕ) (body : List ℕ) (x y : Items) → attribute tag ≡ false → attribute_octets p (item tag at body x y) ≡ attribute_octets p y
unfolding attribute_octets
attributes-same p tag at body x y a = ap (rising 128 0x80) (same-attributes [] p tag at body x y a)

pub no-attributes : (p : ℕ) → attribute_octets p end ≡ []
unfolding attribute_octets attributes_in counted find value_in
no-attributes p = rising_none 128 0x80 (attributes_in [] p end) (λ t q l. cond_same (attribute t) none)

-- the sizes of attributes, of child elements and of the CDATA
abbrev attrs : ℕ → Items → ℕ
attrs p t = length (attribute_octets p t)

abbrev kids : Items → ℕ
kids t = length (encode (means [] t))

abbrev last : Items → ℕ
last t = length (maybe (framed 1) (cdata_in [] t))

abbrev Summed : ℕ → Items → Type 0
Summed p t = normal_size p t ≡ attrs p t + (kids t + last t)

single-size : (p tag at : ℕ) (body : List ℕ) (x y : Items) (k : Kind) → opens tag ≡ false → eqb tag 4 ≡ false → default_octets p tag body ≡ false → known p tag ≡ some k
    → normal_size p (item tag at body x y) ≡ length (framed tag (value_octets k body)) + normal_size p y
unfolding normal_size
single-size p tag at body x y k o f d e = rw (o, item-known p tag body k f d e)

default-size : (p tag at : ℕ) (body : List ℕ) (x y : Items) → opens tag ≡ false → default_octets p tag body ≡ true → normal_size p (item tag at body x y) ≡ normal_size p y
unfolding normal_size
default-size p tag at body x y o d = rw (o, item-default p tag body d) (omega arith)

sum-attribute : (s : Spot) (tag at : ℕ) (body : List ℕ) (x y : Items) (k : Kind) → attribute tag ≡ true → known s.parent tag ≡ some k → fits k body ≡ true
    → ruled (past s tag) y ≡ true → Summed s.parent y → Summed s.parent (item tag at body x y)
unfolding attributes_in counted attribute_octets find value_in past among
sum-attribute s tag at body x y k a e f r ih = go (default_octets p tag body) refl
  where
    p : ℕ
    p = s.parent

    high : 0x80 ≤ tag
    high = attribute-high tag a

    later : attributes_in [] p y tag ≡ none
    later = absent-attribute [] p y tag (λ _. seen_none y (past s tag) tag a (rw (eq-eqb tag tag refl)) (ruled-order y (past s tag) r))

    now : attributes_in [] p (item tag at body x y) tag ≡ cond (default_octets p tag body) none (some (meant [] k body))
    now = present-attribute [] p (item tag at body x y) tag k body a e (find_first tag at body x y) f

    unchanged : (kids (item tag at body x y) ≡ kids y) × (last (item tag at body x y) ≡ last y)
    unchanged = (
      ap (λ z. length (encode z)) (means-attribute [] tag at body x y a),
      ap (λ z. length (maybe (framed 1) z)) (same-cdata [] tag at body x y (attribute-one tag a)),
    )

    same_at : (d : default_octets p tag body ≡ true) (t : ℕ) (b : Bool) → eqb t tag ≡ b → attributes_in [] p (item tag at body x y) t ≡ attributes_in [] p y t
    same_at d t true q =
        subst (λ w. attributes_in [] p (item tag at body x y) w ≡ attributes_in [] p y w) (sym (eqb-true t tag q)) (now ∙ (rw d (sym later)))
    same_at d t false q = other-attribute [] p tag at body x y t (eqb-false t tag q)

    go : (b : Bool) → default_octets p tag body ≡ b → Summed p (item tag at body x y)
    go true d =
        let one = default-size p tag at body x y (attribute-shut tag a) d in
        let same = rising-same 128 0x80 (attributes_in [] p (item tag at body x y)) (attributes_in [] p y) (λ t w. same_at d t (eqb t tag) refl) in
        rw (one, same, unchanged.0, unchanged.1) ih
    go false d =
        let one = single-size p tag at body x y k (attribute-shut tag a) (ne_eqb tag 4 (λ z. omega (arith, high))) d e in
        let more =
        rising-more 128 0x80 tag (attributes_in [] p (item tag at body x y)) (attributes_in [] p y) (meant [] k body) (now ∙ rw d) later
        (λ t ne. other-attribute [] p tag at body x y t ne) high (omega (arith, known-few p tag k e)) in
        let v : length (framed tag (value_octets k body)) ≡ length (framed tag (octets_of (meant [] k body))) = ap (λ o. length (framed tag o)) (value-fits k body f) in
        omega (arith, unchanged.0, unchanged.1)

sum-cdata : (p at : ℕ) (body : List ℕ) (x : Items) → Summed p (item 1 at body x end)
unfolding normal_size find cdata_in maybe means encode value_octets fits meant octets_of attribute is_items
sum-cdata p at body x =
    let one = single-size p 1 at body x end HoldsText (opens-leaf 1 HoldsText known-one refl) refl (element-keeps p 1 body refl) (known-cdata p) in
    let a : attrs p (item 1 at body x end) ≡ 0 = ap length (attributes-same p 1 at body x end refl ∙ no-attributes p) in
    let m : kids (item 1 at body x end) ≡ 0 = ap (λ z. length (encode z)) (means-cdata [] at body x end) in
    omega arith

sum-element : (p tag at : ℕ) (body : List ℕ) (x y : Items) → known 0 tag ≡ some HoldsItems → Summed tag x → Summed p y → Summed p (item tag at body x y)
unfolding normal_size encode attribute_octets
sum-element p tag at body x y e fx fy =
    let g = items-tag tag e in
    let whole : List ℕ = attribute_octets tag x ++ (encode (means [] x) ++ maybe (framed 1) (cdata_in [] x)) in
    let inner : normal_size tag x ≡ length whole = rw (length-append, length-append) fx in
    let size : normal_size p (item tag at body x y) ≡ length (framed tag whole) + normal_size p y =
    rw (opens-items tag e, inner) (ap (λ n. n + normal_size p y) (sym (framed-length tag whole))) in
    let m : kids (item tag at body x y) ≡ length (framed tag whole) + kids y =
    ap (λ z. length (encode z)) (means-element [] tag at body x y e) ∙ length-append (framed tag whole) (encode (means [] y)) in
    let a : attrs p (item tag at body x y) ≡ attrs p y = ap length (attributes-same p tag at body x y g.not_attribute) in
    let l : last (item tag at body x y) ≡ last y = ap (λ z. length (maybe (framed 1) z)) (same-cdata [] tag at body x y g.not_cdata) in
    omega arith

abbrev Sized : Items → Type 0
Sized t = (s : Spot) → ruled s t ≡ true → Summed s.parent t

sized-item : (tag at : ℕ) (body : List ℕ) (x y : Items) → Sized x → Sized y → Sized (item tag at body x y)
unfolding below past encode
sized-item tag at body x y fx fy s h = go (way s tag body x y u)
  where
    u : Ruled s tag body x y
    u = ruled-parts s tag at body x y h

    go : Way s.parent tag body y → Summed s.parent (item tag at body x y)
    go (is_attribute k a e f) = sum-attribute s tag at body x y k a e f u.beside (fy (past s tag) u.beside)
    go (is_cdata q z) = subst (λ v. Summed s.parent (item tag at body x v)) z (subst (λ m. Summed s.parent (item m at body x end)) q (sum-cdata s.parent at body x))
    go (is_element e) = sum-element s.parent tag at body x y e (fx (below s tag) u.within) (fy (past s tag) u.beside)
    go (is_leaf k g e l o) =
        let p = s.parent in
        let one = single-size p tag at body x y k (opens-leaf tag k e l) g.not_table (element-keeps p tag body g.not_attribute) (known-anywhere p tag g.not_attribute ∙ e) in
        let m : kids (item tag at body x y) ≡ length (framed tag (value_octets k body)) + kids y =
        ap (λ z. length (encode z)) (means-leaf [] tag at body x y k g e l)
        ∙ (ap (λ v. length (framed tag v ++ encode (means [] y))) o ∙ length-append (framed tag (value_octets k body)) (encode (means [] y))) in
        let a : attrs p (item tag at body x y) ≡ attrs p y = ap length (attributes-same p tag at body x y g.not_attribute) in
        let q : last (item tag at body x y) ≡ last y = ap (λ z. length (maybe (framed 1) z)) (same-cdata [] tag at body x y g.not_cdata) in
        let later : Summed p y = fy (past s tag) u.beside in
        omega arith

sized : (t : Items) → Sized t
unfolding normal_size means encode cdata_in find maybe
sized end s h = let e : attrs s.parent end ≡ 0 = ap length (no-attributes s.parent) in omega arith
sized (item tag at body x y) s h = sized-item tag at body x y (sized x) (sized y) s h

-- the body of an element: what `encode` frames
pub size-inside : (tag : ℕ) (x : Items) (s : Spot) → s.parent ≡ tag → ruled s x ≡ true
    → length (rising 128 0x80 (attributes_in [] tag x) ++ (encode (means [] x) ++ maybe (framed 1) (cdata_in [] x))) ≡ normal_size tag x
unfolding attribute_octets
size-inside tag x s e r = rw (length-append, length-append) (sym (subst (λ p. Summed p x) e (sized x s r)))

-- the top has no attribute and no CDATA beside it
pub record Alone (t : Items) : Type 0 where
  pub attributes : attribute_octets 0 t ≡ []
  pub cdata : cdata_in [] t ≡ none

no-top-attribute : (t : ℕ) (i : Items) → attributes_in [] 0 i t ≡ none
no-top-attribute t i = go (known 0 t) refl
  where
    go : (k : Option Kind) → known 0 t ≡ k → attributes_in [] 0 i t ≡ none
    go none e = unknown-attribute [] 0 i t e
    go (some k) e = absent-attribute [] 0 i t (λ a. absurd (false≢true (sym (no-attribute t k e) ∙ a)))

pub top-alone : (t : Items) → ruled at_top t ≡ true → Alone t
unfolding attribute_octets cdata_in find past at_top allowed is_top
top-alone t h = record { attributes = rising_none 128 0x80 (attributes_in [] 0 t) (λ a q l. no-top-attribute a t); cdata = ap (map (expanded [])) (go t h) }
  where
    go : (t : Items) → ruled at_top t ≡ true → find 1 t ≡ none
    go end h = refl
    go (item tag at body x y) h =
        let u = ruled-parts at_top tag at body x y h in
        let w : end ≡ y = three-end y (past at_top tag) refl (ruled-order y (past at_top tag) u.beside) in
        let o = placed-parts at_top tag (keeps-parts at_top tag body u.rules).place in
        rw (ne_eqb 1 tag (λ z. false≢true (subst (λ m. allowed 0 m ≡ true) (sym z) o.allow)), sym w)

-- the whole
pub size-whole : (t : Items) → ruled at_top t ≡ true → normal_size 0 t ≡ length (encode (means [] t))
unfolding maybe at_top
size-whole t h =
    let a = top-alone t h in
    let x : attrs 0 t ≡ 0 = ap length a.attributes in
    let y : last t ≡ 0 = ap (λ z. length (maybe (framed 1) z)) a.cdata in
    let all = sized t at_top h in
    omega arith
