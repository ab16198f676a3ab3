-- A tree whose items are told has a well-formed meaning.
use mathlib.Core.Path.{◌≡◌, refl, sym, ap, ◌∙◌, subst}
use mathlib.Core.Bool.{Bool, true, false, cond, not, ◌&&◌, ◌||◌, false≢true}
use mathlib.Core.Option.{Option, none, some}
use mathlib.Core.List.{List}
use Prim.Native.Nat.{ℕ, ◌≤◌, ◌<◌}
use native.Mathlib.Omega.{arith}
use lib.Dec.{eqb, leb}
use borrow.Author.Tests.{leb-true, le-leb, eqb-true, ne_eqb}
use Rattle.octets.specs.Numbers.{among, Octets}
use Rattle.text.specs.Text.{text}
use Rattle.text.specs.Tokens.{Entries, expanded}
use Rattle.values.specs.declared.Kind.{Kind}
use Rattle.values.specs.declared.Kind.TheVariants.{HoldsItems, HoldsText, HoldsPlain}
use Rattle.values.specs.Table.{known, attribute}
use Rattle.values.specs.Values.{Value, meant, is_default}
use Rattle.values.specs.Proper.{Proper}
use Rattle.format.specs.Tree.{Items, find}
use Rattle.format.specs.Tree.Items.{end, item}
use Rattle.format.specs.Judge.{is_known, is_items, is_text, is_value, allowed, latest, stage_after, shown}
use Rattle.format.specs.Meaning.{Meaning, value_in, counted, attributes_in, cdata_in, leaf_octets, means}
use Rattle.format.specs.Meaning.Meaning.{nothing, element, leaf}
use Rattle.format.specs.WellFormed.{ValueOk, AttributeOk, CdataOk, PlaceOk, LeafOk, WellFormed, ObjectOk}
use Rattle.format.specs.WellFormed.LeafOk.{language, plainly}
use Rattle.format.specs.Writer.{Spot, below, past, at_top, placed}
use Rattle.octets.proofs.Tests.{and_left, and_right}
use Rattle.text.proofs.Expansion.{Sound, expanded-text, shown-expanded}
use Rattle.values.proofs.Values.{fits-proper}
use Rattle.values.proofs.Known.{ElementTag, items-tag, plain-tag, language-tag, known-anywhere, known-cdata, known-six, attribute-kind, Stands, stands}
use Rattle.values.proofs.Known.Stands.{stands-items, stands_plain, stands-cdata, stands-table, stands-language}
use Rattle.format.proofs.Means.{means-attribute, means-cdata, means-table, means-element, means-leaf, leaf-text}
use Rattle.format.proofs.Force.{attribute-one, swap-eqb, top-known}
use Rattle.format.proofs.Told.{Told, ItemTold, KindTold}

-- rules 4 and 6 to 8, apart
pub record Placed (s : Spot) (tag : ℕ) : Type 0 where
  pub allow : allowed s.parent tag ≡ true
  pub order : leb s.stage (latest tag) ≡ true
  pub deep : attribute tag || eqb tag 1 || leb s.depth 16 ≡ true
  pub once : not (attribute tag && among tag s.seen) ≡ true

pub placed-parts : (s : Spot) (tag : ℕ) → placed s tag ≡ true → Placed s tag
unfolding placed
placed-parts s tag h =
    let a = allowed s.parent tag in
    let b = leb s.stage (latest tag) in
    let c = attribute tag || eqb tag 1 || leb s.depth 16 in
    let d = not (attribute tag && among tag s.seen) in
    let abc = and_left (a && b && c) d h in
    record { allow = and_left a b (and_left (a && b) c abc); order = and_right a b (and_left (a && b) c abc); deep = and_right (a && b) c abc; once = and_right (a && b && c) d h }

place_ok : (s : Spot) (tag : ℕ) → Placed s tag → attribute tag ≡ false → eqb tag 1 ≡ false → PlaceOk s.parent s.depth s.stage tag
place_ok s tag p a o = record { allow = p.allow; order = p.order; deep = rw (a, o) at p.deep }

-- elements that may stand at a later stage may stand at an earlier one
place-stage : (p d s r tag : ℕ) → s ≤ r → PlaceOk p d r tag → PlaceOk p d s tag
place-stage p d s r tag h ok = record { allow = ok.allow; order = le-leb s (latest tag) (omega (arith, leb-true r (latest tag) ok.order)); deep = ok.deep }

wf-stage : (p d s r : ℕ) → s ≤ r → (m : Meaning) → WellFormed p d r m → WellFormed p d s m
wf-stage p d s r h nothing ok = tt
wf-stage p d s r h (element tag f kids cdata after) ok = (place-stage p d s r tag h ok.0, ok.1, ok.2, ok.3, ok.4, ok.5)
wf-stage p d s r h (leaf tag o after) ok = (place-stage p d s r tag h ok.0, ok.1, ok.2)

stage-least : (tag : ℕ) → stage_after tag ≤ 3
unfolding stage_after
stage-least tag = go (attribute tag) (eqb tag 4) (eqb tag 1)
  where
    go : (a f o : Bool) → cond a 0 (cond f 1 (cond o 3 2)) ≤ 3
    go true f o = omega arith
    go false true o = omega arith
    go false false true = omega arith
    go false false false = omega arith

pub stage-past : (s : Spot) (tag : ℕ) → stage_after tag ≤ (past s tag).stage
unfolding past
stage-past s tag = go (eqb s.parent 0)
  where
    go : (b : Bool) → stage_after tag ≤ cond b 3 (stage_after tag)
    go true = stage-least tag
    go false = omega arith

pub stage-up : (s : Spot) (tag : ℕ) → Placed s tag → s.stage ≤ stage_after tag
unfolding latest stage_after
stage-up s tag p = go (attribute tag) (eqb tag 4) (eqb tag 6) (eqb tag 1) (leb-true s.stage (latest tag) p.order)
  where
    go : (a f x o : Bool) → s.stage ≤ cond (a || f) 0 (cond x 1 2) → s.stage ≤ cond a 0 (cond f 1 (cond o 3 2))
    go true f x o h = h
    go false true x o h = omega arith
    go false false true true h = omega arith
    go false false true false h = omega arith
    go false false false true h = omega arith
    go false false false false h = h

-- what the items of an element mean: well-formed child elements, CDATA and attributes
pub record Fine (T : Entries) (s : Spot) (t : Items) : Type 0 where
  pub children : WellFormed s.parent s.depth s.stage (means T t)
  pub cdata : CdataOk s.parent (cdata_in T t)
  pub attributes : (a : ℕ) → attribute a ≡ true → ValueOk s.parent a (value_in T (find a t) (known s.parent a))

fine_end : (T : Entries) (s : Spot) → Fine T s end
unfolding means cdata_in find value_in
fine_end T s = record { children = tt; cdata = tt; attributes = λ a p. tt }

-- the text of an item, expanded
pub told_text : (T : Entries) (p tag : ℕ) (body : List ℕ) → Sound T → KindTold T p tag body (some HoldsText) → text false (expanded T body) ≡ true
unfolding is_text
told_text T p tag body ok k = expanded-text T ok body k.valid k.covers

-- the value of an attribute
pub told-proper : (T : Entries) (p tag : ℕ) (body : List ℕ) (k : Kind) → Sound T → Octets body → attribute tag ≡ true → known p tag ≡ some k → KindTold T p tag body (some k)
    → Proper k (meant T k body)
unfolding is_value
told-proper T p tag body k ok os a e h =
    fits-proper T k body os (attribute-kind p tag k a e) h.value (λ q. told_text T p tag body ok (subst (λ x. KindTold T p tag body (some x)) q h))

-- an item that adds no element to its later brothers
later-children : (T : Entries) (s : Spot) (tag : ℕ) (u : Items) → Placed s tag → Fine T (past s tag) u → WellFormed s.parent s.depth s.stage (means T u)
unfolding past
later-children T s tag u p g =
    wf-stage s.parent s.depth s.stage (past s tag).stage (omega (arith, stage-up s tag p, stage-past s tag)) (means T u) g.children

-- one that does
next-children : (T : Entries) (s : Spot) (tag : ℕ) (u : Items) → Fine T (past s tag) u → WellFormed s.parent s.depth (stage_after tag) (means T u)
unfolding past
next-children T s tag u g = wf-stage s.parent s.depth (stage_after tag) (past s tag).stage (stage-past s tag) (means T u) g.children

fine-attribute : (T : Entries) (s : Spot) (tag at : ℕ) (body : List ℕ) (u : Items) (k : Kind) → Sound T → Placed s tag → tag < 256 → Octets body → attribute tag ≡ true → known s.parent tag ≡ some k
    → KindTold T s.parent tag body (some k) → (x : Items) → Fine T (past s tag) u → Fine T s (item tag at body x u)
unfolding past cdata_in find value_in
fine-attribute T s tag at body u k ok p o os a e h x g = record {
  children = rw (means-attribute T tag at body x u a) (later-children T s tag u p g);
  cdata = rw (swap-eqb tag 1 (attribute-one tag a)) g.cdata;
  attributes = λ b q. go b q (eqb b tag) refl;
}
  where
    go : (b : ℕ) → attribute b ≡ true → (z : Bool) → eqb b tag ≡ z → ValueOk s.parent b (value_in T (cond z (some body) (find b u)) (known s.parent b))
    go b q false w = g.attributes b q
    go b q true w = rw (eqb-true b tag w, e) (a, o, (k, e, told-proper T s.parent tag body k ok os a e h))

-- an item that is no attribute leaves the attributes of an element as they are, and one that is not CDATA its CDATA
other-attributes : (T : Entries) (s : Spot) (tag at : ℕ) (body : List ℕ) (x u : Items) → attribute tag ≡ false → Fine T (past s tag) u
    → (a : ℕ) → attribute a ≡ true → ValueOk s.parent a (value_in T (find a (item tag at body x u)) (known s.parent a))
unfolding past find
other-attributes T s tag at body x u n g a p = rw (ne_eqb a tag (λ e. false≢true (sym n ∙ (ap attribute (sym e) ∙ p)))) (g.attributes a p)

other-cdata : (T : Entries) (s : Spot) (tag at : ℕ) (body : List ℕ) (x u : Items) → eqb tag 1 ≡ false → Fine T (past s tag) u → CdataOk s.parent (cdata_in T (item tag at body x u))
unfolding past find cdata_in
other-cdata T s tag at body x u o g = rw (swap-eqb tag 1 o) g.cdata

fine-cdata : (T : Entries) (s : Spot) (at : ℕ) (body : List ℕ) (x u : Items) → Sound T → Placed s 1 → KindTold T s.parent 1 body (known s.parent 1) → Fine T (past s 1) u
    → Fine T s (item 1 at body x u)
unfolding cdata_in find attribute is_text
fine-cdata T s at body x u ok p h g =
    let k : KindTold T s.parent 1 body (some HoldsText) = rw (known-cdata s.parent) at h in
    record {
      children = rw (means-cdata T at body x u) (later-children T s 1 u p g);
      cdata = (told_text T s.parent 1 body ok k, ap (shown s.parent 1) (shown-expanded T body) ∙ k.short);
      attributes = other-attributes T s 1 at body x u refl g;
    }

fine-table : (T : Entries) (s : Spot) (at : ℕ) (body : List ℕ) (x u : Items) → Placed s 4 → Fine T (past s 4) u → Fine T s (item 4 at body x u)
unfolding attribute
fine-table T s at body x u p g = record {
  children = rw (means-table T at body x u) (later-children T s 4 u p g);
  cdata = other-cdata T s 4 at body x u refl g;
  attributes = other-attributes T s 4 at body x u refl g;
}

-- an element before its later brothers, from what it means itself
fine-beside : (T : Entries) (s : Spot) (tag at : ℕ) (body : List ℕ) (x u : Items) → ElementTag tag → WellFormed s.parent s.depth s.stage (means T (item tag at body x u)) → Fine T (past s tag) u
    → Fine T s (item tag at body x u)
fine-beside T s tag at body x u t w g = record {
  children = w;
  cdata = other-cdata T s tag at body x u t.not_cdata g;
  attributes = other-attributes T s tag at body x u t.not_attribute g;
}

-- a value that counts is none or is not its default
counted-ok : (p a : ℕ) (o : Option Value) → ValueOk p a o → AttributeOk p a (counted p a o)
unfolding counted
counted-ok p a none h = record { value = tt; counts = refl }
counted-ok p a (some v) h = go (is_default p a v) refl
  where
    go : (b : Bool) → is_default p a v ≡ b → AttributeOk p a (cond b none (some v))
    go true e = record { value = tt; counts = refl }
    go false e = record { value = h; counts = rw e }

fine-element : (T : Entries) (s : Spot) (tag at : ℕ) (body : List ℕ) (x u : Items) → Placed s tag → known 0 tag ≡ some HoldsItems → Fine T (below s tag) x → Fine T (past s tag) u
    → Fine T s (item tag at body x u)
unfolding below attributes_in counted
fine-element T s tag at body x u p e f g =
    let t = items-tag tag e in
    fine-beside T s tag at body x u t
    (rw (means-element T tag at body x u e) (place_ok s tag p t.not_attribute t.not_cdata, e, (λ a. go a (attribute a) refl), f.children, f.cdata, next-children T s tag u g)) g
  where
    go : (a : ℕ) (b : Bool) → attribute a ≡ b → AttributeOk tag a (cond b (counted tag a (value_in T (find a x) (known tag a))) none)
    go a true q = counted-ok tag a (value_in T (find a x) (known tag a)) (f.attributes a q)
    go a false q = counted-ok tag a none tt

fine-leaf : (T : Entries) (s : Spot) (tag at : ℕ) (body : List ℕ) (x u : Items) (k : Kind) → Placed s tag → ElementTag tag → known 0 tag ≡ some k → is_items (some k) ≡ false
    → LeafOk tag (leaf_octets T tag body) → Fine T (past s tag) u → Fine T s (item tag at body x u)
fine-leaf T s tag at body x u k p t e l ok g =
    fine-beside T s tag at body x u t
    (rw (means-leaf T tag at body x u k t e l) (place_ok s tag p t.not_attribute t.not_cdata, ok, next-children T s tag u g)) g

-- an item that is no attribute, by its kind
fine-known : (T : Entries) (s : Spot) (tag at : ℕ) (body : List ℕ) (x u : Items) {k : Kind} → Sound T → Placed s tag → Stands tag k → KindTold T s.parent tag body (known s.parent tag)
    → Fine T (below s tag) x → Fine T (past s tag) u → Fine T s (item tag at body x u)
unfolding is_items attribute
fine-known T s tag at body x u ok p (stands-items e) h f g = fine-element T s tag at body x u p e f g
fine-known T s tag at body x u ok p (stands_plain e) h f g = fine-leaf T s tag at body x u HoldsPlain p (plain-tag tag e) e refl (plainly e) g
fine-known T s tag at body x u ok p stands-table h f g = fine-table T s at body x u p g
fine-known T s tag at body x u ok p stands-cdata h f g = fine-cdata T s at body x u ok p h g
fine-known T s tag at body x u ok p stands-language h f g =
    fine-leaf T s 6 at body x u HoldsText p language-tag known-six refl
    (language refl (rw (leaf-text T 6 body known-six) (told_text T s.parent 6 body ok (rw (known-anywhere s.parent 6 refl ∙ known-six) at h)))) g

pub known_is : (o : Option Kind) → is_known o ≡ true → (k : Kind) × (o ≡ some k)
unfolding is_known
known_is none h = absurd (false≢true h)
known_is (some k) h = (k, refl)

fine-item : (T : Entries) (s : Spot) (tag at : ℕ) (body : List ℕ) (x u : Items) → Sound T → ItemTold T s tag body x → Fine T (below s tag) x → Fine T (past s tag) u → Fine T s (item tag at body x u)
fine-item T s tag at body x u ok i f g =
    let p = placed-parts s tag i.place in
    let k = known_is (known s.parent tag) i.kind.is_one in
    go p k (attribute tag) refl
  where
    go : Placed s tag → (k : Kind) × (known s.parent tag ≡ some k) → (a : Bool) → attribute tag ≡ a → Fine T s (item tag at body x u)
    go p k true a = fine-attribute T s tag at body u k.0 ok p i.octet i.octets a k.1 (rw k.1 at i.kind) x g
    go p k false a = fine-known T s tag at body x u ok p (stands tag k.0 (sym (known-anywhere s.parent tag a) ∙ k.1)) i.kind f g

pub fine : (T : Entries) → Sound T → (t : Items) (s : Spot) → Told T s t → Fine T s t
fine T ok end s h = fine_end T s
fine T ok (item tag at body x u) s h = fine-item T s tag at body x u ok h.0 (fine T ok x (below s tag) h.1) (fine T ok u (past s tag) h.2)

-- after CDATA, as after the top, nothing comes: no item's latest stage is 3
pub three-last : (s : Spot) (tag : ℕ) → s.stage ≡ 3 → Placed s tag → ⊥
unfolding latest
three-last s tag e p = go (attribute tag || eqb tag 4) (eqb tag 6) (leb-true s.stage (latest tag) p.order)
  where
    go : (a b : Bool) → s.stage ≤ cond a 0 (cond b 1 2) → ⊥
    go true b h = omega arith
    go false true h = omega arith
    go false false h = omega arith

means-end : (T : Entries) → means T end ≡ nothing
unfolding means
means-end T = refl

-- one well-formed element is an object
object-ok : (m : Meaning) (tag : ℕ) (f : ℕ → Option Value) (kids : Meaning) (cdata : Option (List ℕ)) → m ≡ element tag f kids cdata nothing → WellFormed 0 1 0 m → ObjectOk m
object-ok m tag f kids cdata e w = subst (λ x. ObjectOk x) (sym e) (subst (λ x. WellFormed 0 1 0 x) e w)

-- the meaning of a whole tree that is told is well-formed
pub told-ok : (T : Entries) → Sound T → (t : Items) → (t ≡ end → ⊥) → Told T at_top t → ObjectOk (means T t)
unfolding at_top past
told-ok T ok end n h = absurd (n refl)
told-ok T ok (item tag at body x end) n h =
    let e = top-known tag (placed-parts at_top tag h.0.place).allow in
    object-ok (means T (item tag at body x end)) tag (attributes_in T tag x) (means T x) (cdata_in T x)
    (means-element T tag at body x end e ∙ ap (element tag (attributes_in T tag x) (means T x) (cdata_in T x)) (means-end T)) (fine T ok (item tag at body x end) at_top h).children
told-ok T ok (item tag at body x (item tag' at' body' x' u)) n h = absurd (three-last (past at_top tag) tag' refl (placed-parts (past at_top tag) tag' h.2.0.place))
