-- Defaults in a tree (change request 2026-05): which attribute counts, by its octets; how many defaults there are; and that an element has at most two.
use mathlib.Core.Path.{◌≡◌, refl, sym, ap, ap₂, ◌∙◌, fun_ext}
use mathlib.Core.Bool.{Bool, true, false, cond, false≢true, and-false}
use mathlib.Core.Option.{Option, none, some, map}
use mathlib.Core.List.{List}
use Prim.Native.Nat.{ℕ, ◌+◌, ◌≤◌}
use native.Mathlib.Omega.{arith}
use lib.Dec.{eqb}
use lib.ListN.{length, get_or}
use borrow.Author.Tests.{eq-eqb, ne_eqb, eqb-true, eqb-false, ltb-true, lt-ltb}
use Rattle.octets.specs.Numbers.{among, Octets}
use Rattle.octets.proofs.Tests.{not_chosen, never}
use Rattle.text.specs.Tokens.{Entries, expanded}
use Rattle.values.specs.declared.Kind.{Kind}
use Rattle.values.specs.Table.{known, attribute, defaults, default_in}
use Rattle.values.specs.Values.{Value, fits, meant, is_default}
use Rattle.values.specs.Calls.{default_octets}
use Rattle.values.proofs.DefaultValues.{no_default, element-keeps, default-meant, default_none}
use Rattle.format.specs.Tree.{Items, find, without_defaults}
use Rattle.format.specs.Tree.Items.{end, item}
use Rattle.format.specs.Judge.{is_value, judge}
use Rattle.format.specs.Judge.Judged.{accepted}
use Rattle.format.specs.Meaning.{value_in, counted, attributes_in, cdata_in, means, table_of, meaning_of}
use Rattle.format.specs.Writer.{Spot, below, past, at_top}
use Rattle.format.proofs.Means.{means-attribute, default-nothing}
use Rattle.format.proofs.Force.{attribute-one, swap-eqb}
use Rattle.format.proofs.Told.{Told, ItemTold, accepted-told}
use Rattle.format.proofs.Fine.{known_is}
use Rattle.format.proofs.Order.{told-order, seen_none}
use Rattle.format.proofs.Sums.{sum, sum_same, sum-none, sum_more, sum-most}

-- an attribute counts unless its octets are its default
pub counted-octets : (T : Entries) (p a : ℕ) (k : Kind) (o : List ℕ) → known p a ≡ some k → fits k o ≡ true
    → counted p a (some (meant T k o)) ≡ cond (default_octets p a o) none (some (meant T k o))
unfolding counted
counted-octets T p a k o e f = ap (λ b. cond b none (some (meant T k o))) (sym (default-meant T p a k o e f))

-- so one that is there
pub present-attribute : (T : Entries) (p : ℕ) (t : Items) (a : ℕ) (k : Kind) (o : List ℕ) → attribute a ≡ true → known p a ≡ some k → find a t ≡ some o → fits k o ≡ true
    → attributes_in T p t a ≡ cond (default_octets p a o) none (some (meant T k o))
unfolding attributes_in value_in
present-attribute T p t a k o h e f i = rw (h, e, f) (counted-octets T p a k o e i)

-- what counts is what is there
pub counted-some : (p a : ℕ) (o : Option Value) (v : Value) → counted p a o ≡ some v → o ≡ some v
unfolding counted
counted-some p a none v h = h
counted-some p a (some w) v h = sym (not_chosen (is_default p a w) (sym h) (λ e. never (cc))).1

-- and is no default
pub counts-none : (p a : ℕ) (v : Value) → counted p a (some v) ≡ some v → is_default p a v ≡ false
unfolding counted
counts-none p a v h = (not_chosen (is_default p a v) (sym h) (λ e. never (cc))).0

-- what is a default is an attribute
pub default-attribute : (p tag : ℕ) (o : List ℕ) → default_octets p tag o ≡ true → attribute tag ≡ true
default-attribute p tag o h = go (attribute tag) refl
  where
    go : (a : Bool) → attribute tag ≡ a → a ≡ true
    go true e = refl
    go false e = absurd (false≢true (sym (element-keeps p tag o e) ∙ h))

-- ---- a tree means what it means without its defaults

record SameIn (T : Entries) (p : ℕ) (t u : Items) : Type 0 where
  children : means T t ≡ means T u
  attributes : attributes_in T p t ≡ attributes_in T p u
  cdata : cdata_in T t ≡ cdata_in T u

-- an item with the same octets
same_item : (T : Entries) (p tag at : ℕ) (body : List ℕ) (x x' u u' : Items) → SameIn T tag x x' → SameIn T p u u' → SameIn T p (item tag at body x u) (item tag at body x' u')
unfolding means attributes_in cdata_in find
same_item T p tag at body x x' u u' inside later = record {
  children = rw (inside.attributes, inside.children, inside.cdata, later.children);
  attributes = fun_ext (λ b. held b (eqb b tag));
  cdata = words (eqb 1 tag);
}
  where
    held : (b : ℕ) (s : Bool)
        → cond (attribute b) (counted p b (value_in T (cond s (some body) (find b u)) (known p b))) none
        ≡ cond (attribute b) (counted p b (value_in T (cond s (some body) (find b u')) (known p b))) none
    held b true = refl
    held b false = ap (λ f. f b) later.attributes

    words : (s : Bool) → map (expanded T) (cond s (some body) (find 1 u)) ≡ map (expanded T) (cond s (some body) (find 1 u'))
    words true = refl
    words false = later.cdata

-- a default
same-default : (T : Entries) (s : Spot) (tag at : ℕ) (body : List ℕ) (x u u' : Items) → ItemTold T s tag body x → Told T (past s tag) u → default_octets s.parent tag body ≡ true
    → SameIn T s.parent u' u → SameIn T s.parent u' (item tag at body x u)
unfolding past among cdata_in find is_value
same-default T s tag at body x u u' i h d later =
    let p = s.parent in
    let a = default-attribute p tag body d in
    let k = known_is (known p tag) i.kind.is_one in
    let fit : fits k.0 body ≡ true = rw k.1 at i.kind.value in
    let gone : find tag u ≡ none = seen_none u (past s tag) tag a (rw (eq-eqb tag tag refl)) (told-order T u (past s tag) h) in
    record {
      children = later.children ∙ sym (means-attribute T tag at body x u a);
      attributes = later.attributes ∙ sym (default-nothing T p tag at body x u k.0 k.1 (sym (default-meant T p tag k.0 body k.1 fit) ∙ d) gone);
      cdata = later.cdata ∙ rw (swap-eqb tag 1 (attribute-one tag a));
    }

same-without : (T : Entries) (t : Items) (s : Spot) → Told T s t → SameIn T s.parent (without_defaults s.parent t) t
unfolding without_defaults below past
same-without T end s h = record { children = refl; attributes = refl; cdata = refl }
same-without T (item tag at body x u) s h = go (default_octets s.parent tag body) refl (same-without T x (below s tag) h.1) (same-without T u (past s tag) h.2)
  where
    p : ℕ
    p = s.parent

    go : (d : Bool) → default_octets p tag body ≡ d → SameIn T tag (without_defaults tag x) x → SameIn T p (without_defaults p u) u
        → SameIn T p (cond d (without_defaults p u) (item tag at body (without_defaults tag x) (without_defaults p u))) (item tag at body x u)
    go true d inside later = same-default T s tag at body x u (without_defaults p u) h.0 h.2 d later
    go false d inside later = same_item T p tag at body (without_defaults tag x) x (without_defaults p u) u inside later

pub defaults-nothing : (o : List ℕ) (t : Items) → Octets o → judge o ≡ accepted t → means (table_of t) (without_defaults 0 t) ≡ meaning_of t
unfolding at_top
defaults-nothing o t os h = (same-without (table_of t) t at_top (accepted-told o t os h)).children

-- how many there are in a tree
unfoldable pub defaults_in : ℕ → Items → ℕ
defaults_in parent end = 0
defaults_in parent (item tag at body inside after) = cond (default_octets parent tag body) 1 0 + (defaults_in tag inside + defaults_in parent after)

-- where there are none, the tree is itself without them
pub none-without : (p : ℕ) (t : Items) → defaults_in p t ≡ 0 → without_defaults p t ≡ t
unfolding defaults_in without_defaults
none-without p end h = refl
none-without p (item tag at body x u) h = go (default_octets p tag body) h (λ e. none-without tag x e) (λ e. none-without p u e)
  where
    go : (d : Bool) → cond d 1 0 + (defaults_in tag x + defaults_in p u) ≡ 0 → (defaults_in tag x ≡ 0 → without_defaults tag x ≡ x) → (defaults_in p u ≡ 0 → without_defaults p u ≡ u)
        → cond d (without_defaults p u) (item tag at body (without_defaults tag x) (without_defaults p u)) ≡ item tag at body x u
    go true e inside later = absurd (omega arith)
    go false e inside later = ap₂ (λ y z. item tag at body y z) (inside (omega arith)) (later (omega arith))

-- and directly in an element
unfoldable pub own_defaults : ℕ → Items → ℕ
own_defaults parent end = 0
own_defaults parent (item tag at body inside after) = cond (default_octets parent tag body) 1 0 + own_defaults parent after

-- the object itself, as an element with the tag 0, has none
pub own-none : (t : Items) → own_defaults 0 t ≡ 0
unfolding own_defaults default_octets
own-none end = refl
own-none (item tag at body x u) =
    let none_here : default_octets 0 tag body ≡ false = rw (no_default 0 tag (get_or body 0 0) (sym (default_none 0 tag (λ e. omega arith) (λ e. omega arith) (λ e. omega arith)))) (and-false (eqb (length body) 1)) in
    rw none_here (omega (arith, own-none u))

-- ---- an element has at most two

-- whether the default of an attribute stands in an element
unfoldable default_at : ℕ → ℕ → Option (List ℕ) → ℕ
default_at p a none = 0
default_at p a (some o) = cond (default_octets p a o) 1 0

-- no attribute stands twice (rule 8)
own-sum : (T : Entries) (t : Items) (s : Spot) → Told T s t → own_defaults s.parent t ≡ sum 128 0x80 (λ a. default_at s.parent a (find a t))
unfolding own_defaults default_at find past among attribute
own-sum T end s h = sym (sum-none 128 0x80 (λ a. 0) (λ a. refl))
own-sum T (item tag at body x u) s h = go (attribute tag) refl (own-sum T u (past s tag) h.2)
  where
    here : ℕ → ℕ
    here a = default_at s.parent a (find a (item tag at body x u))

    later : ℕ → ℕ
    later a = default_at s.parent a (find a u)

    go : (b : Bool) → attribute tag ≡ b → own_defaults s.parent u ≡ sum 128 0x80 later → cond (default_octets s.parent tag body) 1 0 + own_defaults s.parent u ≡ sum 128 0x80 here
    go true a ih =
        let gone : find tag u ≡ none = seen_none u (past s tag) tag a (rw (eq-eqb tag tag refl)) (told-order T u (past s tag) h.2) in
        let more = sum_more 128 0x80 tag (cond (default_octets s.parent tag body) 1 0) here later (rw (eq-eqb tag tag refl, gone) (omega arith)) (λ b d. rw (ne_eqb b tag d))
        (omega (arith, ltb-true 0x7F tag a)) (omega (arith, h.0.octet)) in
        omega arith
    go false a ih =
        let none_here : ◌≡◌ {A = ℕ} (cond (default_octets s.parent tag body) 1 0) 0 = rw (element-keeps s.parent tag body a) in
        let same = sum_same 128 0x80 here later (λ b q. rw (ne_eqb b tag (λ e. false≢true (sym a ∙ (ap attribute (sym e) ∙ lt-ltb 0x7F b (omega arith)))))) in
        omega arith

-- an element has at most two attributes that have a default
few-tags : (p : ℕ) → sum 128 0x80 (λ a. cond (default_in p a 1 defaults) 1 0) ≤ 2
unfolding sum default_in defaults
few-tags p = go (eqb p 0x14) refl (eqb p 0x1C) refl (eqb p 0x2E) refl
  where
    Few : ℕ → Type 0
    Few q = sum 128 0x80 (λ a. cond (default_in q a 1 defaults) 1 0) ≤ 2

    few-at : (q n : ℕ) → sum 128 0x80 (λ a. cond (default_in q a 1 defaults) 1 0) ≡ n → n ≤ 2 → Few q
    few-at q n e l = omega arith

    go : (a : Bool) → eqb p 0x14 ≡ a → (b : Bool) → eqb p 0x1C ≡ b → (c : Bool) → eqb p 0x2E ≡ c → Few p
    go true a b f c g = rw (eqb-true p 0x14 a) (few-at 0x14 1 refl (omega arith))
    go false a true f c g = rw (eqb-true p 0x1C f) (few-at 0x1C 2 refl (omega arith))
    go false a false f true g = rw (eqb-true p 0x2E g) (few-at 0x2E 2 refl (omega arith))
    go false a false f false g =
        few-at p 0 (sum-none 128 0x80 (λ t. cond (default_in p t 1 defaults) 1 0) (λ t. ap (λ b. cond b 1 0) (sym (default_none p t (eqb-false p 0x14 a) (eqb-false p 0x1C f) (eqb-false p 0x2E g))))) (omega arith)

at_most : (p a : ℕ) (o : Option (List ℕ)) → default_at p a o ≤ cond (default_in p a 1 defaults) 1 0
unfolding default_at default_octets
at_most p a none = omega arith
at_most p a (some o) = go (default_in p a 1 defaults) refl (default_octets p a o) refl
  where
    go : (b : Bool) → default_in p a 1 defaults ≡ b → (c : Bool) → default_octets p a o ≡ c → cond c 1 0 ≤ cond b 1 0
    go b e false f = omega arith
    go true e true f = omega arith
    go false e true f = let w : default_octets p a o ≡ false = rw (no_default p a (get_or o 0 0) e) (and-false (eqb (length o) 1)) in absurd (false≢true (sym w ∙ f))

pub own-few : (T : Entries) (t : Items) (s : Spot) → Told T s t → own_defaults s.parent t ≤ 2
own-few T t s h =
    let all = sum-most 128 0x80 (λ a. default_at s.parent a (find a t)) (λ a. cond (default_in s.parent a 1 defaults) 1 0) (λ a. at_most s.parent a (find a t)) in
    omega (arith, own-sum T t s h, few-tags s.parent)
