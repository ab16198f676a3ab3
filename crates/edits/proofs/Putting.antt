-- An element put in among the child elements of an element: where it then stands, and which rules that can break.
use mathlib.Core.Path.{◌≡◌, refl, sym, ap, ◌∙◌, subst}
use mathlib.Core.Bool.{Bool, true, false, cond, not, ◌&&◌, ◌||◌, false≢true}
use mathlib.Core.List.{List, [], ◌∷◌, ◌++◌, append_assoc}
use Prim.Native.Nat.{ℕ, suc, ◌+◌, ◌-◌, ◌<◌}
use native.Mathlib.Omega.{arith}
use lib.Dec.{eqb, leb}
use lib.ListN.{length, length-append}
use borrow.Author.Tests.{eqb-true, eq-eqb, leb-true, leb-false, le-leb, lt-leb}
use Rattle.octets.specs.Numbers.{among}
use Rattle.octets.proofs.Tests.{and_right, and-true, cond_same}
use Rattle.values.specs.Table.{known, attribute}
use Rattle.format.specs.declared.Record.{Record}
use Rattle.format.specs.Tree.{Items, records}
use Rattle.format.specs.Tree.Items.{end, item}
use Rattle.format.specs.Judge.{latest, stage_after}
use Rattle.format.specs.Meaning.{is_child}
use Rattle.format.specs.Writer.{Spot, below, past, placed, body_keeps, keeps, ruled}
use Rattle.format.specs.Loaded.{loaded_in}
use Rattle.format.proofs.Kept.{Ruled, ruled-parts, is-ruled, keeps-parts, keeps-tag}
use Rattle.format.proofs.Fine.{Placed, placed-parts}
use Rattle.format.proofs.NormalOctets.{child-no-attribute}
use Rattle.format.proofs.Order.{ruled-order, three-end, cdata-three}
use Rattle.edits.specs.Tree.{before, put_child, children, first_tag}
use Rattle.edits.specs.Sites.{Site, inner, beyond, records_at, Swapped}
use Rattle.edits.specs.Sites.Swapped.{here, after}
use Rattle.edits.specs.Extents.{deeper}
use Rattle.edits.specs.Insertion.{found_at}
use Rattle.edits.proofs.Swaps.{Plain}
use Rattle.edits.proofs.Sites.{record_here, records-here}
use Rattle.edits.proofs.Records.{records-length}
use Rattle.edits.proofs.ChildWalks.{walked, stop-behind, walk-attribute, walk-child, walk-stop}
use Rattle.edits.proofs.Spots.{first_in, FewAttributes, few-both, ruled-lower}

before-end : (e : Items) → before e end ≡ e
unfolding before
before-end end = refl
before-end (item tag at body x y) = ap (item tag at body x) (before-end y)

-- the place: what is behind it is swapped for the element and the same. Where the walk over the records finds it, and how many child elements it then still lacks
pub record Place (k : ℕ) (e : Items) (s : Site) (x : Items) : Type 0 where
  pub site : Site
  pub rest : Items
  pub swapped : Swapped s x (put_child k e x) site rest (before e rest)
  pub under : s.up < s.number → site.up < site.number
  pub parent : site.spot.parent ≡ s.spot.parent
  pub depth : site.spot.depth ≡ s.spot.depth
  pub up : site.up ≡ s.up
  pub later : attribute (first_tag rest) ≡ false
  pub passed : List Record
  pub splits : Plain x → records_at s x ≡ passed ++ records_at site rest
  pub long : Plain x → s.number + length passed ≡ site.number
  pub lacks : ℕ
  pub finds : (d : ℕ) → s.spot.depth ≡ suc d → Plain x → (tags depths : List ℕ) → deeper d depths ≡ 0
      → walked d k s.number (records_at s x) tags depths ≡ found_at lacks site.number
  pub enough : ruled s.spot x ≡ true → eqb lacks 0 ≡ leb k (children x)
  pub stage : eqb s.spot.parent 0 ≡ false → ruled s.spot x ≡ true → lacks ≡ 0 → site.spot.stage ≡ cond (eqb k 0) s.spot.stage 2

place_here : (k : ℕ) (e : Items) (s : Site) (x : Items) → put_child k e x ≡ before e x → attribute (first_tag x) ≡ false
    → ((d : ℕ) → s.spot.depth ≡ suc d → Plain x → (tags depths : List ℕ) → deeper d depths ≡ 0 → walked d k s.number (records_at s x) tags depths ≡ found_at k s.number)
    → (ruled s.spot x ≡ true → eqb k 0 ≡ leb k (children x)) → Place k e s x
place_here k e s x q later finds enough = record {
  site = s;
  rest = x;
  swapped = subst (λ z. Swapped s x z s x (before e x)) (sym q) (here s x (before e x));
  under = λ h. h;
  parent = refl;
  depth = refl;
  up = refl;
  later = later;
  passed = [];
  splits = λ pl. refl;
  long = λ pl. omega arith;
  lacks = k;
  finds = finds;
  enough = enough;
  stage = λ w r z. rw (eq-eqb k 0 z);
}

place_after : (k j : ℕ) (e : Items) (s : Site) (tag at : ℕ) (body : List ℕ) (x y : Items) → put_child k e (item tag at body x y) ≡ item tag at body x (put_child j e y)
    → (p : Place j e (beyond s tag body x) y)
    → ((d : ℕ) → s.spot.depth ≡ suc d → Plain (item tag at body x y) → (tags depths : List ℕ)
    → walked d k s.number (records_at s (item tag at body x y)) tags depths ≡ walked d j (beyond s tag body x).number (records_at (beyond s tag body x) y) tags depths)
    → (Ruled s.spot tag body x y → leb j (children y) ≡ leb k (children (item tag at body x y)))
    → (Ruled s.spot tag body x y → cond (eqb j 0) (stage_after tag) 2 ≡ cond (eqb k 0) s.spot.stage 2) → Place k e s (item tag at body x y)
unfolding past
place_after k j e s tag at body x y q p walks enough stage = record {
  site = p.site;
  rest = p.rest;
  swapped = subst (λ z. Swapped s (item tag at body x y) z p.site p.rest (before e p.rest)) (sym q)
      (after s tag at body x y (put_child j e y) p.site p.rest (before e p.rest) p.swapped);
  under = λ h. p.under (omega arith);
  parent = p.parent;
  depth = p.depth;
  up = p.up;
  later = p.later;
  passed = record_here s tag body ∷ (records_at (inner s tag) x ++ p.passed);
  splits = λ pl.
      let xs = records_at (inner s tag) x in
      records-here s tag at body x y pl
      ∙ ap {B = List Record} (λ z. record_here s tag body ∷ z) (ap (λ z. xs ++ z) (p.splits pl.3) ∙ sym (append_assoc xs p.passed (records_at p.site p.rest)));
  long = λ pl. omega (arith, p.long pl.3, length-append (records_at (inner s tag) x) p.passed, records-length (inner s tag) x pl.2);
  lacks = p.lacks;
  finds = λ d h pl tags depths z. walks d h pl tags depths ∙ p.finds d h pl.3 tags depths z;
  enough = λ r. let u = ruled-parts s.spot tag at body x y r in p.enough u.beside ∙ enough u;
  stage = λ w r z.
      let u = ruled-parts s.spot tag at body x y r in
      p.stage w u.beside z ∙ (ap (λ b. cond (eqb j 0) (cond b 3 (stage_after tag)) 2) w ∙ stage u);
}

put-here : (k : ℕ) (e : Items) (tag at : ℕ) (body : List ℕ) (x y : Items) → attribute tag ≡ false → eqb k 0 || eqb tag 1 ≡ true
    → put_child k e (item tag at body x y) ≡ before e (item tag at body x y)
unfolding put_child
put-here k e tag at body x y a b = rw (a, b)

put-attribute : (k : ℕ) (e : Items) (tag at : ℕ) (body : List ℕ) (x y : Items) → attribute tag ≡ true
    → put_child k e (item tag at body x y) ≡ item tag at body x (put_child k e y)
unfolding put_child
put-attribute k e tag at body x y a = rw a

put-child : (k : ℕ) (e : Items) (tag at : ℕ) (body : List ℕ) (x y : Items) → attribute tag ≡ false → eqb k 0 || eqb tag 1 ≡ false
    → put_child k e (item tag at body x y) ≡ item tag at body x (put_child (k - 1) e y)
unfolding put_child
put-child k e tag at body x y a b = rw (a, b)

-- the stage behind a child element
child-stage : (tag : ℕ) → is_child tag ≡ true → stage_after tag ≡ 2
unfolding is_child stage_after
child-stage tag h = go (attribute tag) (eqb tag 1) (eqb tag 4) h
  where
    go : (a b c : Bool) → not (a || b || c) ≡ true → ◌≡◌ {A = ℕ} (cond a 0 (cond c 1 (cond b 3 2))) 2
    go true b c g = absurd (false≢true g)
    go false true c g = absurd (false≢true g)
    go false false true g = absurd (false≢true g)
    go false false false g = refl

-- no child element comes behind the CDATA, so where the walk stops there with some to pass, there are too few
few-here : (k : ℕ) (s : Site) (tag at : ℕ) (body : List ℕ) (x y : Items) → eqb k 0 || eqb tag 1 ≡ true → Ruled s.spot tag body x y
    → eqb k 0 ≡ leb k (children (item tag at body x y))
unfolding children is_child past attribute
few-here k s tag at body x y b u = go (eqb k 0) refl b
  where
    go : (c : Bool) → eqb k 0 ≡ c → c || eqb tag 1 ≡ true → c ≡ leb k (children (item tag at body x y))
    go true c f = sym (le-leb k (children (item tag at body x y)) (omega (arith, eqb-true k 0 c)))
    go false c f =
        let z : 1 ≡ tag = sym (eqb-true tag 1 f) in
        let none : end ≡ y = three-end y (past s.spot tag) (ap (λ m. (past s.spot m).stage) (sym z) ∙ cdata-three s.spot) (ruled-order y (past s.spot tag) u.beside) in
        let few : children (item tag at body x y) ≡ 0 = ap (λ m. cond (is_child m) (suc (children y)) (children y)) (sym z) ∙ ap children (sym none) in
        let some : (k ≡ 0 → ⊥) = λ w. false≢true (sym c ∙ eq-eqb k 0 w) in
        sym (ap (leb k) few ∙ lt-leb k 0 (omega (arith, some)))

-- an attribute is no child element, and stands where nothing but attributes came
attribute-children : (k : ℕ) (s : Site) (tag at : ℕ) (body : List ℕ) (x y : Items) → attribute tag ≡ true → leb k (children y) ≡ leb k (children (item tag at body x y))
unfolding children is_child
attribute-children k s tag at body x y a = rw a

attribute-stage : (k : ℕ) (s : Site) (tag : ℕ) (body : List ℕ) (x y : Items) → attribute tag ≡ true → Ruled s.spot tag body x y
    → cond (eqb k 0) (stage_after tag) 2 ≡ cond (eqb k 0) s.spot.stage 2
unfolding stage_after latest
attribute-stage k s tag body x y a u =
    let o = (placed-parts s.spot tag (keeps-parts s.spot tag body u.rules).place).order in
    let z : 0 ≡ s.spot.stage = omega (arith, leb-true s.spot.stage 0 (rw a at o)) in
    rw a (ap (λ n. cond (eqb k 0) n 2) z)

-- a child element counts
child-other : (tag : ℕ) → attribute tag ≡ false → eqb tag 1 ≡ false → eqb tag 4 ≡ false → is_child tag ≡ true
unfolding is_child
child-other tag a b c = rw (a, b, c)

child-children : (k : ℕ) (tag at : ℕ) (body : List ℕ) (x y : Items) → is_child tag ≡ true → eqb k 0 ≡ false → leb (k - 1) (children y) ≡ leb k (children (item tag at body x y))
unfolding children
child-children k tag at body x y c z =
    let some : (k ≡ 0 → ⊥) = λ w. false≢true (sym z ∙ eq-eqb k 0 w) in
    rw c (go (leb (k - 1) (children y)) refl some)
  where
    go : (b : Bool) → leb (k - 1) (children y) ≡ b → (k ≡ 0 → ⊥) → b ≡ leb k (suc (children y))
    go true e w = sym (le-leb k (suc (children y)) (omega (arith, leb-true (k - 1) (children y) e)))
    go false e w = sym (lt-leb k (suc (children y)) (omega (arith, leb-false (k - 1) (children y) e, w)))

-- the two halves of a test that failed
or-false : (a b : Bool) → a || b ≡ false → (a ≡ false) × (b ≡ false)
or-false true b h = absurd (false≢true (sym h))
or-false false b h = (refl, h)

pub place : (e : Items) (x : Items) (k : ℕ) (s : Site) → Place k e s x
unfolding put_child records loaded_in children first_tag attribute
place e end k s = place_here k e s end (sym (before-end e)) refl (λ d h p tags depths z. stop-behind d k s.number tags depths z) (λ r. zero-only k)
  where
    zero-only : (k : ℕ) → eqb k 0 ≡ leb k 0
    zero-only k = go (eqb k 0) refl
      where
        go : (b : Bool) → eqb k 0 ≡ b → b ≡ leb k 0
        go true e = sym (le-leb k 0 (omega (arith, eqb-true k 0 e)))
        go false e = let some : (k ≡ 0 → ⊥) = λ z. false≢true (sym e ∙ eq-eqb k 0 z) in sym (lt-leb k 0 (omega (arith, some)))
place e (item tag at body x y) k s = go (place e y k (beyond s tag body x)) (place e y (k - 1) (beyond s tag body x)) (attribute tag) refl (eqb k 0 || eqb tag 1) refl
  where
    go : Place k e (beyond s tag body x) y → Place (k - 1) e (beyond s tag body x) y → (a : Bool) → attribute tag ≡ a → (b : Bool) → eqb k 0 || eqb tag 1 ≡ b
        → Place k e s (item tag at body x y)
    go p q true a b f =
        place_after k k e s tag at body x y (put-attribute k e tag at body x y a) p (λ d h pl tags depths. walk-attribute s tag at body x y pl d k h tags depths a)
        (λ u. attribute-children k s tag at body x y a) (λ u. attribute-stage k s tag body x y a u)
    go p q false a true f =
        place_here k e s (item tag at body x y) (put-here k e tag at body x y a f) a (λ d h pl tags depths z. walk-stop s tag at body x y pl d k h tags depths a f)
        (λ r. few-here k s tag at body x y f (ruled-parts s.spot tag at body x y r))
    go p q false a false f =
        let g = or-false (eqb k 0) (eqb tag 1) f in
        place_after k (k - 1) e s tag at body x y (put-child k e tag at body x y a f) q (λ d h pl tags depths. walk-child s tag at body x y pl d k h tags depths a f)
        (λ u. child-children k tag at body x y (child-other tag a g.1 (keeps-tag s.spot tag body u.rules)) g.0)
        (λ u. child-after (child-other tag a g.1 (keeps-tag s.spot tag body u.rules)) g.0)
      where
        child-after : is_child tag ≡ true → eqb k 0 ≡ false → cond (eqb (k - 1) 0) (stage_after tag) 2 ≡ cond (eqb k 0) s.spot.stage 2
        child-after c z = rw (child-stage tag c, z) (cond_same (eqb (k - 1) 0) 2)

-- ---- the rules

-- an element comes no later than it may, and the item behind it may come after an element; where there is none, the tag 0 may
unfoldable pub comes_at : (stage tag : ℕ) → Items → Bool
comes_at stage tag rest = leb stage (latest tag) && leb 2 (latest (first_tag rest))

latest-attribute : (tag : ℕ) → leb 2 (latest tag) ≡ true → attribute tag ≡ false
unfolding latest
latest-attribute tag h = go (attribute tag) (eqb tag 4) (eqb tag 6) h
  where
    go : (a b c : Bool) → leb 2 (cond (a || b) 0 (cond c 1 2)) ≡ true → a ≡ false
    go false b c g = refl
    go true b c g = absurd (false≢true g)

module _ (p : Spot) (et : ℕ) (child : is_child et ≡ true) (deeper : eqb p.parent 0 ≡ false) where
  abbrev fresh : Spot
  fresh = first_in p.parent p.depth

  keeps-at : (eb : List ℕ) → keeps fresh et eb ≡ true → keeps p et eb ≡ leb p.stage (latest et)
  unfolding keeps placed
  keeps-at eb h =
      let g = keeps-parts fresh et eb h in
      let q = placed-parts fresh et g.place in
      let k = and_right (placed fresh et) (body_keeps p.parent et eb (known p.parent et)) h in
      rw (q.allow, q.deep, child-no-attribute et child, k) (go (leb p.stage (latest et)))
    where
      go : (b : Bool) → b && true && true && true ≡ b
      go true = refl
      go false = refl

  few-child : (seen : List ℕ) → FewAttributes (et ∷ seen) seen
  unfolding among
  few-child seen a e q = go (eqb a et) refl q
    where
      go : (b : Bool) → eqb a et ≡ b → b || among a seen ≡ true → among a seen ≡ true
      go false f r = r
      go true f r = absurd (false≢true (sym (child-no-attribute et child) ∙ (ap attribute (sym (eqb-true a et f)) ∙ e)))

  module _ (tag at : ℕ) (body : List ℕ) (x y : Items) (u : Ruled p tag body x y) where
    placement : Placed p tag
    placement = placed-parts p tag (keeps-parts p tag body u.rules).place

    late-item : leb 2 (latest tag) ≡ false → ruled (past p et) (item tag at body x y) ≡ false
    unfolding ruled keeps placed past
    late-item e = rw (u.holder, placement.allow, deeper, child-stage et child, e)

    early-item : leb 2 (latest tag) ≡ true → ruled (past p et) (item tag at body x y) ≡ true
    unfolding past keeps placed below
    early-item e =
        let k = and_right (placed p tag) (body_keeps p.parent tag body (known p.parent tag)) u.rules in
        let q : placed (past p et) tag ≡ true = rw (placement.allow, deeper, child-stage et child, e, placement.deep, latest-attribute tag e) in
        let few = few-both tag (et ∷ p.seen) p.seen (few-child p.seen) in
        is-ruled (past p et) tag at body x y (record {
          holder = u.holder;
          rules = and-true _ _ q k;
          within = u.within;
          beside = ruled-lower y (past p tag) u.beside (past p tag).stage (tag ∷ et ∷ p.seen) (omega arith) few;
        })

  rest_at : (rest : Items) → ruled p rest ≡ true → ruled (past p et) rest ≡ leb 2 (latest (first_tag rest))
  unfolding ruled first_tag latest attribute
  rest_at end h = refl
  rest_at (item tag at body x y) h = go (leb 2 (latest tag)) refl
    where
      go : (b : Bool) → leb 2 (latest tag) ≡ b → ruled (past p et) (item tag at body x y) ≡ b
      go false e = late-item tag at body x y (ruled-parts p tag at body x y h) e
      go true e = early-item tag at body x y (ruled-parts p tag at body x y h) e

  pub put-rules : (ea : ℕ) (eb : List ℕ) (ex rest : Items) → ruled fresh (item et ea eb ex end) ≡ true → ruled p rest ≡ true
      → ruled p (before (item et ea eb ex end) rest) ≡ comes_at p.stage et rest
  unfolding before comes_at ruled below
  put-rules ea eb ex rest h r =
      let u = ruled-parts fresh et ea eb ex end h in
      rw (u.holder, keeps-at eb u.rules, u.within, rest_at rest r) (go (leb p.stage (latest et)) (leb 2 (latest (first_tag rest))))
    where
      go : (a b : Bool) → a && true && b ≡ (a && b)
      go true b = refl
      go false b = refl
