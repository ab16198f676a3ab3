-- Records that lie in order, record by record, are those of a packed tree, and fill the store as far as it does.
use mathlib.Core.Path.{◌≡◌, refl, sym, ap, ap₂, ◌∙◌, subst}
use mathlib.Core.Bool.{Bool, true, false, cond, ◌&&◌, false≢true}
use mathlib.Core.Option.{Option, none, some}
use mathlib.Core.List.{List, [], ◌∷◌, ◌++◌}
use Prim.Native.Nat.{ℕ, suc, ◌+◌, ◌-◌, ◌<◌}
use native.Mathlib.Nat.{add-zero, zero-add}
use native.Mathlib.Omega.{arith}
use lib.Dec.{eqb, leb}
use lib.ListN.{length, take, drop, length-append}
use borrow.Author.Tests.{eq-eqb, ne_eqb, eqb-true, le-leb}
use Rattle.octets.proofs.Tests.{and_left, and_right}
use Rattle.values.specs.declared.Kind.{Kind}
use Rattle.values.specs.declared.Kind.TheVariants.{HoldsItems, HoldsTokens, HoldsText, HoldsPlain, HoldsTime, HoldsBearer, HoldsNumber}
use Rattle.values.specs.Table.{known}
use Rattle.values.specs.Values.{fits}
use Rattle.values.specs.Calls.{normal_octets}
use Rattle.format.specs.declared.Record.{Record}
use Rattle.format.specs.Tree.{Items, count, records, record_of, records_of}
use Rattle.format.specs.Tree.Items.{end, item}
use Rattle.format.specs.Judge.{is_known, is_items, is_tokens, is_value}
use Rattle.format.specs.Meaning.{opens}
use Rattle.format.specs.Writer.{Spot, below, past, at_top, onward, ruled}
use Rattle.format.specs.Loaded.{stored, store_in, loaded_in}
use Rattle.format.specs.Same.{same_octets}
use Rattle.format.specs.State.{packed, same_items}
use Rattle.format.proofs.Kept.{Ruled, Kept, end_is, ruled-parts, keeps-parts, keeps-tag}
use Rattle.format.proofs.Fine.{known_is, placed-parts}
use Rattle.format.proofs.Force.{top-known}
use Rattle.format.proofs.Means.{items-known, items-opens, opens-items}
use Rattle.format.proofs.Order.{ruled-order, three-end}
use Rattle.format.proofs.Spans.{Located, part-span}
use Rattle.format.proofs.Rebuilt.{Whole, whole-count}
use Rattle.format.proofs.Walk.{here-less}
use Rattle.format.proofs.Tabled.{left, left-all, left-none, Stands, item-stands, count-item}
use Rattle.format.proofs.Loading.{loaded-held, loaded-single}
use Rattle.format.proofs.Same.{same-octets, octets-exactly, tests_agree}
use Rattle.tags.specs.declared.Listed.TheVariants.{Inside}
use Rattle.tags.specs.Listed.{listed_as}
use Rattle.compare.specs.Normal.{is_written}
use Rattle.state.specs.Order.{lies_to, filled_from}
use Rattle.state.proofs.Packed.{store-held, store-single}

-- ---- tests in other groups
octets-none : (o : List ℕ) → same_octets o [] ≡ eqb (length o) 0
unfolding same_octets
octets-none [] = refl
octets-none (a ∷ o) = sym (ne_eqb (suc (length o)) 0 (λ e. omega arith))

onward-cond : (b : Bool) (k : ℕ) (f : ℕ → Option ℕ) → onward (cond b (some k) none) f ≡ cond b (f k) none
unfolding onward
onward-cond true k f = refl
onward-cond false k f = refl

group : (a b c d : Bool) (o : Option ℕ) → cond (a && b) (cond c (cond d o none) none) none ≡ cond (true && a && b && c && d) o none
group false b c d o = refl
group true false c d o = refl
group true true false d o = refl
group true true true false o = refl
group true true true true o = refl

group-single : (a b c : Bool) (o : Option ℕ) → cond (a && b) (cond c o none) none ≡ cond (true && a && b && true && c) o none
group-single false b c o = refl
group-single true false c o = refl
group-single true true false o = refl
group-single true true true o = refl

-- what is answered may know what the test tells
cond-known : (a : Bool) (u v : Option ℕ) → (a ≡ true → u ≡ v) → cond a u none ≡ cond a v none
cond-known false u v f = refl
cond-known true u v f = f refl

-- ---- what is listed of an item
listed-inside : (p tag : ℕ) → opens tag ≡ true → listed_as (known p tag) ≡ Inside
unfolding listed_as
listed-inside p tag o = ap listed_as (items-known (known p tag) (items-opens p tag ∙ o))

-- where a value lies, by its kind
value_to : Option Kind → (at : ℕ) → List ℕ → (start size : ℕ) → Option ℕ
value_to k at lent start size = cond (eqb start at && (leb (start + size) (length lent) && is_written k (take size (drop start lent)))) (some (start + size)) none

listed-value : (k : Option Kind) → is_known k ≡ true → is_items k ≡ false → is_tokens k ≡ false → (at : ℕ) (lent : List ℕ) (start size : ℕ)
    → lies_to (listed_as k) at lent start size ≡ value_to k at lent start size
unfolding listed_as lies_to is_known is_items is_tokens value_to
listed-value none h i t at lent start size = absurd (false≢true h)
listed-value (some HoldsItems) h i t at lent start size = absurd (false≢true (sym i))
listed-value (some HoldsTokens) h i t at lent start size = absurd (false≢true (sym t))
listed-value (some HoldsText) h i t at lent start size = refl
listed-value (some HoldsPlain) h i t at lent start size = refl
listed-value (some HoldsTime) h i t at lent start size = refl
listed-value (some HoldsBearer) h i t at lent start size = refl
listed-value (some (HoldsNumber n)) h i t at lent start size = refl

octets-turned : (a b : List ℕ) → same_octets a b ≡ same_octets b a
octets-turned a b = tests_agree {A = a ≡ b} (same_octets a b) (same_octets b a) (octets-exactly a b) ((λ h. sym (same-octets b a h)), (λ e. (octets-exactly b a).1 (sym e)))

-- a body that keeps the rules is a value of its kind
own-ruled : (s : Spot) (tag : ℕ) (body : List ℕ) → Kept s tag body (known s.parent tag) → is_written (known s.parent tag) body ≡ same_octets body (stored [] (known s.parent tag) body)
unfolding is_written stored is_value normal_octets
own-ruled s tag body h =
    let k = known_is (known s.parent tag) h.is_one in
    let v : fits k.0 body ≡ true = rw k.1 at h.value in
    rw (k.1, v) (octets-turned (normal_octets k.0 body) body)

count-end : count end ≡ 0
unfolding count
count-end = refl

module _ (row : ℕ → Record) (n : ℕ) (lent : List ℕ) where
  abbrev tag_of : ℕ → ℕ
  tag_of j = (row j).tag

  -- the records from one on, where the store is filled up to a place
  abbrev pub fills : ℕ → ℕ → Option ℕ
  fills i at = filled_from tag_of (λ j. (row j).parent) (λ j. (row j).start) (λ j. (row j).size) lent (n - i) i at

  fills-step : (i at : ℕ) → i < n → fills i at ≡ onward (lies_to (listed_as (known (tag_of (row i).parent) (row i).tag)) at lent (row i).start (row i).size) (λ k. fills (suc i) k)
  unfolding filled_from
  fills-step i at h = let e : n - i ≡ suc (n - suc i) = omega arith in ap (λ m. filled_from tag_of (λ j. (row j).parent) (λ j. (row j).start) (λ j. (row j).size) lent m i at) e

  abbrev Flat : Items → Type 0
  Flat t = (s : Spot) (d p i j at : ℕ) → ruled s t ≡ true → Located lent t → tag_of p ≡ s.parent → left row n i ≡ records d p i t ++ left row n j → j ≡ i + count t
      → fills i at ≡ cond (same_items t (loaded_in [] s.parent at t)) (fills j (at + length (store_in [] s.parent t))) none

  flat-end : Flat end
  unfolding records loaded_in store_in same_items count
  flat-end s d p i j at r l e h c = let z : i ≡ j = omega arith in ap (λ k. fills k at) z ∙ ap (fills j) (sym (add-zero at))

  -- an element that holds items, whatever stands around it
  held_first : (d p i at tag from : ℕ) (body : List ℕ) → opens tag ≡ true → i < n → row i ≡ record_of d p tag from body → fills i at ≡ cond (eqb from 0 && eqb (length body) 0) (fills (suc i) at) none
  unfolding lies_to
  held_first d p i at tag from body o h e =
      let c = eqb from 0 && eqb (length body) 0 in
      let one : lies_to (listed_as (known (tag_of p) tag)) at lent from (length body) ≡ cond c (some at) none = rw (listed-inside (tag_of p) tag o) in
      fills-step i at h ∙ (ap (λ r. onward (lies_to (listed_as (known (tag_of r.parent) r.tag)) at lent r.start r.size) (λ k. fills (suc i) k)) e ∙ (ap (λ z. onward z (λ k. fills (suc i) k)) one ∙ onward-cond c at (λ k. fills (suc i) k)))

  flat-item : (tag from : ℕ) (body : List ℕ) (x y : Items) → Flat x → Flat y → Flat (item tag from body x y)
  unfolding same_items records below past value_to same_octets
  flat-item tag from body x y fx fy s d p i j at r l e h c = go (opens tag) refl
    where
      q : ℕ
      q = s.parent

      u : Ruled s tag body x y
      u = ruled-parts s tag from body x y r

      four : eqb tag 4 ≡ false
      four = keeps-tag s tag body u.rules

      a : Stands row n d p i j tag from body x y
      a = item-stands row n d p i j tag from body x y four h

      less : i < n
      less = here-less row n d i a.is-here

      m : ℕ
      m = suc i + count x

      last : j ≡ m + count y
      last = omega (arith, c, count-item tag from body x y four)

      end_same : (z : Items) → end ≡ z → same_items z end ≡ true
      end_same z w = subst (λ k. same_items k end ≡ true) w refl

      go : (b : Bool) → opens tag ≡ b
          → fills i at ≡ cond (same_items (item tag from body x y) (loaded_in [] s.parent at (item tag from body x y))) (fills j (at + length (store_in [] s.parent (item tag from body x y)))) none
      go true o =
          let lx = at + length (store_in [] tag x) in
          let rest = fills j (lx + length (store_in [] q y)) in
          let sx = same_items x (loaded_in [] tag at x) in
          let sy = same_items y (loaded_in [] q lx y) in
          let b = eqb from 0 && eqb (length body) 0 in
          let inner : fills (suc i) at ≡ cond sx (fills m lx) none = fx (below s tag) (suc d) i (suc i) m at u.within l.1 (ap (λ z. z.tag) a.is_row) a.inner refl in
          let later : fills m lx ≡ cond sy rest none = fy (past s tag) d p m j lx u.beside l.2 e a.later last in
          let n₁ : at + length (store_in [] q (item tag from body x y)) ≡ lx + length (store_in [] q y) =
          ap (λ z. at + length z) (store-held [] q tag from body x y four o) ∙ omega (arith, length-append (store_in [] tag x) (store_in [] q y)) in
          let tail : cond (same_items (item tag from body x y) (loaded_in [] q at (item tag from body x y))) (fills j (at + length (store_in [] q (item tag from body x y)))) none
          ≡ cond (true && eqb from 0 && eqb (length body) 0 && sx && sy) rest none =
          rw (loaded-held [] q at tag from body x y four o, n₁) (ap₂ (λ g k. cond (g && eqb from 0 && k && sx && sy) rest none) (eq-eqb tag tag refl) (octets-none body)) in
          held_first d p i at tag from body o less a.is_row
          ∙ (ap (λ z. cond b z none) (inner ∙ ap (λ z. cond sx z none) later) ∙ (group (eqb from 0) (eqb (length body) 0) sx sy rest ∙ sym tail))
      go false o =
          let own = stored [] (known q tag) body in
          let h₁ = keeps-parts s tag body u.rules in
          let none_in : end ≡ x = end_is x (rw o at u.holder) in
          let la = from + length body in
          let lo = at + length own in
          let sp = part-span lent from body l.0 in
          let rest : ℕ → Option ℕ = λ k. fills j (k + length (store_in [] q y)) in
          let sy : ℕ → Bool = λ k. same_items y (loaded_in [] q k y) in
          let same : suc i ≡ m = omega (arith, ap count none_in, count-end) in
          let later : fills m la ≡ cond (sy la) (rest la) none = fy (past s tag) d p m j la u.beside l.2 e a.later last in
          let b = eqb from at && same_octets body own in
          let one : lies_to (listed_as (known (tag_of p) tag)) at lent from (length body) ≡ cond b (some la) none =
          rw (e, listed-value (known q tag) h₁.is_one (items-opens q tag ∙ o) h₁.no_table at lent from (length body), sp.1, le-leb (from + length body) (length lent) sp.0, own-ruled s tag body h₁) in
          let first : fills i at ≡ cond b (fills (suc i) la) none =
          fills-step i at less ∙ (ap (λ z. onward (lies_to (listed_as (known (tag_of z.parent) z.tag)) at lent z.start z.size) (λ k. fills (suc i) k)) a.is_row
          ∙ (ap (λ z. onward z (λ k. fills (suc i) k)) one ∙ onward-cond b la (λ k. fills (suc i) k))) in
          let n₁ : at + length (store_in [] q (item tag from body x y)) ≡ lo + length (store_in [] q y) =
          ap (λ z. at + length z) (store-single [] q tag from body x y four o) ∙ omega (arith, length-append own (store_in [] q y)) in
          let tail : cond (same_items (item tag from body x y) (loaded_in [] q at (item tag from body x y))) (fills j (at + length (store_in [] q (item tag from body x y)))) none
          ≡ cond (true && eqb from at && same_octets body own && true && sy lo) (rest lo) none =
          rw (loaded-single [] q at tag from body x y four o, n₁) (ap₂ (λ g k. cond (g && eqb from at && same_octets body own && k && sy lo) (rest lo) none) (eq-eqb tag tag refl) (end_same x none_in)) in
          let moves : b ≡ true → cond (sy la) (rest la) none ≡ cond (sy lo) (rest lo) none =
          λ g. ap {B = Option ℕ} (λ k. cond (sy k) (rest k) none) (ap₂ ◌+◌ (eqb-true from at (and_left (eqb from at) (same_octets body own) g)) (ap length (same-octets body own (and_right (eqb from at) (same_octets body own) g)))) in
          first
          ∙ (ap (λ z. cond b z none) (ap (λ k. fills k la) same ∙ later)
          ∙ (cond-known b (cond (sy la) (rest la) none) (cond (sy lo) (rest lo) none) moves
          ∙ (group-single (eqb from at) (same_octets body own) (sy lo) (rest lo) ∙ sym tail)))

  flat : (t : Items) → Flat t
  flat end = flat-end
  flat (item tag from body x y) = flat-item tag from body x y (flat x) (flat y)

  -- the top, which holds items, has no element around it
  flat-top : (tag from : ℕ) (body : List ℕ) (x : Items) → opens tag ≡ true → Ruled at_top tag body x end → Located lent (item tag from body x end) → n ≡ count (item tag from body x end)
      → left row n 0 ≡ records 1 0 0 (item tag from body x end) ++ left row n n
      → fills 0 0 ≡ cond (same_items (item tag from body x end) (loaded_in [] 0 0 (item tag from body x end))) (some (length (store_in [] 0 (item tag from body x end)))) none
  unfolding same_items loaded_in store_in records below at_top filled_from
  flat-top tag from body x o u l c h =
      let four = keeps-tag at_top tag body u.rules in
      let a = item-stands row n 1 0 0 n tag from body x end four h in
      let sx = same_items x (loaded_in [] tag 0 x) in
      let lx = length (store_in [] tag x) in
      let long : n ≡ 1 + count x = omega (arith, c, count-item tag from body x end four, count-end) in
      let inner : fills 1 0 ≡ cond sx (fills (1 + count x) (0 + lx)) none = flat x (below at_top tag) 2 0 1 (1 + count x) 0 u.within l.1 (ap (λ z. z.tag) a.is_row) a.inner refl in
      let last : fills (1 + count x) (0 + lx) ≡ cond true (some lx) none = ap (λ k. fills k (0 + lx)) (sym long) ∙ (nothing (0 + lx) ∙ ap some (zero-add lx)) in
      let n₁ : length (store_in [] 0 (item tag from body x end)) ≡ lx = ap length (store-held [] 0 tag from body x end four o) ∙ (length-append (store_in [] tag x) [] ∙ add-zero lx) in
      let tail : cond (same_items (item tag from body x end) (loaded_in [] 0 0 (item tag from body x end))) (some (length (store_in [] 0 (item tag from body x end)))) none
      ≡ cond (true && eqb from 0 && eqb (length body) 0 && sx && true) (some lx) none =
      rw (loaded-held [] 0 0 tag from body x end four o, n₁) (ap₂ (λ g k. cond (g && eqb from 0 && k && sx && true) (some lx) none) (eq-eqb tag tag refl) (octets-none body)) in
      held_first 1 0 0 0 tag from body o (here-less row n 1 0 a.is-here) a.is_row
      ∙ (ap (λ z. cond (eqb from 0 && eqb (length body) 0) z none) (inner ∙ ap (λ z. cond sx z none) last) ∙ (group (eqb from 0) (eqb (length body) 0) sx true (some lx) ∙ sym tail))
    where
      nothing : (k : ℕ) → fills n k ≡ some k
      nothing k = let z : n - n ≡ 0 = omega arith in ap (λ m. filled_from tag_of (λ j. (row j).parent) (λ j. (row j).start) (λ j. (row j).size) lent m n k) z

  -- the records of a tree lie in order exactly where it is packed, and then take as much of the store as it does
  pub flat-packed : (t : Items) → Whole row n lent t
      → filled_from tag_of (λ j. (row j).parent) (λ j. (row j).start) (λ j. (row j).size) lent n 0 0 ≡ cond (same_items t (packed t)) (some (length (store_in [] 0 t))) none
  unfolding count past at_top
  flat-packed t w = go t refl
    where
      all : left row n 0 ≡ records_of t ++ left row n n
      all = left-all row n ∙ (sym w.records ∙ sym (left-none row n (records_of t)))

      whole : filled_from tag_of (λ j. (row j).parent) (λ j. (row j).start) (λ j. (row j).size) lent n 0 0 ≡ fills 0 0
      whole = let z : n ≡ n - 0 = omega arith in ap (λ m. filled_from tag_of (λ j. (row j).parent) (λ j. (row j).start) (λ j. (row j).size) lent m 0 0) z

      go : (u : Items) → t ≡ u
          → filled_from tag_of (λ j. (row j).parent) (λ j. (row j).start) (λ j. (row j).size) lent n 0 0 ≡ cond (same_items t (packed t)) (some (length (store_in [] 0 t))) none
      go end e = absurd (omega (arith, w.some, whole-count row n lent t w, ap count e))
      go (item tag from body x y) e =
          let r = subst (λ z. ruled at_top z ≡ true) e w.rules in
          let u = ruled-parts at_top tag from body x y r in
          let nil : end ≡ y = three-end y (past at_top tag) refl (ruled-order y (past at_top tag) u.beside) in
          let same : t ≡ item tag from body x end = e ∙ ap (item tag from body x) (sym nil) in
          let k = placed-parts at_top tag (keeps-parts at_top tag body u.rules).place in
          let o = opens-items tag (top-known tag k.allow) in
          let v = ruled-parts at_top tag from body x end (subst (λ z. ruled at_top z ≡ true) same w.rules) in
          let l = subst (Located lent) same w.located in
          let f = flat-top tag from body x o v l (whole-count row n lent t w ∙ ap count same) (subst (λ z. left row n 0 ≡ records_of z ++ left row n n) same all) in
          whole ∙ (f ∙ ap {B = Option ℕ} (λ z. cond (same_items z (packed z)) (some (length (store_in [] 0 z))) none) (sym same))
