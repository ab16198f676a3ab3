-- The sizes of bodies, record by record from the last: each is right exactly where all are those of the tree's normal form and that is no longer than an object may be.
use mathlib.Core.Path.{◌≡◌, refl, sym, ap, ap₂, ◌∙◌, subst}
use mathlib.Core.Bool.{Bool, true, false, cond, ◌&&◌, false≢true, and-true as and_yes, and-false}
use mathlib.Core.List.{List, [], ◌∷◌, ◌++◌}
use Prim.Native.Nat.{ℕ, zero, suc, ◌+◌, ◌≤◌, ◌<◌}
use native.Mathlib.Nat.{add-zero, zero-add}
use native.Mathlib.Omega.{arith}
use lib.Dec.{eqb, leb}
use lib.ListN.{length, take, set, replicate, length-set}
use lib.Seq.{set-set, set-get_or, get_or-set_same, get_or-set_other}
use borrow.Author.Tests.{eqb-true, le-leb, leb-true}
use Rattle.values.specs.Table.{known}
use Rattle.values.specs.Calls.{default_octets}
use Rattle.values.proofs.Known.{items-tag}
use Rattle.values.proofs.DefaultValues.{element-keeps}
use Rattle.format.specs.declared.Record.{Record}
use Rattle.format.specs.Tree.{Items, count, records, record_of, records_of}
use Rattle.format.specs.Tree.Items.{end, item}
use Rattle.format.specs.Meaning.{opens, means, encode}
use Rattle.format.specs.Writer.{Spot, below, past, at_top, ruled}
use Rattle.format.specs.Loaded.{stored, store_in, loaded_in}
use Rattle.format.specs.Same.{same_octets}
use Rattle.format.specs.State.{body_sizes, packed}
use Rattle.format.proofs.Kept.{Ruled, ruled-parts, keeps-parts, keeps-tag, end_is}
use Rattle.format.proofs.Fine.{placed-parts}
use Rattle.format.proofs.Force.{top-known}
use Rattle.format.proofs.Means.{items-known}
use Rattle.format.proofs.Order.{ruled-order, three-end}
use Rattle.format.proofs.Spans.{Located, Part, part-span}
use Rattle.format.proofs.Rebuilt.{Whole, whole-count}
use Rattle.format.proofs.Tabled.{left, left-all, left-none, Stands, item-stands, count-item}
use Rattle.format.proofs.Loading.{loaded-held, loaded-single}
use Rattle.survey.specs.Normal.{framed_size, normal_size}
use Rattle.survey.proofs.NormalSizes.{size-whole}
use Rattle.state.specs.Order.{item_adds, added_by, right_below, no_sums, nth}
use Rattle.state.proofs.HeldTree.{sizes-count}
use Rattle.state.proofs.BodySizes.{body_size, size-open, size-shut, open-counts, size-item}

-- ---- a list of sizes, one by one
unfoldable are : (ℕ → ℕ) → ℕ → List ℕ → Bool
are b i [] = true
are b i (z ∷ zs) = eqb (b i) z && are b (suc i) zs

and_assoc : (a b c : Bool) → (a && b) && c ≡ a && (b && c)
and_assoc true b c = refl
and_assoc false b c = refl

are-append : (b : ℕ → ℕ) (xs ys : List ℕ) (i : ℕ) → are b i (xs ++ ys) ≡ are b i xs && are b (i + length xs) ys
unfolding are
are-append b [] ys i = ap (λ k. are b k ys) (sym (add-zero i))
are-append b (x ∷ xs) ys i =
    let e : suc i + length xs ≡ i + suc (length xs) = omega arith in
    ap (λ z. eqb (b i) x && z) (are-append b xs ys (suc i) ∙ ap (λ k. are b (suc i) xs && are b k ys) e) ∙ sym (and_assoc (eqb (b i) x) (are b (suc i) xs) (are b (i + suc (length xs)) ys))

are-shift : (a : ℕ) (l zs : List ℕ) (i : ℕ) → are (nth (a ∷ l)) (suc i) zs ≡ are (nth l) i zs
unfolding are
are-shift a l [] i = refl
are-shift a l (z ∷ zs) i = ap (λ q. eqb (nth l i) z && q) (are-shift a l zs (suc i))

are-same : (zs l : List ℕ) (n : ℕ) → length zs ≡ n → n ≤ length l → same_octets (take n l) zs ≡ are (nth l) 0 zs
unfolding are same_octets
are-same [] l zero e h = refl
are-same [] l (suc n) e h = absurd (omega arith)
are-same (z ∷ zs) l zero e h = absurd (omega arith)
are-same (z ∷ zs) [] (suc n) e h = absurd (omega arith)
are-same (z ∷ zs) (a ∷ l) (suc n) e h = ap (λ q. eqb a z && q) (are-same zs l n (omega arith) (omega arith) ∙ sym (are-shift a l zs 0))

-- ---- the tests of an item, in another order. e: its own size is right; x, y: those inside and after it; l: the sums stay low
regroup : (e ax lx ay ly l l' r r' : Bool) → (e ≡ true → l ≡ l') → (e ≡ true → r ≡ r') → (l' ≡ true → lx ≡ true) → (l' ≡ true → ly ≡ true)
    → (ay && ly) && ((ax && lx) && (e && (l && r))) ≡ ((e && (ax && ay)) && l') && r'
regroup false ax lx ay ly l l' r r' f g h k = ap (λ z. (ay && ly) && z) (and-false (ax && lx)) ∙ and-false (ay && ly)
regroup true ax lx ay ly l l' r r' f g h k = rw (f refl, g refl) (low l' refl)
  where
    low : (z : Bool) → l' ≡ z → (ay && ly) && ((ax && lx) && (z && r')) ≡ ((ax && ay) && z) && r'
    low false q = ap (λ z. (ay && ly) && z) (and-false (ax && lx)) ∙ (and-false (ay && ly) ∙ ap (λ z. z && r') (sym (and-false (ax && ay))))
    low true q = rw (h q, k q) (both ax ay)
      where
        both : (a b : Bool) → (b && true) && ((a && true) && r') ≡ ((a && b) && true) && r'
        both true true = refl
        both true false = refl
        both false true = refl
        both false false = refl

-- an item with its header has no fewer octets than its body
framed-more : (n : ℕ) → n ≤ framed_size n
unfolding framed_size
framed-more n = omega arith

-- ---- bodies that stand in the store as they are
abbrev pub Own : ℕ → Items → Type 0
Own p end = Unit {0}
Own p (item tag at body x y) = (opens tag ≡ false → stored [] (known p tag) body ≡ body) × Own tag x × Own p y

body_of : Items → List ℕ
body_of end = []
body_of (item tag at body x y) = body

inside_of : Items → Items
inside_of end = end
inside_of (item tag at body x y) = x

after_of : Items → Items
after_of end = end
after_of (item tag at body x y) = y

pub own-packed : (t : Items) (s : Spot) (at : ℕ) → ruled s t ≡ true → loaded_in [] s.parent at t ≡ t → Own s.parent t
unfolding below past body_of inside_of after_of
own-packed end s at r e = tt
own-packed (item tag from body x y) s at r e = go (opens tag) refl (λ k. own-packed x (below s tag) k u.within) (λ k. own-packed y (past s tag) k u.beside)
  where
    u : Ruled s tag body x y
    u = ruled-parts s tag from body x y r

    four : eqb tag 4 ≡ false
    four = keeps-tag s tag body u.rules

    go : (b : Bool) → opens tag ≡ b → ((k : ℕ) → loaded_in [] tag k x ≡ x → Own tag x) → ((k : ℕ) → loaded_in [] s.parent k y ≡ y → Own s.parent y) → Own s.parent (item tag from body x y)
    go true o fx fy =
        let f = sym (loaded-held [] s.parent at tag from body x y four o) ∙ e in
        ((λ c. absurd (false≢true (sym c ∙ o))), fx at (ap inside_of f), fy (at + length (store_in [] tag x)) (ap after_of f))
    go false o fx fy =
        let f = sym (loaded-single [] s.parent at tag from body x y four o) ∙ e in
        ((λ c. ap body_of f), subst (Own tag) (ap inside_of f) tt, fy (at + length (stored [] (known s.parent tag) body)) (ap after_of f))

-- ---- sums by depth

-- a number set to what it is
set-kept : (l : List ℕ) (i x : ℕ) → nth l i ≡ x → set l i x ≡ l
set-kept l i x e = subst (λ z. set l i z ≡ l) e (set-get_or l i 0)

-- nothing is summed below a depth
abbrev Clear : ℕ → List ℕ → Type 0
Clear d sums = (k : ℕ) → d < k → nth sums k ≡ 0

clear-set : (d : ℕ) (sums : List ℕ) (v : ℕ) → Clear d sums → Clear d (set sums d v)
clear-set d sums v c k h = get_or-set_other sums d k v 0 (λ e. omega arith) ∙ c k h

module _ (row : ℕ → Record) (n : ℕ) (lent : List ℕ) (b : ℕ → ℕ) where
  abbrev right : ℕ → List ℕ → Bool
  right i sums = right_below (λ k. (row k).tag) (λ k. (row k).depth) (λ k. (row k).parent) (λ k. (row k).start) (λ k. (row k).size) b lent i sums

  -- the sums with what items of an element have in normal form
  abbrev total : Spot → Items → List ℕ → ℕ
  total s t sums = nth sums s.depth + normal_size s.parent t

  abbrev Passes : Spot → Items → (i j : ℕ) → List ℕ → Type 0
  Passes s t i j sums = right j sums ≡ (are b i (body_sizes s.parent t) && leb (total s t sums) 32_768) && right i (set sums s.depth (total s t sums))

  added_is : (q p tag from : ℕ) (body : List ℕ) → Part lent from body → default_octets (row p).tag tag body ≡ default_octets q tag body → (size : ℕ)
      → added_by (row p).tag tag from (length body) lent size ≡ item_adds q tag body size
  unfolding added_by
  added_is q p tag from body l e size = let sp = part-span lent from body l in rw (le-leb (from + length body) (length lent) sp.0, sp.1, e)

  -- what the items inside an item leave: the sums behind them, from which its own size is taken
  record Inner (s : Spot) (tag : ℕ) (body : List ℕ) (x : Items) (i m : ℕ) (sums : List ℕ) : Type 0 where
    low : Bool
    behind : List ℕ
    passes : right m sums ≡ (are b (suc i) (body_sizes tag x) && low) && right (suc i) behind
    own : cond (opens tag) (nth behind (suc s.depth)) (length body) ≡ body_size s.parent tag body x
    back : set behind (suc s.depth) 0 ≡ sums
    same : nth behind s.depth ≡ nth sums s.depth
    less : item_adds s.parent tag body (body_size s.parent tag body x) ≤ 32_768 → low ≡ true

  module _ (s : Spot) (tag from : ℕ) (body : List ℕ) (x y : Items) (p i : ℕ) (u : Ruled s tag body x y) where
    abbrev d : ℕ
    d = s.depth

    abbrev q : ℕ
    q = s.parent

    inner-held : (sums : List ℕ) → opens tag ≡ true → Clear d sums → length sums ≡ 18 → suc d < 18 → Passes (below s tag) x (suc i) (suc i + count x) sums → Inner s tag body x i (suc i + count x) sums
    unfolding below
    inner-held sums o c l h g =
        let z : nth sums (suc d) ≡ 0 = c (suc d) (omega arith) in
        let size = normal_size tag x in
        let v : total (below s tag) x sums ≡ size = ap (λ k. k + size) z ∙ zero-add size in
        let behind = set sums (suc d) size in
        record {
          low = leb size 32_768;
          behind = behind;
          passes = g ∙ ap (λ k. (are b (suc i) (body_sizes tag x) && leb k 32_768) && right (suc i) (set sums (suc d) k)) v;
          own = rw o (get_or-set_same sums (suc d) size 0 (omega (arith, l)) ∙ sym (size-open s s.parent tag body x o u.within));
          back = set-set sums (suc d) size 0 ∙ set-kept sums (suc d) 0 z;
          same = get_or-set_other sums (suc d) d size 0 (λ e. omega arith);
          less = λ w. le-leb size 32_768 (omega (arith, w, framed-more (body_size s.parent tag body x), size-open s s.parent tag body x o u.within, ap (λ k. cond k 0 (framed_size (body_size s.parent tag body x))) (open-counts s.parent tag body o)));
        }

    inner-single : (sums : List ℕ) → opens tag ≡ false → Clear d sums → stored [] (known s.parent tag) body ≡ body → Inner s tag body x i (suc i + count x) sums
    unfolding count body_sizes are
    inner-single sums o c w =
        let nil : end ≡ x = end_is x (rw o at u.holder) in
        let m : suc i + count x ≡ suc i = ap (λ t. suc i + count t) (sym nil) ∙ add-zero (suc i) in
        record {
          low = true;
          behind = sums;
          passes = ap (λ k. right k sums) m ∙ ap (λ t. (are b (suc i) (body_sizes tag t) && true) && right (suc i) sums) nil;
          own = rw o (sym (size-shut s.parent tag body x o ∙ ap length w));
          back = set-kept sums (suc d) 0 (c (suc d) (omega arith));
          same = refl;
          less = λ v. refl;
        }

    module _ (sums : List ℕ) (g : length sums ≡ 18) (deep : d < 18) (at : row i ≡ record_of d p tag from body) (l : Part lent from body) (own : default_octets (row p).tag tag body ≡ default_octets q tag body) where
      -- what is summed behind the items after it
      abbrev later : List ℕ
      later = set sums d (total s y sums)

      right-item : (j : ℕ) → Passes s y (suc i + count x) j sums → Inner s tag body x i (suc i + count x) later → Passes s (item tag from body x y) i j sums
      unfolding body_sizes are right_below
      right-item j iy ix =
          iy ∙ (ap (λ z. (ay && ly) && z) (ix.passes ∙ ap (λ z. (ax && ix.low) && z) step)
          ∙ (regroup e ax ix.low ay ly (leb sum 32_768) (leb whole 32_768) (right i (set (set ix.behind (suc d) 0) d sum)) (right i (set sums d whole)) sums-low sums_same inner-low later-low
          ∙ ap (λ z. ((e && z) && leb whole 32_768) && right i (set sums d whole)) (sym split)))
        where
          ay : Bool
          ay = are b (suc i + count x) (body_sizes s.parent y)

          ly : Bool
          ly = leb (total s y sums) 32_768

          ax : Bool
          ax = are b (suc i) (body_sizes tag x)

          size : ℕ
          size = body_size s.parent tag body x

          e : Bool
          e = eqb (b i) size

          sum : ℕ
          sum = nth ix.behind d + added_by (row p).tag tag from (length body) lent (b i)

          whole : ℕ
          whole = total s (item tag from body x y) sums

          step : right (suc i) ix.behind ≡ e && (leb sum 32_768 && right i (set (set ix.behind (suc d) 0) d sum))
          step =
              ap (λ r. eqb (b i) (cond (opens r.tag) (nth ix.behind (suc r.depth)) r.size)
              && (leb (nth ix.behind r.depth + added_by (row r.parent).tag r.tag r.start r.size lent (b i)) 32_768
              && right i (set (set ix.behind (suc r.depth) 0) r.depth (nth ix.behind r.depth + added_by (row r.parent).tag r.tag r.start r.size lent (b i))))) at
              ∙ ap (λ z. eqb (b i) z && (leb sum 32_768 && right i (set (set ix.behind (suc d) 0) d sum))) ix.own

          sum_is : e ≡ true → sum ≡ whole
          sum_is h =
              let a : added_by (row p).tag tag from (length body) lent (b i) ≡ item_adds s.parent tag body size =
              added_is s.parent p tag from body l own (b i) ∙ ap (item_adds s.parent tag body) (eqb-true (b i) size h) in
              let f : nth ix.behind d ≡ total s y sums = ix.same ∙ get_or-set_same sums d (total s y sums) 0 (omega (arith, g)) in
              omega (arith, a, f, size-item s tag from body x y u)

          sums-low : e ≡ true → leb sum 32_768 ≡ leb whole 32_768
          sums-low h = ap (λ k. leb k 32_768) (sum_is h)

          sums_same : e ≡ true → right i (set (set ix.behind (suc d) 0) d sum) ≡ right i (set sums d whole)
          sums_same h = ap (right i) (ap₂ (λ z k. set z d k) ix.back (sum_is h) ∙ set-set sums d (total s y sums) whole)

          inner-low : leb whole 32_768 ≡ true → ix.low ≡ true
          inner-low h = ix.less (omega (arith, leb-true whole 32_768 h, size-item s tag from body x y u))

          later-low : leb whole 32_768 ≡ true → ly ≡ true
          later-low h = le-leb (total s y sums) 32_768 (omega (arith, leb-true whole 32_768 h, size-item s tag from body x y u))

          split : are b (suc i) (body_sizes tag x ++ body_sizes s.parent y) ≡ ax && ay
          split = are-append b (body_sizes tag x) (body_sizes s.parent y) (suc i) ∙ ap (λ k. ax && are b (suc i + k) (body_sizes s.parent y)) (sizes-count x (below s tag) tag u.within)

  -- an element that holds items stands at depth 16 at most
  open-depth : (s : Spot) (tag : ℕ) (body : List ℕ) (x y : Items) → Ruled s tag body x y → opens tag ≡ true → s.depth ≤ 16
  unfolding opens
  open-depth s tag body x y u o =
      let k = items-tag tag (items-known (known 0 tag) o) in
      let h = (placed-parts s tag (keeps-parts s tag body u.rules).place).deep in
      leb-true s.depth 16 (rw (k.not_attribute, k.not_cdata) at h)

  abbrev Rights : Items → Type 0
  Rights t = (s : Spot) (p i j : ℕ) (sums : List ℕ) → ruled s t ≡ true → Located lent t → Own s.parent t → (row p).tag ≡ s.parent → left row n i ≡ records s.depth p i t ++ left row n j
      → j ≡ i + count t → length sums ≡ 18 → s.depth < 18 → nth sums s.depth ≤ 32_768 → Clear s.depth sums → Passes s t i j sums

  rights-end : (s : Spot) (i j : ℕ) (sums : List ℕ) → j ≡ i + 0 → nth sums s.depth ≤ 32_768 → Passes s end i j sums
  unfolding body_sizes are normal_size
  rights-end s i j sums e l =
      let z : nth sums s.depth + 0 ≡ nth sums s.depth = add-zero (nth sums s.depth) in
      ap (λ k. right k sums) (e ∙ add-zero i)
      ∙ sym (rw (z, le-leb (nth sums s.depth) 32_768 l) (ap (right i) (set-kept sums s.depth (nth sums s.depth) refl)))

  -- an item, whose element's tag counts only where it may be a default
  rights-from : (tag from : ℕ) (body : List ℕ) (x y : Items) → Rights x → (s : Spot) (p i j : ℕ) (sums : List ℕ) → Ruled s tag body x y → Located lent (item tag from body x y)
      → Own s.parent (item tag from body x y) → default_octets (row p).tag tag body ≡ default_octets s.parent tag body → Stands row n s.depth p i j tag from body x y
      → length sums ≡ 18 → s.depth < 18 → Clear s.depth sums → Passes s y (suc i + count x) j sums → Passes s (item tag from body x y) i j sums
  unfolding below
  rights-from tag from body x y fx s p i j sums u l w e a g deep c iy = right-item s tag from body x y p i u sums g deep a.is_row l.0 e j iy (go (opens tag) refl)
    where
      d : ℕ
      d = s.depth

      later : List ℕ
      later = set sums d (total s y sums)

      clear : Clear d later
      clear = clear-set d sums (total s y sums) c

      long : length later ≡ 18
      long = length-set sums d (total s y sums) ∙ g

      go : (o : Bool) → opens tag ≡ o → Inner s tag body x i (suc i + count x) later
      go true o =
          let deeper : suc d < 18 = omega (arith, open-depth s tag body x y u o) in
          let none : nth later (suc d) ≡ 0 = clear (suc d) (omega arith) in
          inner-held s tag from body x y p i u later o clear long deeper
          (fx (below s tag) i (suc i) (suc i + count x) later u.within l.1 w.1 (ap (λ r. r.tag) a.is_row) a.inner refl long deeper (omega (arith, none)) (λ k h. clear k (omega arith)))
      go false o = inner-single s tag from body x y p i u later o clear (w.0 o)

  rights : (t : Items) → Rights t
  unfolding count past
  rights end s p i j sums r l w e h c g deep low k = rights-end s i j sums c low
  rights (item tag from body x y) s p i j sums r l w e h c g deep low k =
      let u = ruled-parts s tag from body x y r in
      let four = keeps-tag s tag body u.rules in
      let a = item-stands row n s.depth p i j tag from body x y four h in
      let last : j ≡ suc i + count x + count y = omega (arith, c, count-item tag from body x y four) in
      rights-from tag from body x y (rights x) s p i j sums u l w (ap (λ q. default_octets q tag body) e) a g deep k
      (rights y (past s tag) p (suc i + count x) j sums u.beside l.2 w.2 e a.later last g deep low k)

  -- the whole, whose top has no element around it
  rights-top : (t : Items) → Whole row n lent t → packed t ≡ t → (sums : List ℕ) → length sums ≡ 18 → ((k : ℕ) → nth sums k ≡ 0) → Passes at_top t 0 n sums
  unfolding at_top past count opens
  rights-top t w k sums g z = go t refl
    where
      all : left row n 0 ≡ records_of t ++ left row n n
      all = left-all row n ∙ (sym w.records ∙ sym (left-none row n (records_of t)))

      low : (d : ℕ) → nth sums d ≤ 32_768
      low d = omega (arith, z d)

      go : (u : Items) → t ≡ u → Passes at_top t 0 n sums
      go end e = absurd (omega (arith, w.some, whole-count row n lent t w, ap count e))
      go (item tag from body x y) e =
          let r = subst (λ u. ruled at_top u ≡ true) e w.rules in
          let u = ruled-parts at_top tag from body x y r in
          let four = keeps-tag at_top tag body u.rules in
          let nil : end ≡ y = three-end y (past at_top tag) refl (ruled-order y (past at_top tag) u.beside) in
          let a = item-stands row n 1 0 0 n tag from body x y four (subst (λ u. left row n 0 ≡ records_of u ++ left row n n) e all) in
          let top = items-tag tag (top-known tag (placed-parts at_top tag (keeps-parts at_top tag body u.rules).place).allow) in
          let plain : default_octets (row 0).tag tag body ≡ default_octets 0 tag body = element-keeps (row 0).tag tag body top.not_attribute ∙ sym (element-keeps 0 tag body top.not_attribute) in
          let many : n ≡ suc 0 + count x + 0 = omega (arith, whole-count row n lent t w, ap count e, count-item tag from body x y four, ap count nil) in
          let after : Passes at_top y (suc 0 + count x) n sums = subst (λ v. Passes at_top v (suc 0 + count x) n sums) nil (rights-end at_top (suc 0 + count x) n sums many (low 1)) in
          subst (λ v. Passes at_top v 0 n sums) (sym e)
          (rights-from tag from body x y (rights x) at_top 0 0 n sums u (subst (Located lent) e w.located) (subst (Own 0) e (own-packed t at_top 0 w.rules k)) plain a g (omega arith) (λ d h. z d) after)

blank : (n k : ℕ) → nth (replicate n 0) k ≡ 0
blank zero k = refl
blank (suc n) zero = refl
blank (suc n) (suc k) = blank n k

-- the sizes of a packed tree's records are right exactly where they are those of its normal form, and that is no longer than an object may be
pub right-sizes : (row : ℕ → Record) (n : ℕ) (lent bodies : List ℕ) (t : Items) → Whole row n lent t → n ≤ length bodies → packed t ≡ t
    → right_below (λ k. (row k).tag) (λ k. (row k).depth) (λ k. (row k).parent) (λ k. (row k).start) (λ k. (row k).size) (nth bodies) lent n no_sums
    ≡ same_octets (take n bodies) (body_sizes 0 t) && leb (length (encode (means [] t))) 32_768
unfolding at_top right_below
right-sizes row n lent bodies t w long k =
    let c = sizes-count t at_top 0 w.rules ∙ sym (whole-count row n lent t w) in
    let s : 0 + normal_size 0 t ≡ length (encode (means [] t)) = zero-add (normal_size 0 t) ∙ size-whole t w.rules in
    rights-top row n lent (nth bodies) t w k no_sums refl (blank 18)
    ∙ (and_yes (are (nth bodies) 0 (body_sizes 0 t) && leb (0 + normal_size 0 t) 32_768) ∙ ap₂ (λ a b. a && leb b 32_768) (sym (are-same (body_sizes 0 t) bodies n c long)) s)
