-- Every edit alike: what each list, the store and the sizes hold once some records were cut out at a site and others put in. What is to be left is said here, list
-- by list; replacing a text, removing an item and putting in an element are three instances.
use mathlib.Core.Path.{◌≡◌, refl, sym, ap, ap₂, ◌∙◌, subst}
use mathlib.Core.Bool.{true, false}
use mathlib.Core.List.{List, [], ◌∷◌, ◌++◌, append_assoc, map, map-append}
use Prim.Native.Nat.{ℕ, zero, suc, ◌+◌, ◌-◌, ◌≤◌, ◌<◌}
use native.Mathlib.Omega.{arith}
use native.Mathlib.Nat.{zero-add}
use lib.Dec.{eqb}
use lib.ListN.{length, take, drop, get_or, length-append, length-map, take-append-drop, get_or-append}
use lib.Seq.{sets, sets-eq, drop-cons, take-append_seam, drop-append_seam}
use Rattle.octets.specs.Places.{between}
use Rattle.octets.proofs.Lists.{get_d_part, sets_same, sets-append, length_part}
use Rattle.format.specs.declared.Record.{Record}
use Rattle.format.specs.Tree.{Items, records_of}
use Rattle.format.specs.Tree.Items.{end, item}
use Rattle.format.specs.Meaning.{opens, means, encode}
use Rattle.format.specs.Writer.{at_top, is_end, ruled, tabled}
use Rattle.format.specs.Calls.{Lists, places, row}
use Rattle.format.specs.State.{Memory, packed, packed_store, body_sizes}
use Rattle.format.proofs.Written.{Bytes}
use Rattle.survey.specs.Normal.{framed_size}
use Rattle.state.proofs.HeldTree.{Held}
use Rattle.edits.specs.Sites.{Site, top_site, records_at, Swapped, shifted, start_after, shifted_starts, moved}
use Rattle.edits.specs.Sizes.{raised, up_from, Climbs}
use Rattle.edits.proofs.Swaps.{Plain, ruled-plain}
use Rattle.edits.proofs.Sites.{Between, between-at}
use Rattle.edits.proofs.Cuts.{Cut, SiteCut, cut-records, cut-store}
use Rattle.edits.proofs.Sizes.{path, sizes_at, size_at, SizesSwapped, sizes-swapped, top-framed}
use Rattle.edits.proofs.Around.{Lie, WholeWay, whole-way}
use Rattle.edits.proofs.SizesPacked.{sizes-packed}
use Rattle.edits.proofs.Stores.{held-store, held-places}

-- a field of the first n records is what its list begins with
tabled-field : (row : ℕ → Record) (f : Record → ℕ) (xs : List ℕ) → ((j : ℕ) → f (row j) ≡ get_or xs j 0) → (n i : ℕ) → i + n ≤ length xs
    → map f (tabled row n i) ≡ take n (drop i xs)
unfolding tabled
tabled-field row f xs e zero i h = refl
tabled-field row f xs e (suc n) i h =
    ap₂ (λ a b. a ∷ b) (e i) (tabled-field row f xs e n (suc i) (omega arith)) ∙ ap (take (suc n)) (sym (drop-cons xs i 0 (omega arith)))

-- the fields of records that move
module _ (N N' P P' : ℕ) where
  moved-field : (f : Record → ℕ) → ((r : Record) → f (moved N N' P P' r) ≡ f r) → (rs : List Record) → map f (map (moved N N' P P') rs) ≡ map f rs
  moved-field f h [] = refl
  moved-field f h (r ∷ rs) = ap₂ (λ a b. a ∷ b) (h r) (moved-field f h rs)

  moved-starts : (rs : List Record) → map (λ r. r.start) (map (moved N N' P P') rs) ≡ shifted_starts P P' (map (λ r. r.tag) rs) (map (λ r. r.start) rs)
  unfolding moved shifted_starts
  moved-starts [] = refl
  moved-starts (r ∷ rs) = ap {B = List ℕ} (λ a. start_after P P' r.tag r.start ∷ a) (moved-starts rs)

-- ---- a list whose first n members are cut
-- parts in other groups
regroup : (a b c d e : List ℕ) → (a ++ ((b ++ c) ++ d)) ++ e ≡ a ++ ((b ++ (c ++ d)) ++ e)
regroup a b c d e = simp append_assoc

module _ (xs : List ℕ) (n : ℕ) (long : n ≤ length xs) (pre gone post : List ℕ) (old : take n xs ≡ pre ++ (gone ++ post)) where
  all_of : xs ≡ pre ++ ((gone ++ post) ++ drop n xs)
  all_of = sym (take-append-drop n xs) ∙ (ap (λ z. z ++ drop n xs) old ∙ append_assoc pre (gone ++ post) (drop n xs))

  front_of : sets xs 0 pre ≡ xs
  front_of = ap (sets xs 0) (sym (ap (take (length pre)) all_of ∙ take-append_seam pre ((gone ++ post) ++ drop n xs))) ∙ sets_same xs 0 (length pre)

  -- what is laid anew begins at the cut
  cut-sets : (new : List ℕ) → sets xs 0 (pre ++ new) ≡ sets xs (length pre) new
  cut-sets new = sym (sets-append xs 0 pre new) ∙ ap₂ (λ a j. sets a j new) front_of (zero-add (length pre))

  -- and what stays lies behind what is gone
  pub cut-part : between xs (length pre + length gone) n ≡ post
  cut-part =
      let g : xs ≡ (pre ++ gone) ++ (post ++ drop n xs) = all_of ∙ simp append_assoc in
      let k : length pre + length gone ≡ length (pre ++ gone) = sym (length-append pre gone) in
      let l : length (take n xs) ≡ n = length_part xs 0 n (omega arith) in
      let j : n - (length pre + length gone) ≡ length post = omega (arith, ap length old, length-append pre (gone ++ post), length-append gone post) in
      ap₂ (λ x y. take x y) j (ap₂ (λ x y. drop x y) k g ∙ drop-append_seam (pre ++ gone) (post ++ drop n xs)) ∙ take-append_seam post (drop n xs)

some-items : (t : Items) → 0 < length (body_sizes 0 t) → is_end t ≡ false
unfolding is_end body_sizes
some-items end h = absurd (omega arith)
some-items (item tag at body x y) h = refl

-- each list has so many places
pub record Enough (n : ℕ) (l : Lists) : Type 0 where
  pub tags : n ≤ length l.tags
  pub kinds : n ≤ length l.kinds
  pub depths : n ≤ length l.depths
  pub parents : n ≤ length l.parents
  pub starts : n ≤ length l.starts
  pub sizes : n ≤ length l.sizes

-- ---- the lists of memory that holds a tree
module _ (n : ℕ) (m : Memory) (t : Items) (held : Held n m t) where
  pub enough : Enough n m.lists
  unfolding places
  enough = let k = held-places n m t held in omega arith

  held-records : records_at top_site t ≡ tabled (row m.lists) n 0
  unfolding at_top
  held-records = ap records_of held.packs ∙ held.whole.records

  -- a field of the tree's records is what its list begins with
  pub held-field : (field : Record → ℕ) (xs : List ℕ) → ((j : ℕ) → field (row m.lists j) ≡ get_or xs j 0) → n ≤ length xs → take n xs ≡ map field (records_at top_site t)
  held-field field xs reads long = sym (tabled-field (row m.lists) field xs reads n 0 (omega arith)) ∙ ap (map field) (sym held-records)

  -- and the lists hold the tree's parents and sizes
  pub lies : Lie m.lists.parents m.bodies top_site t
  unfolding at_top
  lies = record {
    pf = [];
    pb = drop n m.lists.parents;
    bf = [];
    bb = drop n m.bodies;
    parents-are = sym (take-append-drop n m.lists.parents)
        ∙ ap (λ z. z ++ drop n m.lists.parents) (held-field (λ r. r.parent) m.lists.parents (λ j. refl) enough.parents);
    bodies-are = sym (take-append-drop n m.bodies) ∙ ap (λ z. z ++ drop n m.bodies) held.sizes;
    pf-long = refl;
    bf-long = refl;
  }

-- ---- an edit at a site
module _ (n : ℕ) (m : Memory) (t t' : Items) (held : Held n m t) {h : Site} {u w : Items} (v : Swapped top_site t t' h u w) (q : Plain w)
    (N N' P P' : ℕ) {gone put : List Record} {octets-gone octets-put : List ℕ} (c : SiteCut N N' P P' h u w gone put octets-gone octets-put) (above : 0 < N) where
  abbrev f : Record → Record
  f = moved N N' P P'

  t-plain : Plain t
  t-plain = ruled-plain t at_top held.whole.rules

  both : (a : Cut (map f) (records_of t) (records_of (packed t')) h.number gone put) × Between P (0 + length (packed_store t)) a.post
  unfolding at_top
  both =
      subst (λ k. (a : Cut (map f) (records_of k) (records_of (packed t')) h.number gone put) × Between P (0 + length (packed_store t)) a.post) held.packs
      (cut-records N N' P P' v t-plain q c above refl)

  abbrev records-cut : Cut (map f) (records_of t) (records_of (packed t')) h.number gone put
  records-cut = both.0

  -- where the bodies of the records behind the cut lie
  later-between : Between P (length (packed_store t)) records-cut.post
  later-between = subst (λ j. Between P j records-cut.post) (zero-add (length (packed_store t))) both.1

  -- ---- one field of the records
  module _ (field : Record → ℕ) (xs : List ℕ) (reads : (j : ℕ) → field (row m.lists j) ≡ get_or xs j 0) (long : n ≤ length xs) where
    field-old : take n xs ≡ map field records-cut.pre ++ (map field gone ++ map field records-cut.post)
    unfolding at_top
    field-old =
        held-field n m t held field xs reads long
        ∙ (ap (map field) (ap records_of held.packs ∙ records-cut.old)
        ∙ (map-append field records-cut.pre (gone ++ records-cut.post) ∙ ap (λ z. map field records-cut.pre ++ z) (map-append field gone records-cut.post)))

    place : length (map field records-cut.pre) ≡ h.number
    place = length-map records-cut.pre field ∙ records-cut.before-it

    -- the field's numbers of the records behind the cut
    later-numbers : between xs (h.number + length gone) n ≡ map field records-cut.post
    later-numbers =
        ap₂ (λ a b. between xs (a + b) n) (sym place) (sym (length-map gone field))
        ∙ cut-part xs n long (map field records-cut.pre) (map field gone) (map field records-cut.post) field-old

    field-laid : (later : List ℕ) → map field (map f records-cut.post) ≡ later
        → sets xs 0 (map field (records_of (packed t'))) ≡ sets xs h.number (map field put ++ later)
    field-laid later e =
        ap (sets xs 0) (ap (map field) records-cut.new ∙ (map-append field records-cut.pre (put ++ map f records-cut.post)
        ∙ ap (λ z. map field records-cut.pre ++ z) (map-append field put (map f records-cut.post) ∙ ap (λ z. map field put ++ z) e)))
        ∙ (cut-sets xs n long (map field records-cut.pre) (map field gone) (map field records-cut.post) field-old (map field put ++ later)
        ∙ ap (λ j. sets xs j (map field put ++ later)) place)

    -- tag, kind, depth, size: those behind the cut close up or make room, each as it stands
    pub field_cut : ((r : Record) → field (f r) ≡ field r)
        → sets xs 0 (map field (records_of (packed t'))) ≡ sets xs h.number (map field put ++ between xs (h.number + length gone) n)
    field_cut k = field-laid (between xs (h.number + length gone) n) (moved-field N N' P P' field k records-cut.post ∙ sym later-numbers)

  -- each begins behind P and in what the tree takes of the store
  pub later-start : (j : ℕ) → h.number + length gone ≤ j → j < n → opens (get_or m.lists.tags j 0) ≡ false
      → (P ≤ get_or m.lists.starts j 0) × (get_or m.lists.starts j 0 ≤ length (packed_store t))
  later-start j a b o =
      let tagged = (enough n m t held).tags in
      let started = (enough n m t held).starts in
      let first = h.number + length gone in
      let k = j - first in
      let e : first + k ≡ j = omega arith in
      let ts = later-numbers (λ r. r.tag) m.lists.tags (λ j. refl) tagged in
      let ss = later-numbers (λ r. r.start) m.lists.starts (λ j. refl) started in
      let at : (xs ys : List ℕ) → take (n - first) (drop first xs) ≡ ys → get_or xs j 0 ≡ get_or ys k 0 =
      λ xs ys q. sym (ap (λ z. get_or z k 0) (sym q) ∙ (get_d_part xs first (n - first) k 0 (omega arith) ∙ ap (λ i. get_or xs i 0) e)) in
      let long : length records-cut.post ≡ n - first =
      sym (length-map records-cut.post (λ r. r.tag)) ∙ (ap length (sym ts) ∙ length_part m.lists.tags first (n - first) (omega arith)) in
      between-at P (length (packed_store t)) records-cut.post k (omega arith) later-between (get_or m.lists.tags j 0) (get_or m.lists.starts j 0)
      (at m.lists.tags _ ts) (at m.lists.starts _ ss) o

  -- the numbers of parents that lie behind the cut move
  pub parents-cut : sets m.lists.parents 0 (map (λ r. r.parent) (records_of (packed t')))
      ≡ sets m.lists.parents h.number (map (λ r. r.parent) put ++ map (shifted N N') (between m.lists.parents (h.number + length gone) n))
  unfolding moved
  parents-cut =
      let long = (enough n m t held).parents in
      let later = later-numbers (λ r. r.parent) m.lists.parents (λ j. refl) long in
      field-laid (λ r. r.parent) m.lists.parents (λ j. refl) long (map (shifted N N') (between m.lists.parents (h.number + length gone) n))
      (each-parents records-cut.post ∙ ap (map (shifted N N')) (sym later))
    where
      each-parents : (rs : List Record) → map (λ r. r.parent) (map f rs) ≡ map (shifted N N') (map (λ r. r.parent) rs)
      each-parents [] = refl
      each-parents (r ∷ rs) = ap {B = List ℕ} (λ z. shifted N N' r.parent ∷ z) (each-parents rs)

  -- and so do the places in the store
  pub starts-cut : sets m.lists.starts 0 (map (λ r. r.start) (records_of (packed t')))
      ≡ sets m.lists.starts h.number
      (map (λ r. r.start) put ++ shifted_starts P P' (between m.lists.tags (h.number + length gone) n) (between m.lists.starts (h.number + length gone) n))
  starts-cut =
      let long = (enough n m t held).starts in
      let long-tags = (enough n m t held).tags in
      field-laid (λ r. r.start) m.lists.starts (λ j. refl) long
      (shifted_starts P P' (between m.lists.tags (h.number + length gone) n) (between m.lists.starts (h.number + length gone) n))
      (moved-starts N N' P P' records-cut.post
      ∙ ap₂ (shifted_starts P P') (sym (later-numbers (λ r. r.tag) m.lists.tags (λ j. refl) long-tags))
      (sym (later-numbers (λ r. r.start) m.lists.starts (λ j. refl) long)))

  -- ---- the store
  store-cut : Cut (λ a. a) (packed_store t) (packed_store t') h.place octets-gone octets-put
  unfolding at_top
  store-cut = cut-store N N' P P' v t-plain q c refl

  pub octets-cut : sets m.store 0 (packed_store t')
      ≡ sets m.store h.place (octets-put ++ between m.store (h.place + length octets-gone) (length (packed_store t)))
  octets-cut =
      let s = held-store n m t held in
      let k = store-cut in
      let old = s.1 ∙ k.old in
      let later = ap (λ j. between m.store (j + length octets-gone) (length (packed_store t))) (sym k.before-it)
      ∙ cut-part m.store (length (packed_store t)) s.0 k.pre octets-gone k.post old in
      ap (sets m.store 0) k.new
      ∙ (cut-sets m.store (length (packed_store t)) s.0 k.pre octets-gone k.post old (octets-put ++ k.post)
      ∙ ap₂ (λ j z. sets m.store j (octets-put ++ z)) k.before-it (sym later))

  -- ---- the sizes of bodies: those of the elements around the site are raised, then those of the site are cut
  -- what the items at the site add, but for the same rest, is `was` before and `is` after
  module _ (was is same : ℕ) (z : size_at h u ≡ was + same) (z' : size_at h w ≡ is + same) (below : eqb h.spot.parent 0 ≡ false)
      (bytes : Bytes t') (rules : ruled at_top t' ≡ true)
      (sizes-gone sizes-put rest : List ℕ) (old : sizes_at h u ≡ sizes-gone ++ rest) (new : sizes_at h w ≡ sizes-put ++ rest) where
    abbrev up : List ℕ
    up = up_from m.lists.parents h.up

    wy : WholeWay m.lists.parents m.bodies h u (path v)
    unfolding at_top
    wy = whole-way m.lists.parents m.bodies v refl refl held.whole.rules below (lies n m t held)

    pub climbs-cut : Climbs m.lists.parents m.bodies h.up was
    climbs-cut = wy.climbs was (omega (arith, z))

    abbrev back : List ℕ
    back = drop n m.bodies

    sw : SizesSwapped top_site t t' h u w (path v) was is [] back
    unfolding at_top
    sw = sizes-swapped was is v held.whole.rules rules same z z' [] back refl

    abbrev tail : List ℕ
    tail = (sizes-gone ++ (rest ++ sw.post)) ++ back

    place-sizes : length sw.pre ≡ h.number
    place-sizes = omega (arith, sw.long)

    all-sizes : m.bodies ≡ body_sizes 0 t ++ back
    all-sizes = sym (take-append-drop n m.bodies) ∙ ap (λ b. b ++ back) held.sizes

    sizes-old : m.bodies ≡ sw.pre ++ tail
    unfolding at_top
    sizes-old = all-sizes ∙ (ap (λ k. k ++ back) sw.old ∙ (ap (λ k. (sw.pre ++ (k ++ sw.post)) ++ back) old ∙ regroup sw.pre sizes-gone rest sw.post back))

    sizes-raised : raised up was is m.bodies ≡ sw.pre' ++ tail
    unfolding at_top
    sizes-raised =
        ap₂ (λ gs l. raised gs was is l) wy.numbers all-sizes
        ∙ (sw.leaves ∙ (ap (λ k. (sw.pre' ++ (k ++ sw.post)) ++ back) old ∙ regroup sw.pre' sizes-gone rest sw.post back))

    sizes-new : body_sizes 0 (packed t') ≡ sw.pre' ++ (sizes-put ++ (rest ++ sw.post))
    unfolding at_top
    sizes-new = sizes-packed t' bytes rules ∙ (sw.new ∙ ap (λ k. sw.pre' ++ k) (ap (λ k. k ++ sw.post) new ∙ append_assoc sizes-put rest sw.post))

    later-sizes : between m.bodies (h.number + length sizes-gone) n ≡ rest ++ sw.post
    unfolding at_top
    later-sizes =
        ap (λ j. between m.bodies (j + length sizes-gone) n) (sym place-sizes)
        ∙ cut-part m.bodies n held.fewer sw.pre sizes-gone (rest ++ sw.post)
        (held.sizes ∙ (sw.old ∙ ap (λ k. sw.pre ++ k) (ap (λ k. k ++ sw.post) old ∙ append_assoc sizes-gone rest sw.post)))

    -- what is laid before the site is what raising leaves there
    front-raised : sets m.bodies 0 sw.pre' ≡ raised up was is m.bodies
    front-raised =
        let n₁ = ap length sizes-old ∙ length-append sw.pre tail in
        let e : drop (0 + length sw.pre') m.bodies ≡ tail =
        ap₂ (λ j l. drop j l) (zero-add (length sw.pre') ∙ sw.long') sizes-old ∙ drop-append_seam sw.pre tail in
        sets-eq sw.pre' m.bodies 0 (omega (arith, sw.long')) ∙ (ap (λ k. sw.pre' ++ k) e ∙ sym sizes-raised)

    pub bodies-cut : sets m.bodies 0 (body_sizes 0 (packed t'))
        ≡ sets (raised up was is m.bodies) h.number (sizes-put ++ between m.bodies (h.number + length sizes-gone) n)
    bodies-cut =
        let add = sizes-put ++ (rest ++ sw.post) in
        ap (sets m.bodies 0) sizes-new
        ∙ (sym (sets-append m.bodies 0 sw.pre' add)
        ∙ (ap₂ (λ l j. sets l j add) front-raised (zero-add (length sw.pre') ∙ (sw.long' ∙ place-sizes))
        ∙ ap (λ k. sets (raised up was is m.bodies) h.number (sizes-put ++ k)) (sym later-sizes)))

    -- the top's body then, with a header, is as long as the normal form of the new tree
    pub whole-cut : 0 < h.number → framed_size (get_or (raised up was is m.bodies) 0 0) ≡ length (encode (means [] t'))
    unfolding at_top body_sizes is_end
    whole-cut pos =
        let pos' : 0 < length sw.pre' = omega (arith, sw.long', place-sizes) in
        let after = sizes_at h w ++ sw.post in
        let first : get_or (raised up was is m.bodies) 0 0 ≡ get_or (body_sizes 0 t') 0 0 =
        ap (λ l. get_or l 0 0) sizes-raised
        ∙ (get_or-append sw.pre' tail 0 0 pos' ∙ sym (ap (λ l. get_or l 0 0) sw.new ∙ get_or-append sw.pre' after 0 0 pos')) in
        ap framed_size first ∙ top-framed t' rules (some-items t' (omega (arith, ap length sw.new, length-append sw.pre' after)))
