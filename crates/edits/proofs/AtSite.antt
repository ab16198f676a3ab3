-- An item below the top of a tree that memory holds, by the lists: what its record has, where its records end, where what it takes of the store lies, and what it adds to
-- its element.
use mathlib.Core.Path.{◌≡◌, refl, sym, ap, ap₂, ◌∙◌}
use mathlib.Core.Bool.{Bool, true, false, cond}
use mathlib.Core.List.{List, [], ◌∷◌, ◌++◌, append_assoc, append-nil, map, map-append}
use Prim.Native.Nat.{ℕ, suc, ◌+◌, ◌-◌, ◌≤◌, ◌<◌}
use native.Mathlib.Nat.{add-sub_cancel_left}
use native.Mathlib.Omega.{arith}
use lib.Dec.{leb}
use lib.ListN.{length, take, drop, get_or, length-append, length-map, take-append-drop}
use lib.Seq.{get_or_at, take-append_seam, drop-append_seam}
use borrow.Author.Tests.{le-leb}
use Rattle.octets.specs.Places.{between}
use Rattle.octets.proofs.Lists.{length_part}
use Rattle.values.specs.Table.{known}
use Rattle.values.specs.Calls.{default_octets}
use Rattle.format.specs.declared.Record.{Record}
use Rattle.format.specs.Tree.{Items, count}
use Rattle.format.specs.Tree.Items.{item}
use Rattle.format.specs.Meaning.{opens}
use Rattle.format.specs.Writer.{below, past, at_top, is_end}
use Rattle.format.specs.Loaded.{stored, store_in}
use Rattle.format.specs.Calls.{row}
use Rattle.format.specs.State.{Memory, packed_store}
use Rattle.survey.specs.Normal.{framed_size}
use Rattle.state.specs.Order.{item_adds, added_by}
use Rattle.state.proofs.HeldTree.{Held}
use Rattle.state.proofs.BodySizes.{body_size}
use Rattle.state.proofs.SizesHeld.{Own, own-packed}
use Rattle.edits.specs.Tree.{first_tag}
use Rattle.edits.specs.Sites.{Site, top_site, inner, share, beyond, records_at, Swapped}
use Rattle.edits.specs.Sites.Swapped.{here, inside, after}
use Rattle.edits.specs.Extents.{deeper, sum_of}
use Rattle.edits.proofs.Swaps.{Plain, ruled-plain, swapped-plain, swapped-rules}
use Rattle.edits.proofs.Sites.{record_here, records-here, store-here}
use Rattle.edits.proofs.Cuts.{share-shut}
use Rattle.edits.proofs.Records.{records-length, StoreSwapped, swapped-store}
use Rattle.edits.proofs.Sizes.{open-adds}
use Rattle.edits.proofs.Around.{lie-down, body-here}
use Rattle.edits.proofs.Stores.{held-store}
use Rattle.edits.proofs.CutLists.{enough, held-field, lies, cut-part}
use Rattle.edits.proofs.ElementTags.{Seen, site-seen}
use Rattle.edits.proofs.Extents.{here-open, here-shut, here-depth, item-sum, sum-records, deep-records, stop-records, Extent, extent}

-- ---- a list that begins with three parts: the second of them
pub part-second : (l : List ℕ) (n : ℕ) (a b c : List ℕ) → take n l ≡ a ++ (b ++ c) → (i j : ℕ) → length a ≡ i → i + length b ≡ j → between l i j ≡ b
part-second l n a b c e i j p q =
    let whole : l ≡ a ++ (b ++ (c ++ drop n l)) = sym (take-append-drop n l) ∙ (ap (λ z. z ++ drop n l) e ∙ (append_assoc a (b ++ c) (drop n l) ∙ ap (λ z. a ++ z) (append_assoc b c (drop n l)))) in
    let k : j - i ≡ length b = omega arith in
    ap₂ (λ x y. take x y) k (ap₂ (λ x y. drop x y) (sym p) whole ∙ drop-append_seam a (b ++ (c ++ drop n l))) ∙ take-append_seam b (c ++ drop n l)

-- bodies in a packed tree are as the store has them
own-down : {s : Site} {t t' : Items} {h : Site} {u w : Items} → Swapped s t t' h u w → Own s.spot.parent t → Own h.spot.parent u
unfolding below past
own-down (here s t t') k = k
own-down (inside s tag at body x x' y h u w o v) k = own-down v k.1
own-down (after s tag at body x y y' h u w v) k = own-down v k.2

module _ (n : ℕ) (m : Memory) (t : Items) (held : Held n m t) {t' : Items} {h : Site} {tag at : ℕ} {body : List ℕ} {x y w : Items}
    (v : Swapped top_site t t' h (item tag at body x y) w) (above : 0 < h.number) where
  abbrev u : Items
  u = item tag at body x y

  plain : Plain u
  plain = (swapped-plain v (ruled-plain t at_top held.whole.rules)).old

  reach : Extent top_site t h u
  reach = extent v (ruled-plain t at_top held.whole.rules)

  abbrev xs : List Record
  xs = records_at (inner h tag) x

  abbrev ys : List Record
  ys = records_at (beyond h tag body x) y

  -- ---- the records
  abbrev own : Record
  own = record_here h tag body

  before : length reach.pre ≡ h.number
  before = omega (arith, reach.long)

  inside-long : length xs ≡ count x
  inside-long = records-length (inner h tag) x plain.2

  split : records_at top_site t ≡ reach.pre ++ ((own ∷ xs) ++ (ys ++ reach.post))
  split = reach.is ∙ ap (λ z. reach.pre ++ z) (ap (λ z. z ++ reach.post) (records-here h tag at body x y plain) ∙ append_assoc (own ∷ xs) ys reach.post)

  module _ (field : Record → ℕ) (l : List ℕ) (reads : (j : ℕ) → field (row m.lists j) ≡ get_or l j 0) (long : n ≤ length l) where
    field_is : take n l ≡ map field reach.pre ++ (map field (own ∷ xs) ++ map field (ys ++ reach.post))
    field_is =
        held-field n m t held field l reads long
        ∙ (ap (map field) split ∙ (map-append field reach.pre ((own ∷ xs) ++ (ys ++ reach.post))
        ∙ ap (λ z. map field reach.pre ++ z) (map-append field (own ∷ xs) (ys ++ reach.post))))

    field-before : length (map field reach.pre) ≡ h.number
    field-before = length-map reach.pre field ∙ before

    field-inside : length (map field (own ∷ xs)) ≡ suc (count x)
    field-inside = length-map (own ∷ xs) field ∙ ap suc inside-long

    -- the item's own number
    pub field-here : get_or l h.number 0 ≡ field (record_here h tag body)
    field-here =
        let whole : l ≡ map field reach.pre ++ (field own ∷ ((map field xs ++ map field (ys ++ reach.post)) ++ drop n l)) =
        sym (take-append-drop n l) ∙ (ap (λ z. z ++ drop n l) field_is ∙ append_assoc (map field reach.pre) (map field (own ∷ xs) ++ map field (ys ++ reach.post)) (drop n l)) in
        ap (λ z. get_or z h.number 0) whole ∙ get_or_at (map field reach.pre) (field own) ((map field xs ++ map field (ys ++ reach.post)) ++ drop n l) 0 h.number field-before

    -- those of the records before it, those of its own records, and those of the records behind its first
    numbers-before : between l 0 h.number ≡ map field reach.pre
    numbers-before =
        part-second l n [] (map field reach.pre) (map field (own ∷ xs) ++ map field (ys ++ reach.post)) field_is 0 h.number refl (omega (arith, field-before))

    numbers-inside : between l h.number (h.number + suc (count x)) ≡ map field (own ∷ xs)
    numbers-inside =
        part-second l n (map field reach.pre) (map field (own ∷ xs)) (map field (ys ++ reach.post)) field_is h.number (h.number + suc (count x)) field-before
        (omega (arith, field-inside))

    numbers-behind : between l (suc h.number) n ≡ map field xs ++ map field (ys ++ reach.post)
    numbers-behind =
        let k : suc h.number ≡ length (map field reach.pre) + 1 = omega (arith, field-before) in
        ap (λ i. between l i n) k ∙ cut-part l n long (map field reach.pre) (field own ∷ []) (map field xs ++ map field (ys ++ reach.post)) field_is

  pub site-fits : h.number + suc (count x) ≤ n
  site-fits =
      let e = field_is (λ r. r.tag) m.lists.tags (λ j. refl) (enough n m t held).tags in
      let k : length (take n m.lists.tags) ≡ n = length_part m.lists.tags 0 n (omega (arith, (enough n m t held).tags)) in
      let a = map (λ r. r.tag) reach.pre in
      let b = map (λ r. r.tag) (own ∷ xs) in
      let c = map (λ r. r.tag) (ys ++ reach.post) in
      omega (
        arith,
        ap length e,
        length-append a (b ++ c),
        length-append b c,
        field-before (λ r. r.tag) m.lists.tags (λ j. refl) (enough n m t held).tags,
        field-inside (λ r. r.tag) m.lists.tags (λ j. refl) (enough n m t held).tags,
      )

  -- ---- where its records end
  pub site-ends : suc h.number + deeper (get_or m.lists.depths h.number 0) (between m.lists.depths (suc h.number) n) ≡ h.number + suc (count x)
  unfolding below past deeper
  site-ends =
      let ds = m.lists.depths in
      let long = (enough n m t held).depths in
      let depth : Record → ℕ = λ r. r.depth in
      let d = h.spot.depth in
      let deep : get_or ds h.number 0 ≡ d = field-here depth ds (λ j. refl) long ∙ here-depth h tag body in
      let stop : deeper d (map depth (ys ++ reach.post)) ≡ 0 =
      ap (deeper d) (map-append depth ys reach.post ∙ ap (λ z. map depth ys ++ z) (sym (append-nil (map depth reach.post))))
      ∙ stop-records y (beyond h tag body x) plain.3 d (omega arith) (map depth reach.post ++ []) (reach.stops [] refl) in
      let pass = deep-records x (inner h tag) plain.2 d (omega arith) (map depth (ys ++ reach.post)) in
      let all : deeper (get_or ds h.number 0) (between ds (suc h.number) n) ≡ count x =
      ap₂ deeper deep (numbers-behind depth ds (λ j. refl) long) ∙ (pass ∙ omega arith) in
      omega arith

  -- ---- what is taken of the store before it, and by it
  pub site-place : sum_of (between m.lists.sizes 0 h.number) ≡ h.place
  site-place = ap sum_of (numbers-before (λ r. r.size) m.lists.sizes (λ j. refl) (enough n m t held).sizes) ∙ omega (arith, reach.place)

  pub site-octets : sum_of (between m.lists.sizes h.number (h.number + suc (count x))) ≡ length (share h.spot.parent tag body x)
  unfolding sum_of
  site-octets =
      ap sum_of (numbers-inside (λ r. r.size) m.lists.sizes (λ j. refl) (enough n m t held).sizes)
      ∙ item-sum h tag at body x y plain (sum-records x (inner h tag) plain.2)

  stored_at : StoreSwapped top_site t t' h u w
  stored_at = swapped-store v (ruled-plain t at_top held.whole.rules)

  abbrev part : List ℕ
  part = share h.spot.parent tag body x

  store_split : packed_store t ≡ stored_at.pre ++ (part ++ (store_in [] h.spot.parent y ++ stored_at.post))
  unfolding at_top
  store_split =
      stored_at.old ∙ ap (λ z. stored_at.pre ++ z) (ap (λ z. z ++ stored_at.post) (store-here h.spot.parent tag at body x y plain.0)
      ∙ append_assoc part (store_in [] h.spot.parent y) stored_at.post)

  store-before : length stored_at.pre ≡ h.place
  store-before = omega (arith, stored_at.long)

  pub site_within : h.place + length (share h.spot.parent tag body x) ≤ length (packed_store t)
  site_within =
      let rest = store_in [] h.spot.parent y ++ stored_at.post in
      omega (arith, ap length store_split, length-append stored_at.pre (part ++ rest), length-append part rest, store-before)

  site-span : between m.store h.place (h.place + length part) ≡ part
  site-span =
      let s = held-store n m t held in
      part-second m.store (length (packed_store t)) stored_at.pre part (store_in [] h.spot.parent y ++ stored_at.post) (s.1 ∙ store_split) h.place
      (h.place + length part) store-before refl

  -- ---- its element, and what it adds to it
  seen : Seen (row m.lists) n h tag
  unfolding is_end first_tag
  seen = site-seen n m t held v above refl

  pub site-parent : get_or m.lists.parents h.number 0 ≡ h.up
  site-parent = seen.parent

  pub site-tag : get_or m.lists.tags h.number 0 ≡ tag
  site-tag = seen.own

  pub site-element : get_or m.lists.tags (get_or m.lists.parents h.number 0) 0 ≡ h.spot.parent
  site-element = ap (λ j. get_or m.lists.tags j 0) seen.parent ∙ seen.element

  pub site-body : get_or m.bodies h.number 0 ≡ body_size h.spot.parent tag body x
  unfolding at_top
  site-body =
      body-here m.lists.parents m.bodies h tag at body x y (swapped-rules v held.whole.rules).kept
      (lie-down m.lists.parents m.bodies v held.whole.rules (lies n m t held))

  abbrev p : ℕ
  p = h.spot.parent

  abbrev added : ℕ → ℕ → ℕ
  added start long = added_by p tag start long m.store (body_size p tag body x)

  added-open : opens tag ≡ true → added own.start own.size ≡ item_adds p tag body (body_size p tag body x)
  unfolding added_by default_octets
  added-open o =
      let size = body_size p tag body x in
      ap (λ r. added r.start r.size) (here-open h tag body o)
      ∙ (both (leb (0 + 0) (length m.store)) ∙ sym (open-adds p tag body size o))
    where
      both : (b : Bool) → cond b (framed_size (body_size p tag body x)) (framed_size (body_size p tag body x)) ≡ framed_size (body_size p tag body x)
      both true = refl
      both false = refl

  added-shut : opens tag ≡ false → added own.start own.size ≡ item_adds p tag body (body_size p tag body x)
  unfolding added_by at_top
  added-shut o =
      let same : stored [] (known p tag) body ≡ body = (own-down v (own-packed t at_top 0 held.whole.rules held.packs)).0 o in
      let is : part ≡ body = share-shut p tag body x o ∙ same in
      let n₁ = ap length is in
      let span : take (length body) (drop h.place m.store) ≡ body =
      ap (λ k. take k (drop h.place m.store)) (sym (add-sub_cancel_left h.place (length part) ∙ n₁)) ∙ (site-span ∙ is) in
      let fits : leb (h.place + length body) (length m.store) ≡ true =
      le-leb (h.place + length body) (length m.store) (omega (arith, site_within, (held-store n m t held).0)) in
      ap (λ r. added r.start r.size) (here-shut h tag body o) ∙ (ap (λ b. added h.place (length b)) same ∙ rw (fits, span))

  -- in the words of the check that held memory
  pub site-adds : added_by (get_or m.lists.tags (get_or m.lists.parents h.number 0) 0) (get_or m.lists.tags h.number 0) (get_or m.lists.starts h.number 0)
      (get_or m.lists.sizes h.number 0) m.store (get_or m.bodies h.number 0)
      ≡ item_adds h.spot.parent tag body (body_size h.spot.parent tag body x)
  site-adds =
      let s = field-here (λ r. r.start) m.lists.starts (λ j. refl) (enough n m t held).starts in
      let z = field-here (λ r. r.size) m.lists.sizes (λ j. refl) (enough n m t held).sizes in
      (λ i. added_by (site-element i) (site-tag i) (s i) (z i) m.store (site-body i)) ∙ go (opens tag) refl
    where
      go : (o : Bool) → opens tag ≡ o → added own.start own.size ≡ item_adds p tag body (body_size p tag body x)
      go true o = added-open o
      go false o = added-shut o
