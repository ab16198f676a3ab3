-- An element that may stand where it is put: whether it fits, the gap that is opened for it, and that what is then laid makes memory hold the new tree.
use mathlib.Core.Path.{◌≡◌, refl, sym, ap, ap₂, ◌∙◌, subst}
use mathlib.Core.Bool.{Bool, true, false, cond, not, ◌&&◌, ◌||◌, and-false, false≢true}
use mathlib.Core.Option.{some, some-injective}
use mathlib.Core.List.{List, [], ◌∷◌, ◌++◌, append-nil, map}
use Prim.Native.Nat.{ℕ, suc, ◌+◌, ◌≤◌, ◌<◌}
use native.Mathlib.Nat.{add-zero, le-min}
use native.Mathlib.Omega.{arith}
use lib.Dec.{eqb, leb, ltb}
use lib.ListN.{length, get_or, length-append, length-map}
use lib.Seq.{sets, length-sets, get_or-take}
use borrow.Author.Tests.{leb-true, leb-false, lt-leb, ltb-true, ltb-false}
use Rattle.octets.specs.Counts.{as_octets}
use Rattle.octets.specs.Numbers.{Octets}
use Rattle.octets.specs.Places.{between}
use Rattle.values.specs.Table.{attribute}
use Rattle.octets.proofs.Lists.{sets-append, sets-comm}
use Rattle.octets.proofs.Tests.{and_left, and_right, never, chosen, not_chosen}
use Rattle.format.specs.Answers.{refusal}
use Rattle.format.specs.declared.Record.{Record}
use Rattle.format.specs.Tree.{Items, count, records}
use Rattle.format.specs.Tree.Items.{end, item}
use Rattle.format.specs.Judge.{read}
use Rattle.format.specs.Judge.Judged.{refused, accepted}
use Rattle.format.specs.Meaning.{opens, is_child, means, encode}
use Rattle.format.specs.Writer.{below, at_top, ruled}
use Rattle.format.specs.Loaded.{store_in, loaded_in}
use Rattle.format.specs.Calls.{places}
use Rattle.format.specs.State.{Memory, places_in, body_sizes, packed, packed_store, lay_tree, tree_held}
use Rattle.format.proofs.Kept.{Ruled, ruled-parts, is-ruled, keeps-parts}
use Rattle.format.proofs.Fine.{placed-parts}
use Rattle.format.proofs.Tabled.{count-item}
use Rattle.format.proofs.Written.{Bytes, located-bytes, ruled-told}
use Rattle.format.proofs.Calls.{lay-fields}
use Rattle.format.proofs.Told.{Told}
use Rattle.format.proofs.Defaults.{own-few}
use Rattle.format.proofs.Loading.{loaded-keeps}
use Rattle.text.proofs.Expansion.{sound_empty}
use Rattle.judge.specs.Inside.{beginning}
use Rattle.survey.specs.Normal.{framed_size, normal_size}
use Rattle.survey.specs.Sizes.{sizes_of}
use Rattle.survey.specs.Makers.{store_octets}
use Rattle.survey.specs.Measure.{measured_in}
use Rattle.survey.proofs.NormalSizes.{size-whole}
use Rattle.survey.specs.declared.measure.Sizes.{Sizes}
use Rattle.reader.specs.Filling.{Accepts}
use Rattle.state.proofs.HeldTree.{Held, sizes-count}
use Rattle.state.proofs.Packed.{loaded-again}
use Rattle.state.proofs.SizesHeld.{own-packed}
use Rattle.state.proofs.BodySizes.{body_size, size-item}
use Rattle.std.specs.Prelude.{Some, Result, Ok, Err, Option, None}
use Rattle.edits.specs.declared.EditError.{EditError}
use Rattle.edits.specs.declared.EditError.TheVariants.{NoRecords, NoRoom}
use Rattle.edits.specs.Errors.{refusal_of}
use Rattle.edits.specs.Tree.{record_at, change_at, holding, put_child, first_tag, inside_of, element_of, changed}
use Rattle.edits.specs.Tree.Edit.{insert}
use Rattle.edits.specs.Calls.{edited_in}
use Rattle.edits.specs.Sites.{Site, top_site, inner, share, records_at, store_at, shifted, shifted_starts}
use Rattle.edits.specs.Extents.{sum_of}
use Rattle.edits.specs.Sizes.{raised, up_from, Climbs}
use Rattle.edits.specs.declared.resite.Gap.{Gap}
use Rattle.edits.specs.Resites.{Resites, Resited}
use Rattle.edits.specs.Lay.{added_in, own_sizes, Space, ItemsLeft, ItemsLayable, ItemsLay}
use Rattle.edits.specs.declared.lay.Level.{Level}
use Rattle.edits.specs.declared.lay.Laid.{Laid}
use Rattle.edits.specs.Insertion.{found_at, child_of, admitted, top_then, gap_for, opened_by, fitted_by, SmallSizes, Fittable, level_of, begun, PutsIn}
use Rattle.edits.proofs.Swaps.{Plain, ruled-plain, swapped-count, swapped-rules}
use Rattle.edits.proofs.Records.{records-length, StoreSwapped, swapped-store}
use Rattle.edits.proofs.Sites.{plain-count, record_here, records-here, store-here, shifted-low, shifted-high}
use Rattle.edits.proofs.CutLists.{enough, held-field}
use Rattle.edits.proofs.SizesPacked.{sizes-loaded}
use Rattle.edits.proofs.Summed.{own-sizes}
use Rattle.edits.proofs.Carrying.{raised-length}
use Rattle.edits.proofs.Elements.{element-whole}
use Rattle.edits.proofs.Gaps.{gap_at, Roomy, resites}
use Rattle.edits.proofs.Stores.{held-store, held-places}
use Rattle.edits.proofs.Standing.{packed-count, packed-store, packed-means}
use Rattle.edits.proofs.Changed.{element-bytes, changed-bytes}
use Rattle.edits.proofs.Holds.{Piece, nothing, piece_of, number_past, place_past, InsertHolds, edit-holds}
use Rattle.edits.proofs.StoreFits.{store-less, store-short}
use Rattle.edits.proofs.FoundPlaces.{site-low, site-place, own-tag, own-depth, child-found}
use Rattle.edits.proofs.FoundElements.{Accepted}
use Rattle.edits.proofs.InsertSizes.{few-records, part-less, records-low, low-at}
use Rattle.edits.proofs.Inserted.{settles, before-is, K, rules, counted, there-before, inside_is, ruled-ends, Ready}

module _ (n i k : ℕ) (m : Memory) (t : Items) (holds : tree_held n m ≡ some t) (os : Octets m.store) (o : List ℕ) (bo : Octets o) (j : ℕ)
    (found : child_of n i k m.lists.tags m.lists.depths ≡ Some j) (c : ℕ) (sizes : Option Sizes) (ready : Ready n i k m t holds o j found c sizes) where
  abbrev p : ℕ
  p = get_or m.lists.tags i 0

  abbrev d : ℕ
  d = get_or m.lists.depths i 0

  held-tree : Held n m t
  held-tree = K n i k m t holds o

  old-rules : ruled at_top t ≡ true
  old-rules = rules n i k m t holds o

  abbrev x : Accepted p d o c sizes
  x = ready.element

  abbrev element : Items
  element = item x.tag x.at x.body x.x end

  abbrev pub after : Items
  after = change_at (holding (put_child k element)) i t

  in_place : inside_of (record_at i t) ≡ beginning p d
  in_place = inside_is n i k m t holds o j found

  changes : changed (insert i k o) t ≡ some after
  unfolding changed
  changes = rw (in_place, x.is)

  bytes : Bytes after
  bytes = changed-bytes (insert i k o) t after (located-bytes m.store os t held-tree.whole.located) bo changes

  pub H : InsertHolds n m t after i k o
  H = edit-holds (insert i k o) n m t after holds os bo (there-before n i k m t holds o j found) changes ready.keeps

  -- the same element
  abbrev put_in : Items
  put_in = item H.tag H.at H.body H.x end

  same : element ≡ put_in
  same = some-injective element put_in (sym x.is ∙ (ap (λ z. element_of z o) (sym in_place) ∙ H.element))

  abbrev pub h : Site
  h = H.place.site

  abbrev rest : Items
  rest = H.place.rest

  abbrev pub put : Piece
  put = piece_of h H.tag H.body H.x

  -- ---- the site, by the lists
  placed : (opens H.stands.tag ≡ true) × (eqb H.place.lacks 0 ≡ true) × (h.number ≡ j)
  unfolding found_at
  placed =
      before-is (opens H.stands.tag) (eqb H.place.lacks 0) h.number j
      (sym (child-found n m t held-tree i k (holding (put_child k put_in)) H.stands put_in H.place) ∙ found)

  pub at-number : h.number ≡ j
  at-number = placed.2

  pub at_up : h.up ≡ i
  at_up = H.place.up ∙ (H.stands.number ∙ omega arith)

  pub at-parent : h.spot.parent ≡ p
  unfolding below
  at-parent = H.place.parent ∙ sym (own-tag n m t held-tree i k (holding (put_child k put_in)) H.stands)

  pub at-depth : h.spot.depth ≡ suc d
  unfolding below
  at-depth = H.place.depth ∙ ap suc (sym (own-depth n m t held-tree i k (holding (put_child k put_in)) H.stands))

  pub at_low : h.up < h.number
  at_low = H.place.under (omega arith)

  -- ---- what it takes
  old-plain : Plain t
  old-plain = ruled-plain t at_top old-rules

  new-rules : ruled h.spot (item H.tag H.at H.body H.x rest) ≡ true
  unfolding at_top
  new-rules = sym (swapped-rules H.swapped old-rules).same ∙ ready.keeps

  parts : Ruled h.spot H.tag H.body H.x rest
  parts = ruled-parts h.spot H.tag H.at H.body H.x rest new-rules

  plain-put : Plain (item H.tag H.at H.body H.x rest)
  plain-put = ruled-plain (item H.tag H.at H.body H.x rest) h.spot new-rules

  pub many : length put.records ≡ c
  unfolding count
  many =
      let a : length put.records ≡ suc (count H.x) = ap suc (records-length (inner h H.tag) H.x plain-put.2) in
      omega (arith, x.many, ap count same, count-item H.tag H.at H.body H.x end plain-put.0)

  pub taken : length put.octets ≡ length (store_in [] p element)
  unfolding store_in
  taken =
      ap (λ q. length (share q H.tag H.body H.x)) at-parent
      ∙ (ap length (sym (store-here p H.tag H.at H.body H.x end plain-put.0 ∙ append-nil (share p H.tag H.body H.x)))
      ∙ ap (λ z. length (store_in [] p z)) (sym same))

  pub added : put.adds-to ≡ normal_size p element
  unfolding normal_size ruled
  added =
      let alone : Ruled h.spot H.tag H.body H.x end = record { holder = parts.holder; rules = parts.rules; within = parts.within; beside = refl } in
      let a = size-item h.spot H.tag H.at H.body H.x end alone in
      let b : put.adds-to ≡ normal_size h.spot.parent put_in = sym (a ∙ add-zero put.adds-to) in
      b ∙ ap₂ (λ q z. normal_size q z) at-parent (sym same)

  pub more : count after ≡ n + c
  more =
      let a = count-item H.tag H.at H.body H.x rest plain-put.0 in
      let b : length put.records ≡ suc (count H.x) = ap suc (records-length (inner h H.tag) H.x plain-put.2) in
      omega (arith, swapped-count H.swapped old-plain, counted n i k m t holds o, many)

  abbrev pub used : ℕ
  used = length (packed_store t)

  stored_at : StoreSwapped top_site t after h rest (item H.tag H.at H.body H.x rest)
  stored_at = swapped-store H.swapped old-plain

  pub stored_more : length (packed_store after) ≡ used + length put.octets
  unfolding at_top
  stored_more =
      let q = h.spot.parent in
      let a = ap length stored_at.old ∙ length-append stored_at.pre (store_in [] q rest ++ stored_at.post) in
      let b = ap length stored_at.new ∙ length-append stored_at.pre (store_at h (item H.tag H.at H.body H.x rest) ++ stored_at.post) in
      let e = ap length (store-here q H.tag H.at H.body H.x rest plain-put.0) ∙ length-append (share q H.tag H.body H.x) (store_in [] q rest) in
      omega (arith, length-append (store_in [] q rest) stored_at.post, length-append (store_at h (item H.tag H.at H.body H.x rest)) stored_at.post)

  pub place-low : h.place ≤ used
  unfolding at_top
  place-low = omega (arith, ap length stored_at.old, length-append stored_at.pre (store_at h rest ++ stored_at.post), stored_at.long)

  pub normal-is : length (encode (means [] after)) ≡ framed_size (top_then i (normal_size p element) m)
  normal-is = sym H.holds.whole ∙ ap₂ (λ u a. framed_size (top_then u a m)) at_up added

  pub place_is : sum_of (between m.lists.sizes 0 j) ≡ h.place
  place_is = ap (λ z. sum_of (between m.lists.sizes 0 z)) (sym at-number) ∙ site-place n m t held-tree H.swapped

  -- ---- how it ends
  pub ends : edited_in m (insert i k o) (some t)
      ≡ cond (leb (n + c) (places_in m))
      (cond (leb (used + length (store_in [] p element)) (length m.store) && leb (framed_size (top_then i (normal_size p element) m)) 32_768) (accepted (packed after)) (refused (refusal 15 0)))
      (refused (refusal 14 0))
  ends =
      let a : count (packed after) ≡ n + c = packed-count after bytes ready.keeps ∙ more in
      let b : length (packed_store (packed after)) ≡ used + length (store_in [] p element) = ap length (packed-store after bytes ready.keeps) ∙ (stored_more ∙ ap (λ z. used + z) taken) in
      let e : length (encode (means [] (packed after))) ≡ framed_size (top_then i (normal_size p element) m) = ap (λ z. length (encode z)) (packed-means after bytes ready.keeps) ∙ normal-is in
      ruled-ends n i k m t holds o j found element x.is ready.keeps
      ∙ (settles m (packed after)
      ∙ (λ z. cond (leb (a z) (places_in m)) (cond (leb (b z) (length m.store) && leb (e z) 32_768) (accepted (packed after)) (refused (refusal 15 0))) (refused (refusal 14 0))))

  pub count-then : count (packed after) ≡ n + c
  count-then = packed-count after bytes ready.keeps ∙ more

  -- an element that is larger than an object may be makes the object so
  pub too_large : 32_768 < normal_size p element → leb (framed_size (top_then i (normal_size p element) m)) 32_768 ≡ false
  unfolding at_top
  too_large l =
      let a = size-item h.spot H.tag H.at H.body H.x rest parts in
      lt-leb (framed_size (top_then i (normal_size p element) m)) 32_768 (omega (arith, normal-is, part-less H.swapped, size-whole after ready.keeps, added))

  -- ---- whether it fits
  sizes-are : sizes ≡ sizes_of (length (store_in [] p element)) (normal_size p element)
  unfolding measured_in
  sizes-are = x.takes

  -- it does, as the code finds
  pub record Room (s a : ℕ) : Type 0 where
    pub stored : s ≡ length (store_in [] p element)
    pub octets : a ≡ normal_size p element
    pub places : n + c ≤ places_in m
    pub room : used + length (store_in [] p element) ≤ length m.store
    pub small : framed_size (top_then i (normal_size p element) m) ≤ 32_768
    pub is : edited_in m (insert i k o) (some t) ≡ accepted (packed after)

  pub data Fit : Result Gap EditError → Type 0 where
    refuses : (q : EditError) → edited_in m (insert i k o) (some t) ≡ refused (refusal_of q) → Fit (Err q)
    goes_in : (s a : ℕ) → Room s a → Fit (Ok (gap_for n used i j c s a m.lists.sizes))

  pub fits : Fit (fitted_by n used i m (Ok (admitted j c sizes)))
  unfolding fitted_by opened_by sizes_of
  fits = go (leb (n + c) (places_in m)) refl
    where
      S : ℕ
      S = length (store_in [] p element)

      A : ℕ
      A = normal_size p element

      over : leb (n + c) (places_in m) ≡ true → (b : Bool) → leb (used + S) (length m.store) && leb (framed_size (top_then i A m)) 32_768 ≡ b → b ≡ false
          → edited_in m (insert i k o) (some t) ≡ refused (refusal 15 0)
      over q b e z = ends ∙ rw (q, e ∙ z)

      enough-room : leb (n + c) (places_in m) ≡ true → (s a : ℕ) → s ≡ S → a ≡ A → (b : Bool) → leb (used + s) (length m.store) && leb (framed_size (top_then i a m)) 32_768 ≡ b
          → Fit (cond b (Ok (gap_for n used i j c s a m.lists.sizes)) (Err NoRoom))
      enough-room q s a se ae b e =
          let f : leb (used + S) (length m.store) && leb (framed_size (top_then i A m)) 32_768 ≡ b =
          (λ z. leb (used + sym se z) (length m.store) && leb (framed_size (top_then i (sym ae z) m)) 32_768) ∙ e in
          by b f
        where
          by : (b : Bool) → leb (used + S) (length m.store) && leb (framed_size (top_then i A m)) 32_768 ≡ b
              → Fit (cond b (Ok (gap_for n used i j c s a m.lists.sizes)) (Err NoRoom))
          by false f = refuses NoRoom (over q false f refl)
          by true f = goes_in s a (record {
            stored = se;
            octets = ae;
            places = leb-true (n + c) (places_in m) q;
            room = leb-true (used + S) (length m.store) (and_left (leb (used + S) (length m.store)) (leb (framed_size (top_then i A m)) 32_768) f);
            small = leb-true (framed_size (top_then i A m)) 32_768 (and_right (leb (used + S) (length m.store)) (leb (framed_size (top_then i A m)) 32_768) f);
            is = ends ∙ rw (q, f);
          })

      measured : leb (n + c) (places_in m) ≡ true → (z : Option Sizes) → z ≡ cond (leb A 32_768) (Some (store_octets (as_octets S) (as_octets A))) None → Fit (opened_by n used i j c m z)
      measured q None e =
          let w = not_chosen (leb A 32_768) e (λ y. never (cc)) in
          let f : leb (used + S) (length m.store) && leb (framed_size (top_then i A m)) 32_768 ≡ false =
          ap (λ b. leb (used + S) (length m.store) && b) (too_large (leb-false A 32_768 w.0)) ∙ and-false (leb (used + S) (length m.store)) in
          refuses NoRoom (over q false f refl)
      measured q (Some taken) e =
          let w = chosen (leb A 32_768) e (λ y. never (cc)) in
          let u = w.1 in
          let same : taken ≡ store_octets (as_octets S) (as_octets A) = cc in
          let s = taken.store.0 in
          let a = taken.octets.0 in
          enough-room q s a (ap (λ y. y.store.0) same) (ap (λ y. y.octets.0) same)
          (leb (used + s) (length m.store) && leb (framed_size (top_then i a m)) 32_768) refl

      go : (b : Bool) → leb (n + c) (places_in m) ≡ b → Fit (cond b (opened_by n used i j c m sizes) (Err NoRecords))
      go true q = measured q sizes sizes-are
      go false q = refuses NoRecords (ends ∙ rw q)

  -- ---- the element as it is loaded at its site
  abbrev q : ℕ
  q = h.spot.parent

  alone : Ruled h.spot H.tag H.body H.x end
  unfolding ruled
  alone = record { holder = parts.holder; rules = parts.rules; within = parts.within; beside = refl }

  alone-rules : ruled h.spot put_in ≡ true
  alone-rules = is-ruled h.spot H.tag H.at H.body H.x end alone

  alone-told : Told [] h.spot put_in
  alone-told = ruled-told put_in h.spot (element-bytes (inside_of (record_at i t)) o put_in bo H.element) alone-rules

  alone-plain : Plain put_in
  alone-plain = ruled-plain put_in h.spot alone-rules

  -- what measuring asks
  old-bytes : Bytes t
  old-bytes = located-bytes m.store os t held-tree.whole.located

  used-short : used ≤ 32_768
  used-short = omega (arith, store-short t old-bytes old-rules, held-tree.small)

  all-places : n ≤ places_in m
  unfolding places_in
  all-places = le-min (held-places n m t held-tree) held-tree.fewer

  pub can-fit : Fittable n used i (admitted j c sizes) m
  unfolding sizes_of
  can-fit = record {
    all = all-places;
    filled = (held-store n m t held-tree).0;
    climbs = subst (λ u. Climbs m.lists.parents m.bodies u 0) at_up H.holds.climbs;
    small = small sizes sizes-are;
    low = omega (arith, at-number, site-low n m t held-tree H.swapped);
    place = omega (arith, place_is, place-low, used-short);
  }
    where
      small : (z : Option Sizes) → z ≡ sizes_of (length (store_in [] p element)) (normal_size p element) → SmallSizes z
      small None e = tt
      small (Some taken) e =
          let w = chosen (leb (normal_size p element) 32_768) e (λ y. never (cc)) in
          let u = w.1 in
          let measured : taken ≡ store_octets (as_octets (length (store_in [] p element))) (as_octets (normal_size p element)) = cc in
          let se = ap (λ y. y.store) measured in
          let ae = ap (λ y. y.octets) measured in
          let l = leb-true (normal_size p element) 32_768 w.0 in
          let f = ap₂ (λ y z. length (store_in [] y z)) at-parent (sym same) in
          let g = ap₂ (λ y z. normal_size y z) at-parent (sym same) in (
            omega (arith, ap (λ y. y.0) ae),
            omega (arith, ap (λ y. y.0) se, store-less put_in h.spot alone-rules alone-told, own-few [] put_in h.spot alone-told),
          )

  abbrev loaded : Items
  loaded = loaded_in [] q h.place put_in

  loaded-own : (own_sizes q loaded ≡ body_sizes q loaded) × (added_in q loaded ≡ normal_size q loaded)
  loaded-own =
      let r = loaded-keeps [] sound_empty put_in h.spot alone-told h.place h.spot.stage h.spot.seen (omega arith) (λ a e. e) in
      own-sizes loaded h.spot r (own-packed loaded h.spot h.place r ((loaded-again [] sound_empty put_in h.spot alone-told).tree h.place h.place))

  loaded-as : (body_sizes q loaded ≡ body_sizes q put_in) × (normal_size q loaded ≡ normal_size q put_in)
  loaded-as = sizes-loaded put_in h.spot alone-rules alone-told h.place

  loaded-records : records_at h put_in ≡ put.records
  unfolding records loaded_in
  loaded-records = records-here h H.tag H.at H.body H.x end alone-plain ∙ ap {B = List Record} (λ z. record_here h H.tag H.body ∷ z) (append-nil (records_at (inner h H.tag) H.x))

  loaded-sizes : own_sizes q loaded ≡ put.sizes
  unfolding body_sizes
  loaded-sizes = loaded-own.0 ∙ (loaded-as.0 ∙ ap {B = List ℕ} (λ z. body_size q H.tag H.body H.x ∷ z) (append-nil (body_sizes H.tag H.x)))

  loaded-octets : store_in [] q put_in ≡ put.octets
  unfolding store_in
  loaded-octets = store-here q H.tag H.at H.body H.x end plain-put.0 ∙ append-nil put.octets

  loaded-added : added_in q loaded ≡ put.adds-to
  loaded-added = loaded-own.1 ∙ (loaded-as.1 ∙ (ap₂ (λ a b. normal_size a b) at-parent (sym same) ∙ sym added))

  -- ---- the gap
  module _ (s a : ℕ) (room : Room s a) where
    abbrev gap : Gap
    gap = gap_for n used i j c s a m.lists.sizes

    gap-site : gap ≡ gap_at n used h nothing put
    unfolding gap_for
    gap-site =
        let from-number : j ≡ h.number + 0 = sym at-number ∙ sym (add-zero h.number) in
        let to_number : j + c ≡ h.number + length put.records = ap₂ ◌+◌ (sym at-number) (sym many) in
        let from_place : sum_of (between m.lists.sizes 0 j) ≡ h.place + 0 = place_is ∙ sym (add-zero h.place) in
        let to-place : sum_of (between m.lists.sizes 0 j) + s ≡ h.place + length put.octets = ap₂ ◌+◌ place_is (room.stored ∙ sym taken) in
        let is = room.octets ∙ sym added in
        λ z. record {
          records = record { from = from-number z; end = n; to = to_number z };
          octets = record { from = from_place z; end = used; to = to-place z };
          element = sym at_up z;
          was = as_octets 0;
          is = as_octets (is z);
        }

    normal-short : length (encode (means [] after)) ≤ 32_768
    normal-short = omega (arith, normal-is, room.small)

    pub all-few : n + c ≤ 49_152
    all-few = omega (arith, few-records after bytes ready.keeps, more, normal-short)

    store-few : used + length put.octets ≤ 32_768
    store-few = omega (arith, stored_more, store-short after bytes ready.keeps, normal-short)

    some-record : 0 < n
    some-record = held-tree.whole.some

    parent-low : (l : ℕ) → l < n → get_or m.lists.parents l 0 < n
    parent-low l b =
        let f = held-field n m t held-tree (λ r. r.parent) m.lists.parents (λ j. refl) (enough n m t held-tree).parents in
        let e : get_or m.lists.parents l 0 ≡ get_or (map (λ r. r.parent) (records_at top_site t)) l 0 =
        sym (get_or-take n m.lists.parents l 0 b) ∙ ap (λ z. get_or z l 0) f in
        omega (arith, low-at n (records_at top_site t) (records-low t top_site old-plain n some-record (omega (arith, counted n i k m t holds o))) some-record l)

    shifted-few : (l : ℕ) → l < n → shifted (number_past h nothing) (number_past h put) l ≤ 65_535
    shifted-few l b = go (ltb l (number_past h nothing)) refl
      where
        go : (z : Bool) → ltb l (number_past h nothing) ≡ z → shifted (number_past h nothing) (number_past h put) l ≤ 65_535
        go true e = omega (arith, shifted-low (number_past h nothing) (number_past h put) l (ltb-true l (number_past h nothing) e), all-few)
        go false e =
            let w = ltb-false l (number_past h nothing) e in
            omega (arith, shifted-high (number_past h nothing) (number_past h put) l (omega arith), all-few, many)

    added-few : put.adds-to ≤ 32_768
    unfolding at_top
    added-few =
        omega (arith, normal-is, normal-short, part-less H.swapped, size-whole after ready.keeps, size-item h.spot H.tag H.at H.body H.x rest parts)

    roomy : Roomy n used m h nothing put
    roomy = record {
      past = omega (arith, site-low n m t held-tree H.swapped);
      all = all-places;
      room = omega (arith, room.places, many, site-low n m t held-tree H.swapped);
      past-place = omega (arith, place-low);
      all-store = (held-store n m t held-tree).0;
      room_store = omega (arith, room.room, taken, place-low);
      numbers = λ l a b. shifted-few (get_or m.lists.parents l 0) (parent-low l b);
      starts = omega (arith, store-few, place-low);
      low = omega (arith, at_low);
      small = omega (arith, added-few);
    }

    pub gap-resites : Resites gap m
    gap-resites = subst (λ z. Resites z m) (sym gap-site) (resites n used (length (encode (means [] after))) m (lay_tree (packed after) m) h nothing put H.holds roomy normal-short)

    -- ---- the element is laid in it
    level-is : level_of i m ≡ record { element = q; number = h.up; depth = h.spot.depth }
    level-is =
        let e : d + 1 ≡ h.spot.depth = omega (arith, at-depth) in
        λ z. record { element = sym at-parent z; number = sym at_up z; depth = e z }

    begun-is : begun gap ≡ record { next = h.number; end = h.place; body = as_octets 0 }
    unfolding gap_for
    begun-is = λ z. record { next = sym at-number z; end = place_is z; body = as_octets 0 }

    abbrev level : Level
    level = record { element = q; number = h.up; depth = h.spot.depth }

    abbrev from : Laid
    from = record { next = h.number; end = h.place; body = as_octets 0 }

    reads : Accepts q h.spot.depth 0 o put_in
    unfolding inside_of beginning
    reads = record {
      context = beginning p d;
      is_element = sym at-parent;
      is_depth = sym at-depth;
      reads = ap (λ z. read z 0 o) (sym in_place) ∙ (element-whole (inside_of (record_at i t)) o put_in H.element).reads;
    }

    -- what moves
    abbrev behind : List ℕ → List ℕ
    behind l = between l (number_past h nothing) n

    abbrev parents-behind : List ℕ
    parents-behind = map (shifted (number_past h nothing) (number_past h put)) (behind m.lists.parents)

    abbrev starts-behind : List ℕ
    starts-behind = shifted_starts (place_past h nothing) (place_past h put) (behind m.lists.tags) (behind m.lists.starts)

    module _ (m₁ : Memory) (r : Resited gap m m₁) where
      opened : Resited (gap_at n used h nothing put) m m₁
      opened = subst (λ z. Resited z m m₁) gap-site r

      same-places : places_in m₁ ≡ places_in m
      unfolding places_in places
      same-places =
          let g = opened in
          let up = raised (up_from m.lists.parents h.up) 0 put.adds-to m.bodies in
          let a = ap length g.tags ∙ length-sets m.lists.tags (number_past h put) (behind m.lists.tags) in
          let b = ap length g.kinds ∙ length-sets m.lists.kinds (number_past h put) (behind m.lists.kinds) in
          let c = ap length g.depths ∙ length-sets m.lists.depths (number_past h put) (behind m.lists.depths) in
          let d = ap length g.parents ∙ length-sets m.lists.parents (number_past h put) parents-behind in
          let e = ap length g.starts ∙ length-sets m.lists.starts (number_past h put) starts-behind in
          let f = ap length g.sizes ∙ length-sets m.lists.sizes (number_past h put) (behind m.lists.sizes) in
          let w = ap length g.bodies ∙ (length-sets up (number_past h put) (behind m.bodies) ∙ raised-length (up_from m.lists.parents h.up) 0 put.adds-to m.bodies) in
          rw (a, b, c, d, e, f, w)

      same_store : length m₁.store ≡ length m.store
      same_store = ap length opened.store ∙ length-sets m.store (place_past h put) (between m.store (place_past h nothing) used)

      space : Space level from (count loaded) (length (store_in [] q put_in)) (added_in q loaded) m₁
      space =
          let many_is : count loaded ≡ c = plain-count put_in alone-plain q h.place ∙ (ap count (sym same) ∙ sym x.many) in
          let octets-are = ap length loaded-octets in
          record {
            above = omega (arith, at_low);
            few = omega (arith, all-few, site-low n m t held-tree H.swapped);
            holds = omega (arith, same-places, room.places, site-low n m t held-tree H.swapped);
            low = omega (arith, store-few, place-low);
            room = omega (arith, same_store, room.room, taken, place-low);
            sum = omega (arith, loaded-added, added-few);
          }

      pub gap-lays : ItemsLayable [] (level_of i m) (begun gap) o m₁
      gap-lays = subst (λ z. ItemsLayable [] z (begun gap) o m₁) (sym level-is) (subst (λ z. ItemsLayable [] level z o m₁) (sym begun-is) (record {
        offset = 0;
        tree = put_in;
        accepts = reads;
        space = space;
      }))

      -- ---- what memory holds then
      module _ (m' : Memory) (end-at : Laid) (laid : ItemsLay [] (level_of i m) (begun gap) o m₁ m' end-at) where
        left : ItemsLeft [] level from put_in m₁ m' end-at
        unfolding ItemsLay
        left =
            subst (λ z. ItemsLay [] level z o m₁ m' end-at) begun-is (subst (λ z. ItemsLay [] z (begun gap) o m₁ m' end-at) level-is laid) 0 put_in reads

        -- what is laid comes before what moved behind it
        laid-over : (l : List ℕ) (f : ℕ) (a b : List ℕ) (to : ℕ) → to ≡ f + length a → sets (sets l to b) f a ≡ sets l f (a ++ b)
        laid-over l f a b to e = sym (sets-comm l f a to b (omega arith)) ∙ (ap (λ z. sets (sets l f a) z b) e ∙ sets-append l f a b)

        field-laid : (field : Record → ℕ) (l l₁ l' b new : List ℕ) → l₁ ≡ sets l (number_past h put) b → l' ≡ sets l₁ h.number (map field (records_at h put_in))
            → new ≡ sets l h.number (map field put.records ++ b) → l' ≡ new
        field-laid field l l₁ l' b new e₁ e₂ e₃ =
            e₂ ∙ (ap₂ (λ z w. sets z h.number (map field w)) e₁ loaded-records
            ∙ (laid-over l h.number (map field put.records) b (number_past h put) (ap (λ z. h.number + z) (sym (length-map put.records field))) ∙ sym e₃))

        sizes-many : length put.records ≡ length put.sizes
        sizes-many =
            ap suc (records-length (inner h H.tag) H.x plain-put.2) ∙ ap suc (sym (sizes-count H.x (below h.spot H.tag) H.tag parts.within))

        pub leaves-tree : m' ≡ lay_tree (packed after) m
        leaves-tree =
            let g = opened in
            let w = left in
            let z = H.holds in
            let all = w.lists ∙ lay-fields (records_at h put_in) h.number m₁.lists in
            let u = m.lists in
            let v = m₁.lists in
            let ts = field-laid (λ r. r.tag) u.tags v.tags m'.lists.tags (behind u.tags) (lay_tree (packed after) m).lists.tags g.tags (ap (λ y. y.tags) all) z.tags in
            let ks = field-laid (λ r. r.kind) u.kinds v.kinds m'.lists.kinds (behind u.kinds) (lay_tree (packed after) m).lists.kinds g.kinds (ap (λ y. y.kinds) all) z.kinds in
            let ds = field-laid (λ r. r.depth) u.depths v.depths m'.lists.depths (behind u.depths) (lay_tree (packed after) m).lists.depths g.depths (ap (λ y. y.depths) all) z.depths in
            let ps = field-laid (λ r. r.parent) u.parents v.parents m'.lists.parents parents-behind (lay_tree (packed after) m).lists.parents g.parents (ap (λ y. y.parents) all) z.parents in
            let ss = field-laid (λ r. r.start) u.starts v.starts m'.lists.starts starts-behind (lay_tree (packed after) m).lists.starts g.starts (ap (λ y. y.starts) all) z.starts in
            let zs = field-laid (λ r. r.size) u.sizes v.sizes m'.lists.sizes (behind u.sizes) (lay_tree (packed after) m).lists.sizes g.sizes (ap (λ y. y.sizes) all) z.sizes in
            let up = raised (up_from u.parents h.up) 0 put.adds-to m.bodies in
            let bs = w.sizes ∙ (ap₂ (λ a b. sets a h.number b) g.bodies loaded-sizes
            ∙ (laid-over up h.number put.sizes (behind m.bodies) (number_past h put) (ap (λ y. h.number + y) sizes-many) ∙ sym z.bodies)) in
            let st = w.holds ∙ (ap₂ (λ a b. sets a h.place b) g.store loaded-octets
            ∙ (laid-over m.store h.place put.octets (between m.store (place_past h nothing) used) (place_past h put) refl ∙ sym z.store)) in
            λ y. record { lists = record { tags = ts y; kinds = ks y; depths = ds y; parents = ps y; starts = ss y; sizes = zs y }; bodies = bs y; store = st y }

    pub put-asks : PutsIn gap i o m
    unfolding first_tag is_child
    put-asks =
        let e = enough n m t held-tree in
        let lower : i < n = omega (arith, at_up, at_low, site-low n m t held-tree H.swapped) in
        record {
          there = omega (arith, e.tags);
          deep = omega (arith, e.depths);
          shallow = omega (arith, at-depth, deep-enough);
          opens-gap = gap-resites;
          lays = gap-lays;
        }
      where
        level-kept : (a b c l : Bool) → not (a || b || c) ≡ true → a || b || l ≡ true → l ≡ true
        level-kept true b c l e f = absurd (false≢true e)
        level-kept false true c l e f = absurd (false≢true e)
        level-kept false false c l e f = f

        deep-enough : h.spot.depth ≤ 16
        deep-enough =
            let g = H.tag in
            let child : is_child g ≡ true = ap is_child (sym (ap first_tag same)) ∙ x.child in
            let deep = (placed-parts h.spot g (keeps-parts h.spot g H.body parts.rules).place).deep in
            leb-true h.spot.depth 16 (level-kept (attribute g) (eqb g 1) (eqb g 4) (leb h.spot.depth 16) child deep)
