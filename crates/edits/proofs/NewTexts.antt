-- Replacing a text: what it comes to, by what the code asks, and that what is set is the tree with the new text.
use mathlib.Core.Path.{◌≡◌, refl, sym, ap, ap₂, ◌∙◌, subst}
use mathlib.Core.Bool.{Bool, true, false, cond, ◌&&◌, false≢true, and-false}
use mathlib.Core.Option.{some}
use mathlib.Core.List.{List, [], ◌∷◌, ◌++◌, map}
use Prim.Native.Nat.{ℕ, suc, ◌+◌, ◌-◌, ◌≤◌, ◌<◌}
use native.Mathlib.Nat.{le-min}
use native.Mathlib.Numerals.{add-one}
use native.Mathlib.Omega.{arith}
use lib.Dec.{leb, ltb}
use lib.ListN.{length, get_or, set, length-append}
use lib.Seq.{sets, set-get_or}
use borrow.Author.Tests.{le-leb, lt-leb, leb-true, leb-false, lt-ltb, ltb-true, ltb-false}
use Rattle.octets.specs.Numbers.{Octets}
use Rattle.octets.specs.Places.{between}
use Rattle.octets.proofs.Lists.{sets_same}
use Rattle.octets.proofs.Tests.{and_left, and_right, and-true}
use Rattle.text.proofs.Words.{expanded-empty}
use Rattle.values.specs.Table.{rows, attribute, kind_in, known}
use Rattle.values.specs.Values.{meant, octets_of}
use Rattle.values.specs.Calls.{default_octets}
use Rattle.values.proofs.DefaultValues.{default-enumerated}
use Rattle.format.specs.declared.Record.{Record}
use Rattle.format.specs.Answers.{refusal}
use Rattle.format.specs.Tree.{Items, count, record_of}
use Rattle.format.specs.Tree.Items.{end, item}
use Rattle.format.specs.Judge.{is_text, first, rule, unless}
use Rattle.format.specs.Judge.Judged.{refused, accepted}
use Rattle.format.specs.Meaning.{opens, means, encode}
use Rattle.format.specs.Writer.{at_top, ruled}
use Rattle.format.specs.Loaded.{stored, store_in}
use Rattle.format.specs.Calls.{Lists, row, roomy}
use Rattle.format.specs.State.{Memory, places_in, packed, packed_store, lay_tree, kept, tree_held}
use Rattle.format.proofs.Kept.{ruled-parts, keeps-parts}
use Rattle.format.proofs.Fine.{placed-parts}
use Rattle.format.proofs.Force.{top-known}
use Rattle.format.proofs.Means.{text-known}
use Rattle.format.proofs.Written.{Bytes, located-bytes}
use Rattle.survey.specs.Normal.{framed_size}
use Rattle.state.specs.Taking.{overflow, settled}
use Rattle.state.specs.Order.{item_adds}
use Rattle.state.proofs.HeldTree.{Held, held}
use Rattle.state.proofs.BodySizes.{body_size, size-shut}
use Rattle.edits.specs.Tree.{from, change_at, with_body, first_tag, is_there, changed}
use Rattle.edits.specs.Tree.Edit.{replace}
use Rattle.edits.specs.Calls.{edited, edited_in}
use Rattle.edits.specs.Sites.{Site, share, store_at, shifted, shifted_starts}
use Rattle.edits.specs.Sizes.{raised, up_from, Climbs}
use Rattle.edits.specs.Moves.{Shifts}
use Rattle.edits.specs.Texts.{is_text_at, around, text_fits, Sized, Settable, TextSet}
use Rattle.edits.proofs.Swaps.{ruled-plain, swapped-plain, swapped-count}
use Rattle.edits.proofs.Sites.{record_here, store-here}
use Rattle.edits.proofs.Cuts.{share-shut, shifted-same, swapped-up}
use Rattle.edits.proofs.Records.{swapped-store}
use Rattle.edits.proofs.Stores.{held-store, held-places, held-count}
use Rattle.edits.proofs.CutLists.{enough}
use Rattle.edits.proofs.Standing.{packed-means, packed-count, packed-store}
use Rattle.edits.proofs.Local.{text-shut, text-number}
use Rattle.edits.proofs.Changed.{changed-bytes}
use Rattle.edits.proofs.ElementTags.{text-told}
use Rattle.edits.proofs.Holds.{TextHolds, edit-holds}
use Rattle.edits.proofs.Followed.{part-later}
use Rattle.edits.proofs.Carrying.{raised-behind}
use Rattle.edits.proofs.Climbing.{framed-more}
use Rattle.edits.proofs.StoreFits.{store-short}
use Rattle.edits.proofs.Extents.{here-shut}
use Rattle.edits.proofs.AtSite.{field-here, site_within, site-parent, site-tag, site-element}

-- ---- lists of which a part is laid anew as it was
map_same : (f : ℕ → ℕ) → ((a : ℕ) → f a ≡ a) → (l : List ℕ) → map f l ≡ l
map_same f h [] = refl
map_same f h (a ∷ l) = ap₂ (λ x y. x ∷ y) (h a) (map_same f h l)

module _ (l : List ℕ) (i n : ℕ) where
  -- what is behind a number that is set
  set-kept : (a : ℕ) → sets l i (a ∷ between l (i + 1) n) ≡ set l i a
  set-kept a =
      ap (λ k. sets (set l i a) k (between l (i + 1) n)) (sym (add-one i))
      ∙ (ap (sets (set l i a) (i + 1)) (sym (part-later i n l a)) ∙ sets_same (set l i a) (i + 1) (n - (i + 1)))

  all-kept : (a : ℕ) → a ≡ get_or l i 0 → sets l i (a ∷ between l (i + 1) n) ≡ l
  all-kept a e = set-kept a ∙ (ap (set l i) e ∙ set-get_or l i 0)

-- ---- texts
text-stored : (p tag : ℕ) (o : List ℕ) → is_text (known p tag) ≡ true → stored [] (known p tag) o ≡ o
unfolding stored meant octets_of
text-stored p tag o h = ap (λ k. stored [] k o) (text-known (known p tag) h) ∙ expanded-empty o

-- a text is no default
text-counts : (p tag : ℕ) (o : List ℕ) (size : ℕ) → is_text (known p tag) ≡ true → item_adds p tag o size ≡ framed_size size
unfolding is_text
text-counts p tag o size h = ap (λ b. cond b 0 (framed_size size)) (go (default_octets p tag o) refl)
  where
    go : (b : Bool) → default_octets p tag o ≡ b → b ≡ false
    go false e = refl
    go true e = absurd (false≢true (ap is_text (sym (default-enumerated p tag o e)) ∙ h))

-- the top is none
top-text : (t : Items) → ruled at_top t ≡ true → (o : List ℕ) → is_there (replace 0 o) t ≡ true → ⊥
unfolding is_there first_tag from at_top is_text known attribute rows kind_in
top-text end r o a = false≢true a
top-text (item tag at body x y) r o a =
    let u = ruled-parts at_top tag at body x y r in
    let p = placed-parts at_top tag (keeps-parts at_top tag body u.rules).place in
    false≢true (ap is_text (sym (top-known tag p.allow)) ∙ a)

-- ---- a tree that memory holds, and a text that is to stand there
module _ (n i : ℕ) (o : List ℕ) (m : Memory) (t : Items) (holds : tree_held n m ≡ some t) where
  k : Held n m t
  k = held n m t holds

  -- whether it is there is told by two lookups
  pub there-is : is_there (replace i o) t ≡ is_text_at n i m.lists.tags m.lists.parents
  unfolding is_text_at
  there-is = go (ltb 0 i && ltb i n) refl
    where
      outside : ltb 0 i && ltb i n ≡ false → (b : Bool) → is_there (replace i o) t ≡ b → b ≡ false
      outside e false q = refl
      outside e true q = absurd (top (ltb 0 i) refl)
        where
          number : i < n
          number = omega (arith, text-number t k.whole.rules i o q, held-count n m t holds)

          top : (b : Bool) → ltb 0 i ≡ b → ⊥
          top true z = false≢true (sym e ∙ and-true (ltb 0 i) (ltb i n) z (lt-ltb i n number))
          top false z =
              let zero_is : i ≡ 0 = omega (arith, ltb-false 0 i z) in
              top-text t k.whole.rules o (subst (λ j. is_there (replace j o) t ≡ true) zero_is q)

      go : (b : Bool) → ltb 0 i && ltb i n ≡ b
          → is_there (replace i o) t ≡ b && is_text (known (get_or m.lists.tags (get_or m.lists.parents i 0) 0) (get_or m.lists.tags i 0))
      go true e = text-told n m t k i (ltb-true 0 i (and_left (ltb 0 i) (ltb i n) e)) (ltb-true i n (and_right (ltb 0 i) (ltb i n) e)) o
      go false e = outside e (is_there (replace i o) t) refl

  module _ (os : Octets m.store) (ot : Octets o) (there : is_there (replace i o) t ≡ true) where
    abbrev new : Items
    new = change_at (with_body o) i t

    found : is_text_at n i m.lists.tags m.lists.parents ≡ true
    found = sym there-is ∙ there

    pub text-above : 0 < i
    unfolding is_text_at
    text-above = ltb-true 0 i (and_left (ltb 0 i) (ltb i n) (and_left (ltb 0 i && ltb i n) _ found))

    pub text-below : i < n
    unfolding is_text_at
    text-below = ltb-true i n (and_right (ltb 0 i) (ltb i n) (and_left (ltb 0 i && ltb i n) _ found))

    bytes : Bytes new
    unfolding changed
    bytes = changed-bytes (replace i o) t new (located-bytes m.store os t k.whole.located) ot refl

    module _ (rules : ruled at_top new ≡ true) where
      after : TextHolds n m t new i o
      unfolding changed
      after = edit-holds (replace i o) n m t new holds os ot there refl rules

      abbrev h : Site
      h = after.site

      abbrev p : ℕ
      p = h.spot.parent

      abbrev tag : ℕ
      tag = after.tag

      abbrev l : Lists
      l = m.lists

      abbrev used : ℕ
      used = length (packed_store t)

      abbrev normal : ℕ
      normal = length (encode (means [] new))

      above : 0 < h.number
      above = omega (arith, after.number, text-above)

      words : is_text (known p tag) ≡ true
      unfolding is_text_at
      words =
          let a : is_text (known (get_or l.tags (get_or l.parents i 0) 0) (get_or l.tags i 0)) ≡ true = and_right (ltb 0 i && ltb i n) _ found in
          let b = subst (λ j. is_text (known (get_or l.tags (get_or l.parents j 0) 0) (get_or l.tags j 0)) ≡ true) (sym after.number) a in
          subst (λ q. is_text (known p q) ≡ true) (site-tag n m t k after.swapped above)
          (subst (λ q. is_text (known q (get_or l.tags h.number 0)) ≡ true) (site-element n m t k after.swapped above) b)

      shut : opens tag ≡ false
      shut = text-shut p tag words

      abbrev was : List ℕ
      was = stored [] (known p tag) after.body

      new_is : stored [] (known p tag) o ≡ o
      new_is = text-stored p tag o words

      -- what the lists have of it
      old-record : record_here h tag after.body ≡ record_of h.spot.depth h.up tag h.place was
      old-record = here-shut h tag after.body shut

      new-record : record_here h tag o ≡ record_of h.spot.depth h.up tag h.place (stored [] (known p tag) o)
      new-record = here-shut h tag o shut

      size-at : get_or l.sizes h.number 0 ≡ length was
      size-at = field-here n m t k after.swapped above (λ r. r.size) l.sizes (λ j. refl) (enough n m t k).sizes ∙ ap (λ r. r.size) old-record

      start-at : get_or l.starts h.number 0 ≡ h.place
      start-at = field-here n m t k after.swapped above (λ r. r.start) l.starts (λ j. refl) (enough n m t k).starts ∙ ap (λ r. r.start) old-record

      within : h.place + length was ≤ used
      within = omega (arith, site_within n m t k after.swapped above, ap length (share-shut p tag after.body end shut))

      short : used ≤ 32_768
      short = omega (arith, store-short t (located-bytes m.store os t k.whole.located) k.whole.rules, k.small)

      -- what the tree takes of the store then
      grows : length (packed_store new) + length was ≡ used + length o
      unfolding at_top
      grows =
          let g = swapped-store after.swapped (ruled-plain t at_top k.whole.rules) in
          let q = (swapped-plain after.swapped (ruled-plain t at_top k.whole.rules)).old.0 in
          let ys = store_in [] p after.y in
          let a = ap length (store-here p tag after.at after.body end after.y q) ∙ length-append (share p tag after.body end) ys in
          let b = ap length (store-here p tag after.at o end after.y q) ∙ length-append (share p tag o end) ys in
          let old-long = store_at h (item tag after.at after.body end after.y) in
          let new-long = store_at h (item tag after.at o end after.y) in
          omega (
            arith,
            ap length g.old,
            length-append g.pre (old-long ++ g.post),
            length-append old-long g.post,
            ap length g.new,
            length-append g.pre (new-long ++ g.post),
            length-append new-long g.post,
            ap length (share-shut p tag after.body end shut),
            ap length (share-shut p tag o end shut),
            ap length new_is,
          )

      -- what the elements around have
      was-adds : item_adds p tag after.body (body_size p tag after.body end) ≡ framed_size (get_or l.sizes h.number 0)
      was-adds = text-counts p tag after.body (body_size p tag after.body end) words ∙ ap framed_size (size-shut p tag after.body end shut ∙ sym size-at)

      is-adds : item_adds p tag o (body_size p tag o end) ≡ framed_size (length o)
      is-adds = text-counts p tag o (body_size p tag o end) words ∙ ap framed_size (size-shut p tag o end shut ∙ ap length new_is)

      abbrev up : ℕ
      up = get_or l.parents h.number 0

      parent-at : up ≡ h.up
      parent-at = site-parent n m t k after.swapped above

      abbrev sizes-around : List ℕ
      sizes-around = around h.number (length o) l.parents l.sizes m.bodies

      around-at : raised (up_from l.parents h.up) (item_adds p tag after.body (body_size p tag after.body end)) (item_adds p tag o (body_size p tag o end)) m.bodies ≡ sizes-around
      around-at =
          ap (λ g. raised (up_from l.parents g) (item_adds p tag after.body (body_size p tag after.body end)) (item_adds p tag o (body_size p tag o end)) m.bodies) (sym parent-at)
          ∙ ap₂ (λ x y. raised (up_from l.parents up) x y m.bodies) was-adds is-adds

      whole : framed_size (get_or sizes-around 0 0) ≡ normal
      whole = ap (λ z. framed_size (get_or z 0 0)) (sym around-at) ∙ after.holds.whole

      climbs : Climbs l.parents m.bodies up (framed_size (get_or l.sizes h.number 0))
      climbs = subst (λ g. Climbs l.parents m.bodies g (framed_size (get_or l.sizes h.number 0))) (sym parent-at)
          (subst (Climbs l.parents m.bodies h.up) was-adds after.holds.climbs)

      sized-site : Sized h.number used l.parents l.sizes m.bodies
      sized-site =
          let e = enough n m t k in
          record {
            in-parents = omega (arith, e.parents, after.number, text-below);
            in-sizes = omega (arith, e.sizes, after.number, text-below);
            taken = omega (arith, size-at, within);
            short = short;
            climbs = climbs;
          }

      pub text-sized : Sized i used l.parents l.sizes m.bodies
      text-sized = subst (λ j. Sized j used l.parents l.sizes m.bodies) after.number sized-site

      -- ---- 15 or nothing
      abbrev fits-site : Bool
      fits-site = text_fits h.number (length o) used (length m.store) l.parents l.sizes m.bodies

      new-store : used - get_or l.sizes h.number 0 + length o ≡ length (packed_store new)
      new-store = omega (arith, size-at, grows, within)

      fits-is : fits-site ≡ leb (length (packed_store new)) (length m.store) && leb normal 32_768
      unfolding text_fits
      fits-is = go (leb (length o) 32_768) refl
        where
          go : (b : Bool) → leb (length o) 32_768 ≡ b
              → b && (leb (used - get_or l.sizes h.number 0 + length o) (length m.store) && leb (framed_size (get_or sizes-around 0 0)) 32_768)
              ≡ leb (length (packed_store new)) (length m.store) && leb normal 32_768
          go true e = ap₂ (λ a b. leb a (length m.store) && leb b 32_768) new-store whole
          go false e =
              let long : leb normal 32_768 ≡ false = lt-leb normal 32_768 (omega (arith, leb-false (length o) 32_768 e, grows, within, store-short new bytes rules)) in
              sym (rw long (and-false (leb (length (packed_store new)) (length m.store))))

      same_count : count (packed new) ≡ n
      unfolding count
      same_count =
          omega (arith, packed-count new bytes rules, swapped-count after.swapped (ruled-plain t at_top k.whole.rules), held-count n m t holds)

      judged-site : (b : Bool) → fits-site ≡ b → edited_in m (replace i o) (some t) ≡ cond b (accepted (packed new)) (refused (refusal 15 0))
      unfolding edited_in edited kept changed settled overflow roomy first rule unless places_in
      judged-site b e =
          let c : leb (count (packed new)) (places_in m) ≡ true = le-leb (count (packed new)) (places_in m) (omega (arith, same_count, le-min (held-places n m t k) k.fewer)) in
          let f : leb (length (packed_store (packed new))) (length m.store) && leb (length (encode (means [] (packed new)))) 32_768 ≡ b =
          ap₂ (λ a z. leb (length a) (length m.store) && leb (length (encode z)) 32_768) (packed-store new bytes rules) (packed-means new bytes rules) ∙ (sym fits-is ∙ e) in
          rw (there, rules, c, f) (go b)
        where
          go : (b : Bool) → unless (first (rule 14 0 true ∷ rule 15 0 b ∷ [])) (accepted (packed new)) ≡ cond b (accepted (packed new)) (refused (refusal 15 0))
          go true = refl
          go false = refl

      pub text-judged : (b : Bool) → text_fits i (length o) used (length m.store) l.parents l.sizes m.bodies ≡ b
          → edited_in m (replace i o) (some t) ≡ cond b (accepted (packed new)) (refused (refusal 15 0))
      text-judged b e = judged-site b (ap (λ j. text_fits j (length o) used (length m.store) l.parents l.sizes m.bodies) after.number ∙ e)

      -- ---- what is set
      module _ (fine : leb (length (packed_store new)) (length m.store) && leb normal 32_768 ≡ true) where
        room : length (packed_store new) ≤ length m.store
        room = leb-true (length (packed_store new)) (length m.store) (and_left (leb (length (packed_store new)) (length m.store)) (leb normal 32_768) fine)

        small : normal ≤ 32_768
        small = leb-true normal 32_768 (and_right (leb (length (packed_store new)) (length m.store)) (leb normal 32_768) fine)

        new-short : length (packed_store new) ≤ 32_768
        new-short = omega (arith, store-short new bytes rules, small)

        shifts-site : Shifts (suc h.number) n (get_or l.starts h.number 0 + get_or l.sizes h.number 0) (get_or l.starts h.number 0 + length o) l.tags l.starts
        shifts-site = record {
          order = omega (arith, after.number, text-below);
          tagged = (enough n m t k).tags;
          inside = (enough n m t k).starts;
          movable = λ j a b q.
              let w = after.holds.later j (omega arith) b q in
              let one : h.place + length was ≤ get_or l.starts j 0 = w.0 in
              let two : get_or l.starts j 0 ≤ used = w.1 in
              (omega (arith, start-at, size-at), omega (arith, start-at, size-at, grows, new-short));
        }

        set-asks : Settable n h.number used o l.tags l.parents l.starts l.sizes m.bodies m.store
        set-asks = record {
          sized = sized-site;
          number = omega (arith, after.number, text-below);
          in-starts = (enough n m t k).starts;
          in-bodies = k.fewer;
          within = omega (arith, start-at, size-at, within);
          stored = (held-store n m t k).0;
          long = omega (arith, grows, within, new-short);
          room = omega (arith, new-store, room);
          fits = omega (arith, whole, small, framed-more (get_or sizes-around 0 0));
          shifts = shifts-site;
        }

        -- a list whose numbers stay
        kept-list : (field : Record → ℕ) (xs : List ℕ) → ((j : ℕ) → field (row l j) ≡ get_or xs j 0) → n ≤ length xs → field (record_here h tag o) ≡ field (record_here h tag after.body)
            → sets xs h.number (field (record_here h tag o) ∷ between xs (h.number + 1) n) ≡ xs
        kept-list field xs reads long e = all-kept xs h.number n (field (record_here h tag o)) (e ∙ sym (field-here n m t k after.swapped above field xs reads long))

        same_of : {A : Type 0} (f : Record → A) → f (record_of h.spot.depth h.up tag h.place (stored [] (known p tag) o)) ≡ f (record_of h.spot.depth h.up tag h.place was)
            → f (record_here h tag o) ≡ f (record_here h tag after.body)
        same_of f e = ap f new-record ∙ (e ∙ sym (ap f old-record))

        module _ (starts' sizes' bodies' store' : List ℕ)
            (s : TextSet n h.number used o l.tags l.parents l.starts l.sizes m.bodies m.store starts' sizes' bodies' store') where
          parents-kept : sets l.parents h.number ((record_here h tag o).parent ∷ map (shifted (h.number + 1) (h.number + 1)) (between l.parents (h.number + 1) n)) ≡ l.parents
          parents-kept =
              ap (λ z. sets l.parents h.number ((record_here h tag o).parent ∷ z))
              (map_same (shifted (h.number + 1) (h.number + 1)) (shifted-same (h.number + 1)) (between l.parents (h.number + 1) n))
              ∙ kept-list (λ r. r.parent) l.parents (λ j. refl) (enough n m t k).parents (same_of (λ r. r.parent) refl)

          starts-set : starts' ≡ sets l.starts h.number ((record_here h tag o).start
              ∷ shifted_starts (h.place + length was) (h.place + length (stored [] (known p tag) o)) (between l.tags (h.number + 1) n) (between l.starts (h.number + 1) n))
          starts-set =
              let e : (record_here h tag o).start ≡ get_or l.starts h.number 0 = ap (λ r. r.start) new-record ∙ sym start-at in
              let a : get_or l.starts h.number 0 + get_or l.sizes h.number 0 ≡ h.place + length was = ap₂ ◌+◌ start-at size-at in
              let b : get_or l.starts h.number 0 + length o ≡ h.place + length (stored [] (known p tag) o) = ap₂ ◌+◌ start-at (ap length (sym new_is)) in
              s.starts-are
              ∙ (ap₂ (λ x y. sets l.starts (suc h.number) (shifted_starts x y (between l.tags (suc h.number) n) (between l.starts (suc h.number) n))) a b
              ∙ (ap (λ j. sets l.starts (suc h.number) (shifted_starts (h.place + length was) (h.place + length (stored [] (known p tag) o)) (between l.tags j n) (between l.starts j n)))
              (sym (add-one h.number))
              ∙ ap (λ z. sets z (suc h.number) (shifted_starts (h.place + length was) (h.place + length (stored [] (known p tag) o)) (between l.tags (h.number + 1) n)
              (between l.starts (h.number + 1) n))) (sym (ap (set l.starts h.number) e ∙ set-get_or l.starts h.number 0))))

          sizes-set : sizes' ≡ sets l.sizes h.number ((record_here h tag o).size ∷ between l.sizes (h.number + 1) n)
          sizes-set =
              s.sizes-are ∙ (ap (set l.sizes h.number) (sym (ap (λ r. r.size) new-record ∙ ap length new_is))
              ∙ sym (set-kept l.sizes h.number n (record_here h tag o).size))

          bodies-set : bodies' ≡ sets sizes-around h.number (body_size p tag o end ∷ between m.bodies (h.number + 1) n)
          bodies-set =
              let z : length o ≡ body_size p tag o end = sym (size-shut p tag o end shut ∙ ap length new_is) in
              let low : up < h.number + 1 = omega (arith, parent-at, swapped-up after.swapped (omega arith)) in
              let behind = raised-behind l.parents m.bodies up (framed_size (get_or l.sizes h.number 0)) (framed_size (length o)) (h.number + 1) n low climbs in
              s.bodies-are ∙ (ap (set sizes-around h.number) z
              ∙ (sym (set-kept sizes-around h.number n (body_size p tag o end)) ∙ ap (λ a. sets sizes-around h.number (body_size p tag o end ∷ a)) behind))

          store-set : store' ≡ sets m.store h.place (stored [] (known p tag) o ++ between m.store (h.place + length was) used)
          store-set =
              s.store_is ∙ (ap₂ (λ a b. sets m.store a (o ++ between m.store b used)) start-at (ap₂ ◌+◌ start-at size-at)
              ∙ ap (λ z. sets m.store h.place (z ++ between m.store (h.place + length was) used)) (sym new_is))

          set_is : record {
            lists = record { tags = l.tags; kinds = l.kinds; depths = l.depths; parents = l.parents; starts = starts'; sizes = sizes' };
            bodies = bodies';
            store = store';
          } ≡ lay_tree (packed new) m
          set_is =
              let g = after.holds in
              let ts = sym (g.tags ∙ kept-list (λ r. r.tag) l.tags (λ j. refl) (enough n m t k).tags (same_of (λ r. r.tag) refl)) in
              let ks = sym (g.kinds ∙ kept-list (λ r. r.kind) l.kinds (λ j. refl) (enough n m t k).kinds (same_of (λ r. r.kind) refl)) in
              let ds = sym (g.depths ∙ kept-list (λ r. r.depth) l.depths (λ j. refl) (enough n m t k).depths (same_of (λ r. r.depth) refl)) in
              let ps = sym (g.parents ∙ parents-kept) in
              let ss = starts-set ∙ sym g.starts in
              let zs = sizes-set ∙ sym g.sizes in
              let bs = bodies-set ∙ (ap (λ z. sets z h.number (body_size p tag o end ∷ between m.bodies (h.number + 1) n)) (sym around-at) ∙ sym g.bodies) in
              let st = store-set ∙ sym g.store in
              λ x. record { lists = record { tags = ts x; kinds = ks x; depths = ds x; parents = ps x; starts = ss x; sizes = zs x }; bodies = bs x; store = st x }

      -- by the number that the code is given
      module _ (fine : text_fits i (length o) used (length m.store) l.parents l.sizes m.bodies ≡ true) where
        fine-site : leb (length (packed_store new)) (length m.store) && leb normal 32_768 ≡ true
        fine-site = sym fits-is ∙ (ap (λ j. text_fits j (length o) used (length m.store) l.parents l.sizes m.bodies) after.number ∙ fine)

        pub text-settable : Settable n i used o l.tags l.parents l.starts l.sizes m.bodies m.store
        text-settable = subst (λ j. Settable n j used o l.tags l.parents l.starts l.sizes m.bodies m.store) after.number (set-asks fine-site)

        pub text-set : (starts' sizes' bodies' store' : List ℕ)
            → TextSet n i used o l.tags l.parents l.starts l.sizes m.bodies m.store starts' sizes' bodies' store'
            → record {
              lists = record { tags = l.tags; kinds = l.kinds; depths = l.depths; parents = l.parents; starts = starts'; sizes = sizes' };
              bodies = bodies';
              store = store';
            } ≡ lay_tree (packed new) m
        text-set starts' sizes' bodies' store' s =
            set_is fine-site starts' sizes' bodies' store'
            (subst (λ j. TextSet n j used o l.tags l.parents l.starts l.sizes m.bodies m.store starts' sizes' bodies' store') (sym after.number) s)

        pub text-count : count (packed new) ≡ n
        text-count = same_count
