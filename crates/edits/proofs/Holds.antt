-- What memory holds after an edit, list by list, by what it held before: the records at one site are cut out, others put in, what is behind them moves, and the sizes
-- of the elements around are raised by what the item at the site adds.
use mathlib.Core.Path.{◌≡◌, refl, sym, ap, ◌∙◌, subst}
use mathlib.Core.Bool.{true, false, false≢true}
use mathlib.Core.Option.{some, some-injective}
use mathlib.Core.List.{List, [], ◌∷◌, ◌++◌, map}
use Prim.Native.Nat.{ℕ, suc, ◌+◌, ◌≤◌, ◌<◌}
use native.Mathlib.Omega.{arith}
use lib.Dec.{eqb, ltb}
use lib.ListN.{length, get_or}
use lib.Seq.{sets}
use borrow.Author.Tests.{ltb-true}
use Rattle.octets.specs.Numbers.{Octets}
use Rattle.octets.specs.Places.{between}
use Rattle.octets.proofs.Tests.{and_left, and_right}
use Rattle.values.specs.Table.{known}
use Rattle.format.specs.declared.Record.{Record}
use Rattle.format.specs.Tree.{Items, count, records_of}
use Rattle.format.specs.Tree.Items.{end, item}
use Rattle.format.specs.Judge.{is_text, is_items}
use Rattle.format.specs.Meaning.{opens, means, encode}
use Rattle.format.specs.Writer.{below, past, at_top, is_end, ruled}
use Rattle.format.specs.Loaded.{stored}
use Rattle.format.specs.State.{Memory, packed, packed_store, body_sizes, lay_tree, tree_held}
use Rattle.format.proofs.Kept.{ruled-parts, keeps-parts, end_is}
use Rattle.format.proofs.Fine.{placed-parts}
use Rattle.format.proofs.Force.{top-known}
use Rattle.format.proofs.Means.{items-opens}
use Rattle.format.proofs.Order.{ruled-order, three-end}
use Rattle.format.proofs.Written.{Bytes, located-bytes}
use Rattle.format.proofs.Calls.{lay-fields}
use Rattle.survey.specs.Normal.{framed_size}
use Rattle.state.specs.Order.{item_adds}
use Rattle.state.proofs.BodySizes.{body_size, size-item}
use Rattle.state.proofs.HeldTree.{Held, held}
use Rattle.edits.specs.Tree.{Edit, record_at, change_at, with_body, without, holding, before, put_child, is_there, inside_of, element_of, changed}
use Rattle.edits.specs.Tree.Edit.{replace, remove, insert}
use Rattle.edits.specs.Runs.{BringsOctets}
use Rattle.edits.specs.Sites.{Site, top_site, inner, share, records_at, Swapped, shifted, shifted_starts, moved}
use Rattle.edits.specs.Sites.Swapped.{here, inside, after}
use Rattle.edits.specs.Sizes.{raised, up_from, Climbs}
use Rattle.edits.proofs.Swaps.{Plain, ruled-plain, swapped-rules, swapped-plain, swapped-none}
use Rattle.edits.proofs.Sites.{record_here}
use Rattle.edits.proofs.Records.{records-length, swapped-low}
use Rattle.edits.proofs.Cuts.{SiteCut, swapped-up, body-cut, item-cut, put-cut}
use Rattle.edits.proofs.Sizes.{sizes_at, size_at}
use Rattle.edits.proofs.CutLists.{enough, field_cut, later-start, parents-cut, starts-cut, octets-cut, climbs-cut, bodies-cut, whole-cut}
use Rattle.edits.proofs.Found.{Stands, at-record}
use Rattle.edits.proofs.Local.{text-shut, TextAt, text_at}
use Rattle.edits.proofs.Putting.{Place}
use Rattle.edits.proofs.InsertRules.{opens-zero, stand, whole, spot, insert-swaps, in-element}
use Rattle.edits.proofs.Changed.{map_is, changed-bytes}
use Rattle.edits.proofs.Standing.{packed-store}

-- what is cut out at a site or put in there: records, octets of the store, sizes of bodies, and what the item there adds to its element
pub record Piece : Type 0 where
  pub records : List Record
  pub octets : List ℕ
  pub sizes : List ℕ
  pub adds-to : ℕ

abbrev pub nothing : Piece
nothing = record { records = []; octets = []; sizes = []; adds-to = 0 }

-- an item with all below it
abbrev pub piece_of : Site → (tag : ℕ) → List ℕ → Items → Piece
piece_of h tag body x = record {
  records = record_here h tag body ∷ records_at (inner h tag) x;
  octets = share h.spot.parent tag body x;
  sizes = body_size h.spot.parent tag body x ∷ body_sizes tag x;
  adds-to = item_adds h.spot.parent tag body (body_size h.spot.parent tag body x);
}

-- where its records end, and where its octets do
abbrev pub number_past : Site → Piece → ℕ
number_past h p = h.number + length p.records

abbrev pub place_past : Site → Piece → ℕ
place_past h p = h.place + length p.octets

-- what is laid at the cut: of the records that are put in, and of those behind the ones that are gone
abbrev pub field_after : (n : ℕ) → Site → (gone put : Piece) → (Record → ℕ) → (List ℕ → List ℕ) → List ℕ → List ℕ
field_after n h gone put field f l = sets l h.number (map field put.records ++ f (between l (number_past h gone) n))

-- n records of memory m that take so much of the store, and memory m' after the edit, whose tree has a normal form of so many octets
pub record Holds (n used normal : ℕ) (m m' : Memory) (h : Site) (gone put : Piece) : Type 0 where
  -- each behind the cut closes up or makes room, as it stands
  pub tags : m'.lists.tags ≡ field_after n h gone put (λ r. r.tag) (λ l. l) m.lists.tags
  pub kinds : m'.lists.kinds ≡ field_after n h gone put (λ r. r.kind) (λ l. l) m.lists.kinds
  pub depths : m'.lists.depths ≡ field_after n h gone put (λ r. r.depth) (λ l. l) m.lists.depths
  pub sizes : m'.lists.sizes ≡ field_after n h gone put (λ r. r.size) (λ l. l) m.lists.sizes
  -- numbers of records and places in the store that lie behind it move
  pub parents : m'.lists.parents ≡ field_after n h gone put (λ r. r.parent) (map (shifted (number_past h gone) (number_past h put))) m.lists.parents
  pub starts : m'.lists.starts
      ≡ field_after n h gone put (λ r. r.start) (shifted_starts (place_past h gone) (place_past h put) (between m.lists.tags (number_past h gone) n)) m.lists.starts
  -- and each of these is a place of the store that is behind it
  pub later : (j : ℕ) → number_past h gone ≤ j → j < n → opens (get_or m.lists.tags j 0) ≡ false
      → (place_past h gone ≤ get_or m.lists.starts j 0) × (get_or m.lists.starts j 0 ≤ used)
  -- the elements around are those that the list of parents names, upwards from the site's; what each holds grows or shrinks
  pub climbs : Climbs m.lists.parents m.bodies h.up gone.adds-to
  pub bodies : m'.bodies
      ≡ sets (raised (up_from m.lists.parents h.up) gone.adds-to put.adds-to m.bodies) h.number
      (put.sizes ++ between m.bodies (h.number + length gone.sizes) n)
  -- so the top's size tells how long the normal form is
  pub whole : framed_size (get_or (raised (up_from m.lists.parents h.up) gone.adds-to put.adds-to m.bodies) 0 0) ≡ normal
  pub store : m'.store ≡ sets m.store h.place (put.octets ++ between m.store (place_past h gone) used)

-- what is asked of the items at the site
record Sized (h : Site) (u w : Items) (gone put : Piece) : Type 0 where
  same : ℕ
  was : size_at h u ≡ gone.adds-to + same
  is : size_at h w ≡ put.adds-to + same
  rest : List ℕ
  old : sizes_at h u ≡ gone.sizes ++ rest
  new : sizes_at h w ≡ put.sizes ++ rest

module _ (n : ℕ) (m : Memory) (t t' : Items) (k : Held n m t) (bytes : Bytes t') (rules : ruled at_top t' ≡ true) (h : Site) (gone put : Piece) {u w : Items} where
  cut_holds : Swapped top_site t t' h u w → Plain w
      → SiteCut (number_past h gone) (number_past h put) (place_past h gone) (place_past h put) h u w gone.records put.records gone.octets put.octets
      → 0 < h.number → eqb h.spot.parent 0 ≡ false → Sized h u w gone put
      → Holds n (length (packed_store t)) (length (encode (means [] t'))) m (lay_tree (packed t') m) h gone put
  unfolding lay_tree moved
  cut_holds v q c number under z =
      let above : 0 < number_past h gone = omega arith in
      let l = lay-fields (records_of (packed t')) 0 m.lists in
      let en = enough n m t k in
      let field = field_cut n m t t' k v q (number_past h gone) (number_past h put) (place_past h gone) (place_past h put) c above in
      record {
        tags = ap (λ a. a.tags) l ∙ field (λ r. r.tag) m.lists.tags (λ j. refl) en.tags (λ r. refl);
        kinds = ap (λ a. a.kinds) l ∙ field (λ r. r.kind) m.lists.kinds (λ j. refl) en.kinds (λ r. refl);
        depths = ap (λ a. a.depths) l ∙ field (λ r. r.depth) m.lists.depths (λ j. refl) en.depths (λ r. refl);
        sizes = ap (λ a. a.sizes) l ∙ field (λ r. r.size) m.lists.sizes (λ j. refl) en.sizes (λ r. refl);
        parents = ap (λ a. a.parents) l ∙ parents-cut n m t t' k v q (number_past h gone) (number_past h put) (place_past h gone) (place_past h put) c above;
        starts = ap (λ a. a.starts) l ∙ starts-cut n m t t' k v q (number_past h gone) (number_past h put) (place_past h gone) (place_past h put) c above;
        later = later-start n m t t' k v q (number_past h gone) (number_past h put) (place_past h gone) (place_past h put) c above;
        climbs = climbs-cut n m t t' k v q (number_past h gone) (number_past h put) (place_past h gone) (place_past h put) c above
            gone.adds-to put.adds-to z.same z.was z.is under bytes rules gone.sizes put.sizes z.rest z.old z.new;
        bodies = bodies-cut n m t t' k v q (number_past h gone) (number_past h put) (place_past h gone) (place_past h put) c above
            gone.adds-to put.adds-to z.same z.was z.is under bytes rules gone.sizes put.sizes z.rest z.old z.new;
        whole = whole-cut n m t t' k v q (number_past h gone) (number_past h put) (place_past h gone) (place_past h put) c above
            gone.adds-to put.adds-to z.same z.was z.is under bytes rules gone.sizes put.sizes z.rest z.old z.new number;
        store = ap (sets m.store 0) (packed-store t' bytes rules)
            ∙ octets-cut n m t t' k v q (number_past h gone) (number_past h put) (place_past h gone) (place_past h put) c above;
      }

-- ---- a site below the top is in an element
under-element : {s : Site} {t t' : Items} {h : Site} {u w : Items} → Swapped s t t' h u w → eqb s.spot.parent 0 ≡ false → eqb h.spot.parent 0 ≡ false
unfolding below past
under-element (here s t t') e = e
under-element (inside s tag at body x x' y h u w o v) e = under-element v (opens-zero tag o)
under-element (after s tag at body x y y' h u w v) e = under-element v e

under_top : {t t' : Items} {h : Site} {u w : Items} → Swapped top_site t t' h u w → ruled at_top t ≡ true → is_end u ≡ false → (h.number ≡ 0 → ruled at_top u ≡ true → ⊥)
    → eqb h.spot.parent 0 ≡ false
unfolding below past at_top is_end
under_top (here s t t') r e n = absurd (n refl r)
under_top (inside s tag at body x x' y h u w o v) r e n = under-element v (opens-zero tag o)
under_top (after s tag at body x y y' h u w v) r e n =
    let q = ruled-parts at_top tag at body x y r in
    let none : end ≡ y = three-end y (past at_top tag) refl (ruled-order y (past at_top tag) q.beside) in
    absurd (false≢true (sym e ∙ swapped-none v (sym (ap is_end none))))

-- and has a number above the top's
above-top : {t t' : Items} {h : Site} {u w : Items} → Swapped top_site t t' h u w → eqb h.spot.parent 0 ≡ false → 0 < h.number
unfolding at_top past
above-top (here s t t') e = absurd (false≢true (sym e))
above-top (inside s tag at body x x' y h u w o v) e = omega (arith, swapped-low v)
above-top (after s tag at body x y y' h u w v) e = omega (arith, swapped-low v)

-- ---- the three edits: the text of an item, an item gone, an element put in
abbrev pub text_of : Site → (tag : ℕ) → List ℕ → Piece
text_of h tag o = record {
  records = record_here h tag o ∷ [];
  octets = stored [] (known h.spot.parent tag) o;
  sizes = body_size h.spot.parent tag o end ∷ [];
  adds-to = item_adds h.spot.parent tag o (body_size h.spot.parent tag o end);
}

module _ (n : ℕ) (m : Memory) (t t' : Items) where
  -- what is cut at a site and what is put in there
  abbrev After : Site → (gone put : Piece) → Type 0
  After h gone put = Holds n (length (packed_store t)) (length (encode (means [] t'))) m (lay_tree (packed t') m) h gone put

  pub record TextHolds (i : ℕ) (o : List ℕ) : Type 0 where
    pub site : Site
    pub tag : ℕ
    pub at : ℕ
    pub body : List ℕ
    pub y : Items
    pub number : site.number ≡ i
    pub swapped : Swapped top_site t t' site (item tag at body end y) (item tag at o end y)
    pub holds : After site (text_of site tag body) (text_of site tag o)

  pub record RemoveHolds (i : ℕ) : Type 0 where
    pub site : Site
    pub tag : ℕ
    pub at : ℕ
    pub body : List ℕ
    pub x : Items
    pub y : Items
    pub number : site.number ≡ i
    pub swapped : Swapped top_site t t' site (item tag at body x y) y
    pub holds : After site (piece_of site tag body x) nothing

  -- the element of octets, as a child element of record i
  pub record InsertHolds (i k : ℕ) (o : List ℕ) : Type 0 where
    pub tag : ℕ
    pub at : ℕ
    pub body : List ℕ
    pub x : Items
    pub stands : Stands (holding (put_child k (item tag at body x end))) top_site t i (record_at i t)
    pub place : Place k (item tag at body x end) (inner stands.site stands.tag) stands.x
    pub element : element_of (inside_of (record_at i t)) o ≡ some (item tag at body x end)
    pub swapped : Swapped top_site t t' place.site place.rest (item tag at body x place.rest)
    pub holds : After place.site nothing (piece_of place.site tag body x)

  abbrev pub HoldsAfter : Edit → Type 0
  HoldsAfter (replace i o) = TextHolds i o
  HoldsAfter (remove i) = RemoveHolds i
  HoldsAfter (insert i k o) = InsertHolds i k o

module _ (n : ℕ) (m : Memory) (t t' : Items) (k : Held n m t) (bytes : Bytes t') (rules : ruled at_top t' ≡ true) where
  module _ (i : ℕ) (there : is_there (remove i) t ≡ true) (is : change_at without i t ≡ t') where
    remove-holds : RemoveHolds n m t t' i
    unfolding without body_sizes is_there is_end
    remove-holds =
        let r = k.whole.rules in
        let above = ltb-true 0 i (and_left (ltb 0 i) (ltb i (count t)) there) in
        let g = at-record without t r i (ltb-true i (count t) (and_right (ltb 0 i) (ltb i (count t)) there)) in
        let h = g.site in
        let p = (swapped-plain g.swapped (ruled-plain t at_top r)).old in
        let u = ruled-parts h.spot g.tag g.at g.body g.x g.y (swapped-rules g.swapped r).kept in
        let gone = piece_of h g.tag g.body g.x in
        let v = subst (λ z. Swapped top_site t z h (item g.tag g.at g.body g.x g.y) g.y) is g.swapped in
        let c = item-cut h g.tag g.at g.body g.x g.y p (swapped-up g.swapped (omega arith)) in
        let under = under_top g.swapped r refl (λ e q. omega (arith, g.number)) in
        let long : length (records_at (inner h g.tag) g.x) ≡ count g.x = records-length (inner h g.tag) g.x p.2 in
        let e₁ : suc h.number + count g.x ≡ h.number + length gone.records = omega arith in
        let e₂ : h.number ≡ h.number + 0 = omega arith in
        let e₃ : h.place ≡ h.place + 0 = omega arith in
        let cut : SiteCut (h.number + length gone.records) (h.number + 0) (h.place + length gone.octets) (h.place + 0) h
        (item g.tag g.at g.body g.x g.y) g.y gone.records [] gone.octets [] = rw (← e₁, ← e₂, ← e₃) c in
        let sized : Sized h (item g.tag g.at g.body g.x g.y) g.y gone nothing = record {
          same = size_at h g.y;
          was = size-item h.spot g.tag g.at g.body g.x g.y u;
          is = omega arith;
          rest = sizes_at h g.y;
          old = refl;
          new = refl;
        } in
        record {
          site = h;
          tag = g.tag;
          at = g.at;
          body = g.body;
          x = g.x;
          y = g.y;
          number = g.number ∙ omega arith;
          swapped = v;
          holds = cut_holds n m t t' k bytes rules h gone nothing v p.3 cut (omega (arith, g.number)) under sized;
        }

  module _ (i : ℕ) (o : List ℕ) (there : is_there (replace i o) t ≡ true) (is : change_at (with_body o) i t ≡ t') where
    r : ruled at_top t ≡ true
    r = k.whole.rules

    a : TextAt o t i
    a = text_at t r i o there

    abbrev g : Stands (with_body o) top_site t i (record_at i t)
    g = a.stand

    abbrev h : Site
    h = g.site

    shut : opens g.tag ≡ false
    shut = text-shut h.spot.parent g.tag a.words

    none : end ≡ g.x
    none = end_is g.x (rw shut at (swapped-plain g.swapped (ruled-plain t at_top r)).old.1)

    abbrev old-items : Items
    old-items = item g.tag g.at g.body end g.y

    abbrev new_items : Items
    new_items = item g.tag g.at o end g.y

    v : Swapped top_site t t' h old-items new_items
    unfolding with_body
    v = subst (λ z. Swapped top_site t z h old-items new_items) is
        (subst (λ x. Swapped top_site t (change_at (with_body o) i t) h (item g.tag g.at g.body x g.y) (item g.tag g.at o x g.y)) (sym none)
        g.swapped)

    -- the top holds items, so it is no text
    no_top : h.number ≡ 0 → ruled at_top old-items ≡ true → ⊥
    unfolding at_top is_items is_text
    no_top e q =
        let u = ruled-parts at_top g.tag g.at g.body end g.y q in
        let w = top-known g.tag (placed-parts at_top g.tag (keeps-parts at_top g.tag g.body u.rules).place).allow in
        false≢true (sym shut ∙ (sym (items-opens 0 g.tag) ∙ rw w))

    text-holds : TextHolds n m t t' i o
    unfolding body_sizes is_end
    text-holds =
        let s = swapped-rules v r in
        let u = ruled-parts h.spot g.tag g.at g.body end g.y s.kept in
        let u' = ruled-parts h.spot g.tag g.at o end g.y (sym s.same ∙ rules) in
        let gone = text_of h g.tag g.body in
        let put = text_of h g.tag o in
        let under = under_top v r refl no_top in
        let p = ruled-plain old-items h.spot s.kept in
        let p' = ruled-plain new_items h.spot (sym s.same ∙ rules) in
        let e : suc h.number ≡ h.number + 1 = omega arith in
        let cut : SiteCut (h.number + 1) (h.number + 1) (h.place + length gone.octets) (h.place + length put.octets) h old-items new_items
        gone.records put.records gone.octets put.octets = rw (← e) (body-cut h g.tag g.at g.body o g.y p shut) in
        let sized : Sized h old-items new_items gone put = record {
          same = size_at h g.y;
          was = size-item h.spot g.tag g.at g.body end g.y u;
          is = size-item h.spot g.tag g.at o end g.y u';
          rest = sizes_at h g.y;
          old = refl;
          new = refl;
        } in
        record {
          site = h;
          tag = g.tag;
          at = g.at;
          body = g.body;
          y = g.y;
          number = g.number ∙ omega arith;
          swapped = v;
          holds = cut_holds n m t t' k bytes rules h gone put v p' cut (above-top v under) under sized;
        }

  module _ (i j : ℕ) (o : List ℕ) (os : Octets o) (there : is_there (insert i j o) t ≡ true) (tag at : ℕ) (body : List ℕ) (x : Items)
      (one : element_of (inside_of (record_at i t)) o ≡ some (item tag at body x end)) (is : change_at (holding (put_child j (item tag at body x end))) i t ≡ t') where
    insert-holds : InsertHolds n m t t' i j o
    unfolding before body_sizes below
    insert-holds =
        let e = item tag at body x end in
        let r = k.whole.rules in
        let g = stand t r i j o os there e one in
        let pl = spot t r i j o os there e one in
        let h = pl.site in
        let w = item tag at body x pl.rest in
        let v : Swapped top_site t t' h pl.rest w = subst (λ z. Swapped top_site t z h pl.rest w) is (insert-swaps t r i j o os there e one) in
        let kept = sym (swapped-rules v r).same ∙ rules in
        let u = ruled-parts h.spot tag at body x pl.rest kept in
        let p = ruled-plain w h.spot kept in
        let put = piece_of h tag body x in
        let low = pl.under (omega arith) in
        let long : length (records_at (inner h tag) x) ≡ count x = records-length (inner h tag) x p.2 in
        let e₁ : h.number + suc (count x) ≡ h.number + length put.records = omega arith in
        let e₂ : h.number ≡ h.number + 0 = omega arith in
        let e₃ : h.place ≡ h.place + 0 = omega arith in
        let cut : SiteCut (h.number + 0) (h.number + length put.records) (h.place + 0) (h.place + length put.octets) h
        pl.rest w [] put.records [] put.octets = rw (← e₁, ← e₂, ← e₃) (put-cut h tag at body x pl.rest p low) in
        let sized : Sized h pl.rest w nothing put = record {
          same = size_at h pl.rest;
          was = omega arith;
          is = size-item h.spot tag at body x pl.rest u;
          rest = sizes_at h pl.rest;
          old = refl;
          new = refl;
        } in
        record {
          tag = tag;
          at = at;
          body = body;
          x = x;
          stands = g;
          place = pl;
          element = one;
          swapped = v;
          holds = cut_holds n m t t' k bytes rules h nothing put v p cut (omega arith) (in-element t r i j o os there e one) sized;
        }

-- memory that holds a tree, and an edit that makes another: what laying that tree leaves in each list and in the store
pub edit-holds : (e : Edit) (n : ℕ) (m : Memory) (t t' : Items) → tree_held n m ≡ some t → Octets m.store → BringsOctets e → is_there e t ≡ true → changed e t ≡ some t'
    → ruled at_top t' ≡ true → HoldsAfter n m t t' e
unfolding changed
edit-holds e n m t t' h os brings there c rules = go e brings there c (changed-bytes e t t' (located-bytes m.store os t k.whole.located) brings c)
  where
    k : Held n m t
    k = held n m t h

    go : (e : Edit) → BringsOctets e → is_there e t ≡ true → changed e t ≡ some t' → Bytes t' → HoldsAfter n m t t' e
    go (replace i o) b d c bytes = text-holds n m t t' k bytes rules i o d (some-injective _ t' c)
    go (remove i) b d c bytes = remove-holds n m t t' k bytes rules i d (some-injective _ t' c)
    go (insert i j o) b d c bytes =
        let w = map_is (λ e. change_at (holding (put_child j e)) i t) (element_of (inside_of (record_at i t)) o) t' c in
        let f = whole t k.whole.rules i j o b d w.0 w.1 in
        insert-holds n m t t' k bytes rules i j o b d f.tag f.at f.body f.x (w.1 ∙ ap some f.is)
        (subst (λ e. change_at (holding (put_child j e)) i t ≡ t') f.is w.2)
