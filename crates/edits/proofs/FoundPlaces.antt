-- Where a child element comes in a tree that memory holds: what the walk over the lists finds is the tree's place, and the tag that stands there is that of the next item.
use mathlib.Core.Path.{◌≡◌, refl, sym, ap, ap₂, ◌∙◌, subst}
use mathlib.Core.Bool.{Bool, true, false, cond, not, ◌&&◌, ◌||◌, false≢true}
use mathlib.Core.List.{List, [], ◌∷◌, ◌++◌, append_assoc, append-nil, map, map-append}
use Prim.Native.Nat.{ℕ, suc, ◌+◌, ◌-◌, ◌≤◌, ◌<◌}
use native.Mathlib.Numerals.{add-one}
use native.Mathlib.Omega.{arith}
use lib.Dec.{eqb, leb, ltb}
use lib.ListN.{length, take, drop, get_or, length-append, length-map}
use borrow.Author.Tests.{ltb-true, ltb-false, lt-ltb}
use Rattle.octets.specs.Places.{between}
use Rattle.octets.proofs.Lists.{length_part}
use Rattle.octets.proofs.Upward.{part-first}
use Rattle.values.specs.Table.{attribute}
use Rattle.format.specs.declared.Record.{Record}
use Rattle.format.specs.Tree.{Items, records}
use Rattle.format.specs.Tree.Items.{end, item}
use Rattle.format.specs.Judge.{latest}
use Rattle.format.specs.Meaning.{opens, is_child}
use Rattle.format.specs.Writer.{below, past, at_top, ruled}
use Rattle.format.specs.Loaded.{loaded_in}
use Rattle.format.specs.Calls.{row}
use Rattle.format.specs.State.{Memory}
use Rattle.format.proofs.Kept.{ruled-parts}
use Rattle.state.proofs.HeldTree.{Held}
use Rattle.edits.specs.Tree.{record_at, first_tag, first_inside, children, is_there}
use Rattle.edits.specs.Tree.Edit.{insert}
use Rattle.edits.specs.Sites.{Site, top_site, inner, beyond, records_at, Swapped}
use Rattle.edits.specs.Extents.{deeper, sum_of}
use Rattle.std.specs.Prelude.{None}
use Rattle.edits.specs.Insertion.{found_at, child_from, child_behind, child_of, tag_there, comes_between}
use Rattle.edits.proofs.Swaps.{Plain, ruled-plain, swapped-plain, swapped-rules}
use Rattle.edits.proofs.Sites.{record_here, records-here}
use Rattle.edits.proofs.AtSite.{part-second}
use Rattle.edits.proofs.CutLists.{enough, held-field, cut-part}
use Rattle.edits.proofs.Extents.{here-depth, stop-records, Extent, extent}
use Rattle.edits.proofs.ChildWalks.{fields, here-tag}
use Rattle.edits.proofs.Found.{Stands}
use Rattle.edits.proofs.Putting.{Place, comes_at}
use Rattle.edits.proofs.InsertRules.{opens-zero}

first-same : (a b : ℕ) (x y : List ℕ) → ◌≡◌ {A = List ℕ} (a ∷ x) (b ∷ y) → (a ≡ b) × (x ≡ y)
first-same a b x y e = (cc, cc)

-- ---- the tag at a place of lists, by what they have from it on
tag-none : (n j d : ℕ) (tags depths : List ℕ) → n ≤ length depths → deeper d (between depths j n) ≡ 0 → tag_there n j d tags depths ≡ 0
unfolding tag_there deeper
tag-none n j d tags depths long e = go (ltb j n) refl
  where
    within : (b : Bool) → ltb d (get_or depths j 0) ≡ b → cond b (suc (deeper d (between depths (j + 1) n))) 0 ≡ 0 → cond b (get_or tags j 0) 0 ≡ 0
    within true q z = absurd (omega arith)
    within false q z = refl

    go : (b : Bool) → ltb j n ≡ b → cond (b && ltb d (get_or depths j 0)) (get_or tags j 0) 0 ≡ 0
    go false q = refl
    go true q = within (ltb d (get_or depths j 0)) refl (sym (ap (deeper d) (part-first j n depths (ltb-true j n q) long)) ∙ e)

tag-some : (n j d : ℕ) (tags depths : List ℕ) → n ≤ length tags → n ≤ length depths → (tag : ℕ) (ts : List ℕ) → between tags j n ≡ tag ∷ ts → (depth : ℕ) (ds : List ℕ)
    → between depths j n ≡ depth ∷ ds → d < depth → tag_there n j d tags depths ≡ tag
unfolding tag_there
tag-some n j d tags depths lt ld tag ts te depth ds de h = go (ltb j n) refl
  where
    go : (b : Bool) → ltb j n ≡ b → cond (b && ltb d (get_or depths j 0)) (get_or tags j 0) 0 ≡ tag
    go false q =
        let z : n - j ≡ 0 = omega (arith, ltb-false j n q) in
        let w : length (between tags j n) ≡ 0 = ap (λ k. length (take k (drop j tags))) z in
        absurd (omega (arith, ap length te))
    go true q =
        let a = first-same (get_or tags j 0) tag (between tags (j + 1) n) ts (sym (part-first j n tags (ltb-true j n q) lt) ∙ te) in
        let b = first-same (get_or depths j 0) depth (between depths (j + 1) n) ds (sym (part-first j n depths (ltb-true j n q) ld) ∙ de) in
        let c : ltb d (get_or depths j 0) ≡ true = lt-ltb d (get_or depths j 0) (omega (arith, b.0)) in
        rw c a.0

-- ---- a site in a tree that memory holds, by the lists
module _ (n : ℕ) (m : Memory) (t : Items) (held : Held n m t) {t' : Items} {h : Site} {u w : Items} (v : Swapped top_site t t' h u w) where
  pub reach : Extent top_site t h u
  reach = extent v (ruled-plain t at_top held.whole.rules)

  module _ (field : Record → ℕ) (l : List ℕ) (reads : (j : ℕ) → field (row m.lists j) ≡ get_or l j 0) (long : n ≤ length l) where
    field_is : take n l ≡ map field reach.pre ++ ([] ++ (map field (records_at h u) ++ map field reach.post))
    field_is =
        held-field n m t held field l reads long
        ∙ (ap (map field) reach.is ∙ (map-append field reach.pre (records_at h u ++ reach.post)
        ∙ ap (λ z. map field reach.pre ++ z) (map-append field (records_at h u) reach.post)))

    field-before : length (map field reach.pre) ≡ h.number
    field-before = length-map reach.pre field ∙ omega (arith, reach.long)

    pub from-site : between l h.number n ≡ fields field (records_at h u) (map field reach.post)
    from-site =
        ap (λ k. between l k n) (omega (arith, field-before))
        ∙ cut-part l n long (map field reach.pre) [] (map field (records_at h u) ++ map field reach.post) field_is

    before-site : between l 0 h.number ≡ map field reach.pre
    before-site =
        part-second l n [] (map field reach.pre) (map field (records_at h u) ++ map field reach.post) field_is 0 h.number refl (omega (arith, field-before))

  pub site-low : h.number ≤ n
  site-low =
      let l = m.lists.tags in
      let long = (enough n m t held).tags in
      let k : length (take n l) ≡ n = length_part l 0 n (omega arith) in
      let a = map (λ r. r.tag) reach.pre in
      let b = map (λ r. r.tag) (records_at h u) ++ map (λ r. r.tag) reach.post in
      omega (arith, ap length (field_is (λ r. r.tag) l (λ j. refl) long), length-append a b, field-before (λ r. r.tag) l (λ j. refl) long)

  pub site-place : sum_of (between m.lists.sizes 0 h.number) ≡ h.place
  site-place = ap sum_of (before-site (λ r. r.size) m.lists.sizes (λ j. refl) (enough n m t held).sizes) ∙ omega (arith, reach.place)

  pub site-stops : deeper h.spot.depth (map (λ r. r.depth) reach.post) ≡ 0
  unfolding deeper
  site-stops = ap (deeper h.spot.depth) (sym (append-nil (map (λ r. r.depth) reach.post))) ∙ reach.stops [] refl

-- ---- the element that gets a child element, and its place
module _ (n : ℕ) (m : Memory) (t : Items) (held : Held n m t) (i k : ℕ) (f : Items → Items) (g : Stands f top_site t i (record_at i t)) where
  abbrev h : Site
  h = g.site

  abbrev u : Items
  u = item g.tag g.at g.body g.x g.y

  number : h.number ≡ i
  number = g.number ∙ omega arith

  plain : Plain u
  plain = (swapped-plain g.swapped (ruled-plain t at_top held.whole.rules)).old

  inner-rules : ruled (below h.spot g.tag) g.x ≡ true
  inner-rules = (ruled-parts h.spot g.tag g.at g.body g.x g.y (swapped-rules g.swapped held.whole.rules).kept).within

  abbrev post : List Record
  post = (reach n m t held g.swapped).post

  abbrev ys : List Record
  ys = records_at (beyond h g.tag g.body g.x) g.y

  abbrev xs : List Record
  xs = records_at (inner h g.tag) g.x

  pub in-lists : i < n
  in-lists =
      let a = map (λ r. r.tag) (records_at h u) in
      let e = from-site n m t held g.swapped (λ r. r.tag) m.lists.tags (λ j. refl) (enough n m t held).tags in
      let one : length (records_at h u) ≡ suc (length (xs ++ ys)) = ap length (records-here h g.tag g.at g.body g.x g.y plain) in
      let l : length (between m.lists.tags h.number n) ≡ n - h.number =
      length_part m.lists.tags h.number (n - h.number) (omega (arith, site-low n m t held g.swapped, (enough n m t held).tags)) in
      omega (arith, ap length e, length-append a (map (λ r. r.tag) post), length-map (records_at h u) (λ (r : Record). r.tag), number)

  module _ (field : Record → ℕ) (l : List ℕ) (reads : (j : ℕ) → field (row m.lists j) ≡ get_or l j 0) (long : n ≤ length l) where
    split : (get_or l i 0 ≡ field (record_here h g.tag g.body)) × (between l (suc i) n ≡ fields field xs (fields field ys (map field post)))
    split =
        let e = from-site n m t held g.swapped field l reads long in
        let r : fields field (records_at h u) (map field post) ≡ field (record_here h g.tag g.body) ∷ fields field xs (fields field ys (map field post)) =
        ap (λ z. fields field z (map field post)) (records-here h g.tag g.at g.body g.x g.y plain)
        ∙ ap {B = List ℕ} (λ z. field (record_here h g.tag g.body) ∷ z)
        (ap (λ z. z ++ map field post) (map-append field xs ys) ∙ append_assoc (map field xs) (map field ys) (map field post)) in
        let a = first-same (get_or l i 0) (field (record_here h g.tag g.body)) (between l (i + 1) n) (fields field xs (fields field ys (map field post)))
        (sym (part-first i n l in-lists long) ∙ (ap (λ j. between l j n) (sym number) ∙ (e ∙ r))) in
        (a.0, ap (λ j. between l j n) (sym (add-one i)) ∙ a.1)

  pub own-tag : get_or m.lists.tags i 0 ≡ g.tag
  own-tag = (split (λ r. r.tag) m.lists.tags (λ j. refl) (enough n m t held).tags).0 ∙ here-tag h g.tag g.body

  pub own-depth : get_or m.lists.depths i 0 ≡ h.spot.depth
  own-depth = (split (λ r. r.depth) m.lists.depths (λ j. refl) (enough n m t held).depths).0 ∙ here-depth h g.tag g.body

  module _ (e : Items) (p : Place k e (inner h g.tag) g.x) where
    found : child_behind n i k m.lists.tags m.lists.depths ≡ found_at p.lacks p.site.number
    unfolding below past
    found =
        let d = h.spot.depth in
        let tags' = fields (λ r. r.tag) ys (map (λ r. r.tag) post) in
        let depths' = fields (λ r. r.depth) ys (map (λ r. r.depth) post) in
        let stops = stop-records g.y (beyond h g.tag g.body g.x) plain.3 d (omega arith) (map (λ r. r.depth) post) (site-stops n m t held g.swapped) in
        let a = (split (λ r. r.tag) m.lists.tags (λ j. refl) (enough n m t held).tags).1 in
        let b = (split (λ r. r.depth) m.lists.depths (λ j. refl) (enough n m t held).depths).1 in
        (λ z. child_from (own-depth z) k (suc (sym number z)) (a z) (b z)) ∙ p.finds d refl plain.2 tags' depths' stops

    pub child-found : child_of n i k m.lists.tags m.lists.depths ≡ cond (opens g.tag) (found_at p.lacks p.site.number) None
    unfolding child_of
    child-found = rw (lt-ltb i n in-lists, own-tag, found)

    pub child-there : (o : List ℕ) → is_there (insert i k o) t ≡ (opens g.tag && eqb p.lacks 0)
    unfolding is_there first_tag first_inside
    child-there o =
        ap (λ z. opens (first_tag z) && leb k (children (first_inside z))) g.is ∙ ap (λ z. opens g.tag && z) (sym (p.enough inner-rules))

    -- the records from the place on
    module _ (field : Record → ℕ) (l : List ℕ) (reads : (j : ℕ) → field (row m.lists j) ≡ get_or l j 0) (long : n ≤ length l) where
      abbrev tail : List ℕ
      tail = fields field ys (map field post)

      from_place : between l p.site.number n ≡ fields field (records_at p.site p.rest) tail
      from_place =
          let pre = (reach n m t held g.swapped).pre in
          let own = field (record_here h g.tag g.body) in
          let inside : map field xs ≡ map field p.passed ++ map field (records_at p.site p.rest) =
          ap (map field) (p.splits plain.2) ∙ map-append field p.passed (records_at p.site p.rest) in
          let all : take n l ≡ map field pre ++ ((own ∷ map field p.passed) ++ (map field (records_at p.site p.rest) ++ tail)) =
          held-field n m t held field l reads long
          ∙ (ap (map field) (reach n m t held g.swapped).is ∙ (map-append field pre (records_at h u ++ post)
          ∙ ap (λ z. map field pre ++ z) (map-append field (records_at h u) post
          ∙ (ap (λ z. map field z ++ map field post) (records-here h g.tag g.at g.body g.x g.y plain)
          ∙ ap {B = List ℕ} (λ z. own ∷ z) (ap (λ z. z ++ map field post) (map-append field xs ys) ∙ (append_assoc (map field xs) (map field ys) (map field post)
          ∙ (ap (λ z. z ++ tail) inside ∙ append_assoc (map field p.passed) (map field (records_at p.site p.rest)) tail))))))) in
          let a : p.site.number ≡ length (map field pre) + length (own ∷ map field p.passed) =
          omega (arith, p.long plain.2, length-map pre field, length-map p.passed field, (reach n m t held g.swapped).long) in
          ap (λ j. between l j n) a ∙ cut-part l n long (map field pre) (own ∷ map field p.passed) (map field (records_at p.site p.rest) ++ tail) all

    -- the tag of the item there
    pub later-tag : tag_there n p.site.number (get_or m.lists.depths i 0) m.lists.tags m.lists.depths ≡ first_tag p.rest
    unfolding records loaded_in first_tag below past
    later-tag = ap (λ d. tag_there n p.site.number d m.lists.tags m.lists.depths) own-depth ∙ at_rest p.rest refl
      where
        tags' : List ℕ
        tags' = tail (λ r. r.tag) m.lists.tags (λ j. refl) (enough n m t held).tags

        depths' : List ℕ
        depths' = tail (λ r. r.depth) m.lists.depths (λ j. refl) (enough n m t held).depths

        ts : between m.lists.tags p.site.number n ≡ fields (λ r. r.tag) (records_at p.site p.rest) tags'
        ts = from_place (λ r. r.tag) m.lists.tags (λ j. refl) (enough n m t held).tags

        ds : between m.lists.depths p.site.number n ≡ fields (λ r. r.depth) (records_at p.site p.rest) depths'
        ds = from_place (λ r. r.depth) m.lists.depths (λ j. refl) (enough n m t held).depths

        stops : deeper h.spot.depth depths' ≡ 0
        stops = stop-records g.y (beyond h g.tag g.body g.x) plain.3 h.spot.depth (omega arith) (map (λ r. r.depth) post) (site-stops n m t held g.swapped)

        rest_plain : Plain p.rest
        rest_plain = (swapped-plain p.swapped plain.2).old

        at_rest : (z : Items) → p.rest ≡ z → tag_there n p.site.number h.spot.depth m.lists.tags m.lists.depths ≡ first_tag p.rest
        at_rest end q =
            let none : records_at p.site p.rest ≡ [] = ap (records_at p.site) q in
            let e : deeper h.spot.depth (between m.lists.depths p.site.number n) ≡ 0 = ap (deeper h.spot.depth) (ds ∙ ap (λ rs. fields (λ r. r.depth) rs depths') none) ∙ stops in
            tag-none n p.site.number h.spot.depth m.lists.tags m.lists.depths (enough n m t held).depths e ∙ sym (ap first_tag q)
        at_rest (item tag at body x y) q =
            let pl : Plain (item tag at body x y) = subst Plain q rest_plain in
            let rs : records_at p.site p.rest ≡ record_here p.site tag body ∷ (records_at (inner p.site tag) x ++ records_at (beyond p.site tag body x) y) =
            ap (records_at p.site) q ∙ records-here p.site tag at body x y pl in
            let more = records_at (inner p.site tag) x ++ records_at (beyond p.site tag body x) y in
            let a = ts ∙ ap (λ rs. fields (λ r. r.tag) rs tags') rs in
            let b = ds ∙ ap (λ rs. fields (λ r. r.depth) rs depths') rs in
            let deep : h.spot.depth < (record_here p.site tag body).depth = omega (arith, here-depth p.site tag body, p.depth) in
            tag-some n p.site.number h.spot.depth m.lists.tags m.lists.depths (enough n m t held).tags (enough n m t held).depths
            (record_here p.site tag body).tag (fields (λ r. r.tag) more tags') a (record_here p.site tag body).depth (fields (λ r. r.depth) more depths') b deep
            ∙ (here-tag p.site tag body ∙ sym (ap first_tag q))

    -- the order among the child elements, asked of the lists
    pub comes-there : p.lacks ≡ 0 → opens g.tag ≡ true → (own : ℕ) → is_child own ≡ true
        → comes_at p.site.spot.stage own p.rest ≡ comes_between k own (tag_there n p.site.number (get_or m.lists.depths i 0) m.lists.tags m.lists.depths)
    unfolding comes_at comes_between below latest is_child first_tag
    comes-there z o own c =
        let stage : p.site.spot.stage ≡ cond (eqb k 0) 0 2 = p.stage (opens-zero g.tag o) inner-rules z in
        ap₂ (λ a b. a && b) (ap (λ q. leb q (latest own)) stage ∙ own-order) (rest-order ∙ ap (λ q. not (eqb q 6)) (sym later-tag))
      where
        own-order : leb (cond (eqb k 0) 0 2) (latest own) ≡ (not (eqb own 6) || eqb k 0)
        own-order = go (attribute own) (eqb own 1) (eqb own 4) (eqb own 6) (eqb k 0) c
          where
            go : (a b d e f : Bool) → not (a || b || d) ≡ true → leb (cond f 0 2) (cond (a || d) 0 (cond e 1 2)) ≡ (not e || f)
            go true b d e f q = absurd (false≢true q)
            go false true d e f q = absurd (false≢true q)
            go false false true e f q = absurd (false≢true q)
            go false false false true true q = refl
            go false false false true false q = refl
            go false false false false true q = refl
            go false false false false false q = refl

        no_table : (z : Items) → Plain z → eqb (first_tag z) 4 ≡ false
        no_table end q = refl
        no_table (item tag at body x y) q = q.0

        rest-order : leb 2 (latest (first_tag p.rest)) ≡ not (eqb (first_tag p.rest) 6)
        rest-order = rw (p.later, no_table p.rest (swapped-plain p.swapped plain.2).old) (go (eqb (first_tag p.rest) 6))
          where
            go : (e : Bool) → leb 2 (cond e 1 2) ≡ not e
            go true = refl
            go false = refl
