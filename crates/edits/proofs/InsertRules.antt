-- An element put in as a child element: the whole tree keeps the rules exactly where the element comes no later than it may and the item behind it may come after an
-- element. Else it is 0x06 behind another element, or stands before 0x06.
use mathlib.Core.Path.{◌≡◌, sym, ap, ◌∙◌, subst}
use mathlib.Core.Bool.{true, false}
use mathlib.Core.Option.{some}
use mathlib.Core.List.{List}
use Prim.Native.Nat.{ℕ, suc}
use lib.Dec.{eqb, leb}
use Rattle.octets.specs.Numbers.{Octets}
use Rattle.octets.proofs.Tests.{and_left}
use Rattle.values.specs.declared.Kind.TheVariants.{HoldsItems}
use Rattle.values.specs.Table.{known}
use Rattle.values.proofs.Known.{not-zero}
use Rattle.format.specs.Tree.{Items}
use Rattle.format.specs.Tree.Items.{end, item}
use Rattle.format.specs.Meaning.{opens}
use Rattle.format.specs.Writer.{below, at_top, ruled}
use Rattle.format.proofs.Means.{items-known}
use Rattle.edits.specs.Tree.{record_at, change_at, first_tag, first_inside, holding, before, put_child, children, is_there, inside_of, element_of}
use Rattle.edits.specs.Tree.Edit.{insert}
use Rattle.edits.specs.Sites.{top_site, inner, Swapped}
use Rattle.edits.specs.Sites.Swapped.{inside}
use Rattle.edits.proofs.Swaps.{swapped-rules, swapped-then}
use Rattle.edits.proofs.Found.{Stands, found_number, at-record}
use Rattle.edits.proofs.Spots.{first_in}
use Rattle.edits.proofs.Elements.{Whole, element-whole, element-ruled}
use Rattle.edits.proofs.Putting.{Place, place, comes_at, put-rules}

pub opens-zero : (tag : ℕ) → opens tag ≡ true → eqb tag 0 ≡ false
unfolding opens
opens-zero tag o = not-zero tag HoldsItems (items-known (known 0 tag) o)

module _ (t : Items) (r : ruled at_top t ≡ true) (i k : ℕ) (o : List ℕ) (os : Octets o) (there : is_there (insert i k o) t ≡ true) (e : Items)
    (h : element_of (inside_of (record_at i t)) o ≡ some e) where
  holds : opens (first_tag (record_at i t).items) ≡ true
  unfolding is_there
  holds = and_left (opens (first_tag (record_at i t).items)) (leb k (children (first_inside (record_at i t).items))) there

  some-tag : eqb (first_tag (record_at i t).items) 0 ≡ false
  some-tag = opens-zero (first_tag (record_at i t).items) holds

  -- the element that it is put into
  pub stand : Stands (holding (put_child k e)) top_site t i (record_at i t)
  stand = at-record (holding (put_child k e)) t r i (found_number t r i some-tag)

  first-tag : first_tag (record_at i t).items ≡ stand.tag
  unfolding first_tag
  first-tag = ap first_tag stand.is

  pub whole : Whole (inside_of (record_at i t)) o e
  whole = element-whole (inside_of (record_at i t)) o e h

  -- the place in it
  pub spot : Place k e (inner stand.site stand.tag) stand.x
  spot = place e stand.x k (inner stand.site stand.tag)

  -- which holds items, so it isn't the whole
  pub in-element : eqb spot.site.spot.parent 0 ≡ false
  unfolding below
  in-element = ap (λ n. eqb n 0) (spot.parent ∙ sym first-tag) ∙ some-tag

  pub insert-swaps : Swapped top_site t (change_at (holding (put_child k e)) i t) spot.site spot.rest (before e spot.rest)
  unfolding holding
  insert-swaps =
      let v = inside stand.site stand.tag stand.at stand.body stand.x (put_child k e stand.x) stand.y spot.site in
      swapped-then stand.swapped (v spot.rest (before e spot.rest) (ap opens (sym first-tag) ∙ holds) spot.swapped)

  pub insert-rules : ruled at_top (change_at (holding (put_child k e)) i t) ≡ comes_at spot.site.spot.stage whole.tag spot.rest
  unfolding below
  insert-rules =
      let q = swapped-rules insert-swaps r in
      let p = spot.site.spot in
      let up : first_tag (record_at i t).items ≡ p.parent = first-tag ∙ sym spot.parent in
      let deep : suc (record_at i t).depth ≡ p.depth = ap suc stand.depth ∙ sym spot.depth in
      let it = item whole.tag whole.at whole.body whole.x end in
      let alone : ruled (first_in p.parent p.depth) it ≡ true =
      subst (λ v. ruled (first_in p.parent p.depth) v ≡ true) whole.is
      (subst (λ n. ruled (first_in n p.depth) e ≡ true) up
      (subst (λ n. ruled (first_in (first_tag (record_at i t).items) n) e ≡ true) deep (element-ruled (record_at i t) o os some-tag e whole))) in
      q.same
      ∙ (ap (λ v. ruled p (before v spot.rest)) whole.is
      ∙ put-rules p whole.tag whole.child (ap (λ n. eqb n 0) (sym up) ∙ some-tag) whole.at whole.body whole.x spot.rest alone q.kept)
