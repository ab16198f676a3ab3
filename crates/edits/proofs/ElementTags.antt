-- The tag of the element around a record, by the lists that hold a tree: what the code needs to know a record's kind (18 where it is no text).
use mathlib.Core.Path.{◌≡◌, refl, sym, ap, ap₂, ◌∙◌}
use mathlib.Core.Bool.{true, false, false≢true}
use mathlib.Core.List.{List, ◌++◌}
use Prim.Native.Nat.{ℕ, ◌<◌}
use native.Mathlib.Omega.{arith}
use Rattle.values.specs.Table.{known}
use Rattle.format.specs.declared.Record.{Record}
use Rattle.format.specs.Tree.{Items, records, records_of}
use Rattle.format.specs.Tree.Items.{end, item}
use Rattle.format.specs.Judge.{is_text}
use Rattle.format.specs.Writer.{below, past, at_top, is_end, ruled}
use Rattle.format.specs.Calls.{row}
use Rattle.format.specs.State.{Memory}
use Rattle.format.proofs.Kept.{ruled-parts}
use Rattle.format.proofs.Order.{ruled-order, three-end}
use Rattle.format.proofs.Rebuilt.{whole-count}
use Rattle.format.proofs.Tabled.{left, left-all, left-none, item-stands}
use Rattle.state.proofs.HeldTree.{Held}
use Rattle.edits.specs.Tree.{record_at, first_tag, is_there, with_body, change_at}
use Rattle.edits.specs.Tree.Edit.{replace}
use Rattle.edits.specs.Sites.{Site, top_site, Swapped}
use Rattle.edits.specs.Sites.Swapped.{here, inside, after}
use Rattle.edits.proofs.Swaps.{Plain, ruled-plain, swapped-none}
use Rattle.edits.proofs.Found.{Stands, at-record}
use Rattle.edits.proofs.Local.{is_new_text, replace-rules}

module _ (row : ℕ → Record) (n : ℕ) where
  -- the records from a site's number on are those of the items there, up to some number
  record Lie (s : Site) (t : Items) : Type 0 where
    upto : ℕ
    are : left row n s.number ≡ records s.spot.depth s.up s.number t ++ left row n upto

  -- the record at a site is that of its item, and its element's record has its element's tag
  pub record Seen (h : Site) (tag : ℕ) : Type 0 where
    pub own : (row h.number).tag ≡ tag
    pub parent : (row h.number).parent ≡ h.up
    pub element : (row h.up).tag ≡ h.spot.parent

  seen-down : {s : Site} {t t' : Items} {h : Site} {u w : Items} → Swapped s t t' h u w → Plain t → Lie s t → (row s.up).tag ≡ s.spot.parent → is_end u ≡ false
      → Seen h (first_tag u)
  unfolding below past is_end first_tag
  seen-down (here s end t') p l e f = absurd (false≢true (sym f))
  seen-down (here s (item tag at body x y) t') p l e f =
      let g = item-stands row n s.spot.depth s.up s.number l.upto tag at body x y p.0 l.are in
      record { own = ap (λ r. r.tag) g.is_row; parent = ap (λ r. r.parent) g.is_row; element = e }
  seen-down (inside s tag at body x x' y h u w o v) p l e f =
      let g = item-stands row n s.spot.depth s.up s.number l.upto tag at body x y p.0 l.are in
      seen-down v p.2 (record { upto = _; are = g.inner }) (ap (λ r. r.tag) g.is_row) f
  seen-down (after s tag at body x y y' h u w v) p l e f =
      let g = item-stands row n s.spot.depth s.up s.number l.upto tag at body x y p.0 l.are in
      seen-down v p.3 (record { upto = l.upto; are = g.later }) e f

  -- from the top on, of an item below it
  seen_below : {t t' : Items} {h : Site} {u w : Items} → Swapped top_site t t' h u w → ruled at_top t ≡ true → Lie top_site t → 0 < h.number → is_end u ≡ false
      → Seen h (first_tag u)
  unfolding below past is_end at_top
  seen_below (here s t t') r l z f = absurd (omega arith)
  seen_below (inside s tag at body x x' y h u w o v) r l z f =
      let p = ruled-plain (item tag at body x y) at_top r in
      let g = item-stands row n 1 0 0 l.upto tag at body x y p.0 l.are in
      seen-down v p.2 (record { upto = _; are = g.inner }) (ap (λ r. r.tag) g.is_row) f
  seen_below (after s tag at body x y y' h u w v) r l z f =
      let q = ruled-parts at_top tag at body x y r in
      let none : end ≡ y = three-end y (past at_top tag) refl (ruled-order y (past at_top tag) q.beside) in
      absurd (false≢true (sym f ∙ swapped-none v (sym (ap is_end none))))

-- of a tree that memory holds
pub site-seen : (n : ℕ) (m : Memory) (t : Items) → Held n m t → {t' : Items} {h : Site} {u w : Items} → Swapped top_site t t' h u w → 0 < h.number → is_end u ≡ false
    → Seen (row m.lists) n h (first_tag u)
unfolding at_top
site-seen n m t held v z f =
    seen_below (row m.lists) n v held.whole.rules
    (record { upto = n; are = left-all (row m.lists) n ∙ (sym held.whole.records ∙ sym (left-none (row m.lists) n (records_of t))) }) z f

-- so whether a record below the top is a text, and whether a new one keeps the rules, is told by two lookups
module _ (n : ℕ) (m : Memory) (t : Items) (held : Held n m t) (i : ℕ) (above : 0 < i) (number : i < n) (o : List ℕ) where
  stand : Stands (with_body o) top_site t i (record_at i t)
  stand = at-record (with_body o) t held.whole.rules i (omega (arith, whole-count (row m.lists) n m.store t held.whole))

  seen : Seen (row m.lists) n stand.site stand.tag
  unfolding is_end first_tag
  seen = site-seen n m t held stand.swapped (omega (arith, stand.number)) refl

  own-tag : (row m.lists i).tag ≡ stand.tag
  own-tag = ap (λ k. (row m.lists k).tag) (sym (stand.number ∙ omega arith)) ∙ seen.own

  element-tag : (row m.lists (row m.lists i).parent).tag ≡ (record_at i t).parent
  element-tag =
      ap (λ k. (row m.lists (row m.lists k).parent).tag) (sym (stand.number ∙ omega arith))
      ∙ (ap (λ k. (row m.lists k).tag) seen.parent ∙ (seen.element ∙ sym stand.parent))

  first-tag : first_tag (record_at i t).items ≡ (row m.lists i).tag
  unfolding first_tag
  first-tag = ap first_tag stand.is ∙ sym own-tag

  pub text-told : is_there (replace i o) t ≡ is_text (known (row m.lists (row m.lists i).parent).tag (row m.lists i).tag)
  unfolding is_there
  text-told = ap₂ (λ a b. is_text (known a b)) (sym element-tag) first-tag

  pub text-ruled : is_there (replace i o) t ≡ true
      → ruled at_top (change_at (with_body o) i t) ≡ is_new_text (row m.lists (row m.lists i).parent).tag (row m.lists i).tag o
  text-ruled h = replace-rules t held.whole.rules i o h ∙ ap₂ (λ a b. is_new_text a b o) (sym element-tag) first-tag
