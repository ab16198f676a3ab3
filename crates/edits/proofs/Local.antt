-- Which rules an edit can break: of a new text those of text alone, by removing none.
use mathlib.Core.Path.{◌≡◌, refl, sym, ap, ap₂, ◌∙◌, subst}
use mathlib.Core.Bool.{Bool, true, false, ◌&&◌, false≢true, or-true}
use mathlib.Core.Option.{Option}
use mathlib.Core.List.{List, []}
use Prim.Native.Nat.{ℕ, ◌<◌}
use native.Mathlib.Omega.{arith}
use lib.Dec.{eqb}
use borrow.Author.Tests.{ne_eqb}
use Rattle.octets.specs.Numbers.{among}
use Rattle.text.specs.Text.{text}
use Rattle.text.specs.Tokens.{shown_length}
use Rattle.values.specs.declared.Kind.{Kind}
use Rattle.values.specs.Table.{known, attribute, rows, kind_in}
use Rattle.values.specs.Values.{fits}
use Rattle.format.specs.Tree.{Items, count}
use Rattle.format.specs.Tree.Items.{item}
use Rattle.format.specs.Judge.{is_known, is_items, is_tokens, is_text, is_value, shown}
use Rattle.format.specs.Meaning.{opens}
use Rattle.format.specs.Writer.{Spot, past, at_top, body_keeps, keeps, ruled}
use Rattle.format.proofs.Kept.{Ruled, ruled-parts, keeps-parts}
use Rattle.format.proofs.Means.{text-known, items-opens}
use Rattle.format.proofs.Fine.{placed-parts, stage-past, stage-up}
use Rattle.edits.specs.Tree.{record_at, change_at, with_body, without, first_tag, is_there}
use Rattle.edits.specs.Tree.Edit.{replace}
use Rattle.edits.specs.Sites.{top_site}
use Rattle.edits.proofs.Swaps.{swapped-rules}
use Rattle.edits.proofs.Found.{Stands, found_number, at-record}
use Rattle.edits.proofs.Spots.{ruled-lower}

-- ---- a new text
text-zero : (p tag : ℕ) → is_text (known p tag) ≡ true → eqb tag 0 ≡ false
unfolding known attribute rows kind_in is_text
text-zero p tag h = ne_eqb tag 0 (λ q. false≢true (subst (λ n. is_text (known p n) ≡ true) q h))

-- it holds no items
pub text-shut : (p tag : ℕ) → is_text (known p tag) ≡ true → opens tag ≡ false
unfolding is_items
text-shut p tag h = sym (items-opens p tag) ∙ rw (text-known (known p tag) h)

-- what the rules ask of it
unfoldable pub is_new_text : (parent tag : ℕ) → List ℕ → Bool
is_new_text parent tag o = text false o && shown parent tag (shown_length [] o)

text-keeps : (p tag : ℕ) (o : List ℕ) (k : Option Kind) → is_text k ≡ true → body_keeps p tag o k ≡ is_new_text p tag o
unfolding body_keeps is_new_text is_known is_tokens is_text is_value fits
text-keeps p tag o k e = rw (text-known k e)

body-rules : (s : Spot) (tag at : ℕ) (body o : List ℕ) (x y : Items) → Ruled s tag body x y → is_text (known s.parent tag) ≡ true
    → ruled s (item tag at o x y) ≡ is_new_text s.parent tag o
unfolding ruled keeps
body-rules s tag at body o x y u e =
    let p = (keeps-parts s tag body u.rules).place in
    rw (u.holder, p, u.within, u.beside, text-keeps s.parent tag o (known s.parent tag) e) (twice (is_new_text s.parent tag o))
  where
    twice : (b : Bool) → b && true && true ≡ b
    twice true = refl
    twice false = refl

-- where a text stands
pub record TextAt (o : List ℕ) (t : Items) (i : ℕ) : Type 0 where
  pub stand : Stands (with_body o) top_site t i (record_at i t)
  pub words : is_text (known stand.site.spot.parent stand.tag) ≡ true

-- its number is one of a record
pub text-number : (t : Items) → ruled at_top t ≡ true → (i : ℕ) (o : List ℕ) → is_there (replace i o) t ≡ true → i < count t
unfolding is_there
text-number t r i o h = found_number t r i (text-zero (record_at i t).parent (first_tag (record_at i t).items) h)

pub text_at : (t : Items) → ruled at_top t ≡ true → (i : ℕ) (o : List ℕ) → is_there (replace i o) t ≡ true → TextAt o t i
unfolding is_there first_tag
text_at t r i o h =
    let g = at-record (with_body o) t r i (text-number t r i o h) in
    record {
      stand = g;
      words = subst (λ p. is_text (known p g.tag) ≡ true) g.parent (subst (λ u. is_text (known (record_at i t).parent (first_tag u)) ≡ true) g.is h);
    }

-- the tree with a new text keeps the rules exactly where the text does
pub replace-rules : (t : Items) → ruled at_top t ≡ true → (i : ℕ) (o : List ℕ) → is_there (replace i o) t ≡ true
    → ruled at_top (change_at (with_body o) i t) ≡ is_new_text (record_at i t).parent (first_tag (record_at i t).items) o
unfolding with_body first_tag
replace-rules t r i o h =
    let a = text_at t r i o h in
    let g = a.stand in
    let q = swapped-rules g.swapped r in
    let s = g.site.spot in
    q.same
    ∙ (body-rules s g.tag g.at g.body o g.x g.y (ruled-parts s g.tag g.at g.body g.x g.y q.kept) a.words
    ∙ ap₂ (λ p m. is_new_text p m o) (sym g.parent) (sym (ap first_tag g.is)))

-- ---- an item away: fewer items before an item break no rule for it
ruled-without : (s : Spot) (tag at : ℕ) (body : List ℕ) (x y : Items) → ruled s (item tag at body x y) ≡ true → ruled s y ≡ true
unfolding past among
ruled-without s tag at body x y h =
    let u = ruled-parts s tag at body x y h in
    let p = placed-parts s tag (keeps-parts s tag body u.rules).place in
    ruled-lower y (past s tag) u.beside s.stage s.seen (omega (arith, stage-up s tag p, stage-past s tag)) (λ a e q. rw q (or-true (eqb a tag)))

-- so removing breaks none
pub remove-rules : (t : Items) → ruled at_top t ≡ true → (i : ℕ) → i < count t → ruled at_top (change_at without i t) ≡ true
unfolding without
remove-rules t r i l =
    let g = at-record without t r i l in
    let q = swapped-rules g.swapped r in
    q.same ∙ ruled-without g.site.spot g.tag g.at g.body g.x g.y q.kept
