-- The element that is put in: what is accepted where it will stand keeps the rules there, so that only its order among its brothers is left to ask.
use mathlib.Core.Path.{◌≡◌, refl, sym, ap, ◌∙◌, subst}
use mathlib.Core.Bool.{Bool, true, false, cond, not, ◌&&◌, ◌||◌, false≢true}
use mathlib.Core.Option.{Option, none, some, some-injective, none-ne-some}
use mathlib.Core.List.{List, [], ◌∷◌, cons≢nil}
use Prim.Native.Nat.{ℕ, suc, ◌+◌}
use native.Mathlib.Omega.{arith}
use lib.Dec.{eqb, leb}
use lib.ListN.{length, drop_of_length-le}
use lib.Seq.{drop-drop}
use borrow.Author.Tests.{eqb-true}
use Rattle.octets.specs.Numbers.{Octets}
use Rattle.octets.specs.Header.{header_size, body_size}
use Rattle.octets.specs.Places.{after_first}
use Rattle.octets.proofs.Tests.{and_left, and-true}
use Rattle.text.specs.Text.{text}
use Rattle.text.specs.Tokens.{covered, shown_length}
use Rattle.text.proofs.Expansion.{sound_empty, text-plain}
use Rattle.values.specs.declared.Kind.{Kind}
use Rattle.values.specs.Table.{known, attribute}
use Rattle.format.specs.Tree.{Items, find}
use Rattle.format.specs.Tree.Items.{end, item}
use Rattle.format.specs.Judge.{Judged, Context, is_text, is_top, allowed, shown, read}
use Rattle.format.specs.Judge.Judged.{refused, accepted}
use Rattle.format.specs.Meaning.{is_child}
use Rattle.format.specs.Writer.{Spot, below, past, body_keeps, keeps, ruled}
use Rattle.format.proofs.Induction.{Cases, accepted-all}
use Rattle.format.proofs.Kept.{is-ruled}
use Rattle.format.proofs.Fine.{placed-parts}
use Rattle.format.proofs.Force.{Valid, forced, inner-tag, swap-eqb}
use Rattle.format.proofs.Told.{Told, ItemTold, KindTold, part-told}
use Rattle.judge.proofs.AllWays.{tokens-four}
use Rattle.edits.proofs.Spots.{first_in}
use Rattle.edits.specs.Tree.{Found, without, first_tag, inside_of, is_one_item, first_element, element_of}

-- ---- of octets that are one item no more than that item is read
record Single (part : List ℕ) (t : Items) : Type 0 where
  empty : part ≡ [] → t ≡ end
  alone : header_size part + body_size part ≡ length part → without t ≡ end

pub later-none : (p : List ℕ) → header_size p + body_size p ≡ length p → after_first p ≡ []
later-none p e = drop-drop (body_size p) (header_size p) p ∙ drop_of_length-le p {i = header_size p + body_size p} (omega arith)

single-cases : Cases (λ c at part t. Single part t)
unfolding without
single-cases = record {
  at_end = λ c at q. record { empty = λ e. refl; alone = λ e. refl };
  at_unknown = λ c at tag rest u q e later. record { empty = λ n. absurd (cons≢nil n); alone = λ n. ap without (later.empty (later-none (tag ∷ rest) n)) };
  at_element = λ c at tag rest s u q e inside later. record { empty = λ n. absurd (cons≢nil n); alone = λ n. later.empty (later-none (tag ∷ rest) n) };
  at_leaf = λ c at tag rest u k q e l later. record { empty = λ n. absurd (cons≢nil n); alone = λ n. later.empty (later-none (tag ∷ rest) n) };
}

pub single : (c : Context) (o : List ℕ) (t : Items) → is_one_item o ≡ true → read c 0 o ≡ accepted t → without t ≡ end
unfolding is_one_item
single c o t h q =
    let e = eqb-true (header_size o + body_size o) (length o) (and_left (eqb (header_size o + body_size o) (length o)) (leb (length o) 32_768) h) in
    (accepted-all (λ c at part t. Single part t) single-cases (suc (length o)) c 0 o t q).alone e

-- the element that octets are, as it is read
pub record Whole (c : Context) (o : List ℕ) (e : Items) : Type 0 where
  pub tag : ℕ
  pub at : ℕ
  pub body : List ℕ
  pub x : Items
  pub is : e ≡ item tag at body x end
  pub child : is_child tag ≡ true
  pub reads : read c 0 o ≡ accepted e

pub element-whole : (c : Context) (o : List ℕ) (e : Items) → element_of c o ≡ some e → Whole c o e
unfolding element_of first_element without
element-whole c o e h = go (is_one_item o) refl h
  where
    item-is : (tag at : ℕ) (body : List ℕ) (x y : Items) → is_one_item o ≡ true → read c 0 o ≡ accepted (item tag at body x y) → (b : Bool) → is_child tag ≡ b
        → cond b (some (item tag at body x end)) none ≡ some e → Whole c o e
    item-is tag at body x y w q false k g = absurd (none-ne-some e g)
    item-is tag at body x y w q true k g =
        let is = some-injective (item tag at body x end) e g in
        let alone = ap (item tag at body x) (single c o (item tag at body x y) w q) in
        record { tag = tag; at = at; body = body; x = x; is = sym is; child = k; reads = q ∙ ap accepted (alone ∙ is) }

    all : (j : Judged) → is_one_item o ≡ true → read c 0 o ≡ j → first_element j ≡ some e → Whole c o e
    all (refused r) w q g = absurd (none-ne-some e g)
    all (accepted end) w q g = absurd (none-ne-some e g)
    all (accepted (item tag at body x y)) w q g = item-is tag at body x y w q (is_child tag) refl g

    go : (b : Bool) → is_one_item o ≡ b → cond b (first_element (read c 0 o)) none ≡ some e → Whole c o e
    go false w g = absurd (none-ne-some e g)
    go true w g = all (read c 0 o) w refl g

-- ---- an item that is told and isn't the token table keeps the rules of the writer
words-kept : (p tag : ℕ) (body : List ℕ) (k : Option Kind) → KindTold [] p tag body k → not (is_text k) || text false body && shown p tag (shown_length [] body) ≡ true
words-kept p tag body k t = go (is_text k) t.valid t.covers t.short
  where
    go : (b : Bool) → not b || text true body ≡ true → not b || covered [] body ≡ true → not b || shown p tag (shown_length [] body) ≡ true
        → not b || text false body && shown p tag (shown_length [] body) ≡ true
    go false v c s = refl
    go true v c s = and-true (text false body) (shown p tag (shown_length [] body)) (text-plain body v c) s

item-keeps : (s : Spot) (tag : ℕ) (body : List ℕ) (x : Items) → ItemTold [] s tag body x → eqb tag 4 ≡ false → keeps s tag body ≡ true
unfolding keeps body_keeps
item-keeps s tag body x i f =
    rw (i.place, i.kind.is_one, tokens-four s.parent tag ∙ f, i.kind.value, words-kept s.parent tag body (known s.parent tag) i.kind)

-- there is no token table in an element that isn't the top
no_table : (p tag : ℕ) → eqb p 0 ≡ false → is_top p ≡ false → allowed p tag ≡ true → eqb tag 4 ≡ false
unfolding allowed
no_table p tag z t a = go (eqb tag 0 || is_top tag) (eqb tag 4) (eqb tag 6) (rw (z, t) at a)
  where
    go : (b c d : Bool) → not b && (false || not (c || d)) ≡ true → c ≡ false
    go true c d g = absurd (false≢true g)
    go false true d g = absurd (false≢true g)
    go false false d g = refl

told-ruled : (t : Items) (s : Spot) → eqb s.parent 0 ≡ false → is_top s.parent ≡ false → Told [] s t → ruled s t ≡ true
unfolding ruled below past
told-ruled end s z n h = refl
told-ruled (item tag at body x y) s z n h =
    let a = (placed-parts s tag h.0.place).allow in
    let g = inner-tag s.parent tag z a in
    is-ruled s tag at body x y (record {
      holder = h.0.holder;
      rules = item-keeps s tag body x h.0 (no_table s.parent tag z n a);
      within = told-ruled x (below s tag) g.1 g.0 h.1;
      beside = told-ruled y (past s tag) z n h.2;
    })

pub child-four : (tag : ℕ) → is_child tag ≡ true → eqb tag 4 ≡ false
unfolding is_child
child-four tag h = go (attribute tag || eqb tag 1) (eqb tag 4) h
  where
    go : (a b : Bool) → not (a || b) ≡ true → b ≡ false
    go true b g = absurd (false≢true g)
    go false true g = absurd (false≢true g)
    go false false g = refl

-- ---- so what is accepted in an element as one element keeps the rules there by itself: `put-rules` then says what is left to ask
module _ (f : Found) (o : List ℕ) (os : Octets o) (z : eqb (first_tag f.items) 0 ≡ false) (e : Items) (w : Whole (inside_of f) o e) where
  abbrev spot : Spot
  spot = first_in (first_tag f.items) (suc f.depth)

  valid : Valid (inside_of f)
  unfolding inside_of
  valid = record { sound = sound_empty; opened = λ q. refl; closed = λ q. refl; inner = z }

  one_told : Told [] spot (item w.tag w.at w.body w.x end)
  unfolding inside_of find
  one_told =
      let none-four : find 4 (item w.tag w.at w.body w.x end) ≡ none = rw (swap-eqb w.tag 4 (child-four w.tag w.child)) in
      subst (λ T. Told T spot (item w.tag w.at w.body w.x end)) (ap (forced []) none-four)
      (part-told (inside_of f) o (item w.tag w.at w.body w.x end) os (w.reads ∙ ap accepted w.is) valid)

  pub element-ruled : ruled (first_in (first_tag f.items) (suc f.depth)) e ≡ true
  unfolding ruled below
  element-ruled =
      let h = one_told in
      let a = inner-tag (first_tag f.items) w.tag z (placed-parts spot w.tag h.0.place).allow in
      ap (ruled spot) w.is
      ∙ is-ruled spot w.tag w.at w.body w.x end (record {
        holder = h.0.holder;
        rules = item-keeps spot w.tag w.body w.x h.0 (child-four w.tag w.child);
        within = told-ruled w.x (below spot w.tag) a.1 a.0 h.1;
        beside = refl;
      })
