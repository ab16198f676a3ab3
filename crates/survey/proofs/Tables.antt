-- The token table of an object: what is found of accepted octets, and the ways through table_in and table_of.
use Rattle.std.specs.Prelude.{Some, None, Option as Optional}
use mathlib.Core.Path.{◌≡◌, refl, sym, ap, ◌∙◌}
use mathlib.Core.Bool.{Bool, true, false, cond}
use mathlib.Core.Option.{Option, some}
use mathlib.Core.List.{List, [], ◌∷◌}
use Prim.Native.Nat.{ℕ, zero, suc, ◌+◌, ◌-◌, ◌≤◌, ◌<◌}
use native.Mathlib.Omega.{arith}
use lib.Dec.{eqb}
use lib.ListN.{length, take, drop, get_or, drop_of_length-le}
use borrow.Author.Tests.{le-leb, eqb-true, eqb-false, eq-eqb, ne_eqb}
use Rattle.octets.specs.Header.{header_size, body_size}
use Rattle.octets.specs.Places.{is_whole, lies_at, first_body, after_first, from_to}
use Rattle.octets.proofs.Places.{Lying, lying, not-whole, to_inside, body_is, later-is, tag-is, fewer-after, none-whole}
use Rattle.octets.specs.declared.Lies.{Lies}
use Rattle.text.specs.Tokens.{cut, entries}
use Rattle.values.specs.declared.Kind.{Kind}
use Rattle.values.specs.declared.Kind.TheVariants.{HoldsItems}
use Rattle.values.specs.Table.{known, attribute}
use Rattle.values.proofs.Known.{known-four, known-anywhere}
use Rattle.format.specs.Tree.{Items, find}
use Rattle.format.specs.Tree.Items.{end, item}
use Rattle.format.specs.Judge.{is_known, is_items, judge, outermost, read}
use Rattle.format.specs.Judge.Judged.{accepted}
use Rattle.format.specs.Meaning.{table_in, table_of}
use Rattle.format.proofs.Rules.{held, unless-none, accepted-size, accepted-read}
use Rattle.format.proofs.Fuel.{read-item}
use Rattle.format.proofs.Force.{top-known}
use Rattle.reader.specs.Filling.{Accepts, share}
use Rattle.reader.proofs.Opening.{Opened, opened, opened-end, fits_in}
use Rattle.reader.proofs.Reading.{whole}
use Rattle.survey.specs.Places.{table_within, first_table, table_body}

-- ---- the table among the items of octets, from one item to the next

-- as many steps as there are octets suffice
enough : (n m : ℕ) (s : List ℕ) → length s ≤ n → length s ≤ m → table_within n s ≡ table_within m s
unfolding table_within
enough zero zero s h k = refl
enough zero (suc m) s h k = rw (none-whole s h)
enough (suc n) zero s h k = rw (none-whole s k)
enough (suc n) (suc m) s h k = go (is_whole s) refl (λ l. enough n m (after_first s) (omega arith) (omega arith))
  where
    go : (b : Bool) → is_whole s ≡ b → (length (after_first s) < length s → table_within n (after_first s) ≡ table_within m (after_first s))
        → cond b (cond (eqb (get_or s 0 0) 4) (first_body s) (table_within n (after_first s))) []
        ≡ cond b (cond (eqb (get_or s 0 0) 4) (first_body s) (table_within m (after_first s))) []
    go false q later = refl
    go true q later = ap (λ x. cond (eqb (get_or s 0 0) 4) (first_body s) x) (later (fewer-after s q))

abbrev step : List ℕ → Bool → List ℕ
step s b = cond b (cond (eqb (get_or s 0 0) 4) (first_body s) (first_table (after_first s))) []

table_step : (s : List ℕ) → first_table s ≡ step s (is_whole s)
unfolding first_table table_within
table_step [] = rw (none-whole [] (omega arith))
table_step (tag ∷ rest) = go (is_whole s) refl
  where
    s : List ℕ
    s = tag ∷ rest

    go : (b : Bool) → is_whole s ≡ b → cond b (cond (eqb (get_or s 0 0) 4) (first_body s) (table_within (length rest) (after_first s))) [] ≡ step s b
    go false q = refl
    go true q =
        let l = fewer-after s q in
        ap (λ x. cond (eqb (get_or s 0 0) 4) (first_body s) x) (enough (length rest) (length (after_first s)) (after_first s) (omega arith) (omega arith))

module _ (s : List ℕ) where
  table_none : is_whole s ≡ false → first_table s ≡ []
  table_none h = table_step s ∙ ap (step s) h

  table_here : is_whole s ≡ true → get_or s 0 0 ≡ 4 → first_table s ≡ first_body s
  table_here h e = table_step s ∙ ap (step s) h ∙ rw (eq-eqb (get_or s 0 0) 4 e)

  table-later : is_whole s ≡ true → (get_or s 0 0 ≡ 4 → ⊥) → first_table s ≡ first_table (after_first s)
  table-later h e = table_step s ∙ ap (step s) h ∙ rw (ne_eqb (get_or s 0 0) 4 e)

-- ---- of accepted octets it is the token table of the meaning

find-table : (p tag from : ℕ) (body : List ℕ) (u v : Items) → tag ≡ 4 → find 4 (share (known p tag) tag from body u v) ≡ some body
unfolding share find attribute is_items is_known
find-table p tag from body u v e = rw (e, known-anywhere p 4 refl, known-four)

find-other : (k : Option Kind) (tag from : ℕ) (body : List ℕ) (u v : Items) → (tag ≡ 4 → ⊥) → find 4 (share k tag from body u v) ≡ find 4 v
unfolding share find
find-other k tag from body u v h = go (is_items k) (is_known k)
  where
    go : (a b : Bool) → find 4 (cond a (item tag from body u v) (cond b (item tag from body end v) v)) ≡ find 4 v
    go true b = rw (ne_eqb 4 tag (λ q. h (sym q)))
    go false true = rw (ne_eqb 4 tag (λ q. h (sym q)))
    go false false = refl

abbrev Told : List ℕ → Items → Type 0
Told s t = entries (first_table s) ≡ table_in (find 4 t)

told-end : (t : Items) → t ≡ end → Told [] t
unfolding first_table table_within find table_in entries cut
told-end t e = sym (ap (λ x. table_in (find 4 x)) e)

module _ (p depth tag from behind : ℕ) (s : List ℕ) (t : Items) (w : is_whole s ≡ true) (e : get_or s 0 0 ≡ tag)
    (o : Opened p depth tag from behind (first_body s) (after_first s) t) where
  told-item : Told (after_first s) o.v → Told s t
  unfolding table_in
  told-item later = go (eqb tag 4) refl
    where
      go : (b : Bool) → eqb tag 4 ≡ b → Told s t
      go true q =
          let i = eqb-true tag 4 q in
          ap entries (table_here s w (e ∙ i)) ∙ sym (ap table_in (ap (find 4) o.tree ∙ find-table p tag from (first_body s) o.u o.v i))
      go false q =
          let n : tag ≡ 4 → ⊥ = eqb-false tag 4 q in
          ap entries (table-later s w (λ z. n (sym e ∙ z))) ∙ later ∙ sym (ap table_in (ap (find 4) o.tree ∙ find-other (known p tag) tag from (first_body s) o.u o.v n))

told-first : (s : List ℕ) (p depth offset : ℕ) (t : Items) → Accepts p depth offset s t
    → ((v : Items) (behind : ℕ) → length (after_first s) < length s → Accepts p depth behind (after_first s) v → Told (after_first s) v) → Told s t
told-first [] p depth offset t a later = told-end t (opened-end p depth offset t a)
told-first (tag ∷ rest) p depth offset t a later =
    let s = tag ∷ rest in
    let o = opened p depth offset s t (omega arith) a in
    let w : is_whole s ≡ true = le-leb (header_size s + body_size s) (length s) (fits_in p depth offset s t (omega arith) a) in
    told-item p depth tag _ _ s t w refl o (later o.v _ (fewer-after s w) o.after)

told-within : (n : ℕ) (s : List ℕ) (p depth offset : ℕ) (t : Items) → length s ≤ n → Accepts p depth offset s t → Told s t
told-within zero s p depth offset t h a = told-first s p depth offset t a (λ v behind l b. absurd (omega arith))
told-within (suc n) s p depth offset t h a = told-first s p depth offset t a (λ v behind l b. told-within n (after_first s) p depth behind v (omega arith) b)

-- the first item of an accepted object holds items
top-opens : (o : List ℕ) (t : Items) → 0 < length o → read outermost 0 o ≡ accepted t → known 0 (get_or o 0 0) ≡ some HoldsItems
unfolding outermost
top-opens [] t l q = absurd (omega arith)
top-opens (tag ∷ rest) t l q =
    let s = tag ∷ rest in
    let b = unless-none _ _ t (sym (read-item outermost 0 tag rest (header_size s) (body_size s) (first_body s) (after_first s) refl refl refl refl) ∙ q) in
    top-known tag (held outermost 0 tag (header_size s) (body_size s) (suc (length rest)) (first_body s) b).allow

top-holds : (o : List ℕ) (t : Items) → judge o ≡ accepted t → known 0 (get_or o 0 0) ≡ some HoldsItems
top-holds o t h = top-opens o t (accepted-size o t h).0 (accepted-read o t h)

-- the table that is found in an accepted object is that of its meaning
pub table-told : (o : List ℕ) (t : Items) → judge o ≡ accepted t → entries (table_body o) ≡ table_of t
unfolding table_body table_of share is_items
table-told o t h =
    let l = (accepted-size o t h).0 in
    let a = whole o t h in
    let k : known 0 (get_or o 0 0) ≡ some HoldsItems = top-holds o t h in
    let m = opened 0 1 0 o t l a in
    let e : t ≡ item (get_or o 0 0) (0 + header_size o) (first_body o) m.u m.v = m.tree ∙ rw k in
    rw (le-leb (header_size o + body_size o) (length o) (fits_in 0 1 0 o t l a))
    (told-within (length (first_body o)) (first_body o) (get_or o 0 0) 2 (0 + header_size o) m.u (omega arith) (m.inside (rw k)) ∙ sym (ap table_of e))

-- ---- table_in

-- the table isn't among the items before a place
pub record Looks (part : List ℕ) (at : ℕ) : Type 0 where
  pub inside : at ≤ length part
  pub same : first_table part ≡ first_table (drop at part)

pub begin : (part : List ℕ) → Looks part 0
begin part = record { inside = omega arith; same = refl }

module _ (part : List ℕ) (at : ℕ) (inv : Looks part at) where
  pub no_table : length part ≤ at → [] ≡ first_table part
  unfolding first_table table_within
  no_table h = sym (inv.same ∙ ap first_table (drop_of_length-le part h))

  module _ (h : at < length part) (r : Optional Lies) (re : r ≡ lies_at part at) where
    pub no_item : r ≡ None → [] ≡ first_table part
    no_item q = sym (inv.same ∙ table_none (drop at part) (not-whole part at r re q))

    module _ (from to : ℕ) (q : r ≡ Some (from_to from to)) where
      pub here : Lying part at from to
      here = lying part at r re from to q

      fits : is_whole (drop at part) ≡ true
      fits = le-leb _ _ here.inside

      pub is-table : get_or part at 0 ≡ 4 → take (to - from) (drop from part) ≡ first_table part
      is-table e = sym (inv.same ∙ table_here (drop at part) fits (tag-is here inv.inside ∙ e) ∙ body_is here inv.inside)

      pub again : (get_or part at 0 ≡ 4 → ⊥) → Looks part to
      again e = record {
        inside = to_inside here inv.inside;
        same = inv.same ∙ table-later (drop at part) fits (λ z. e (sym (tag-is here inv.inside) ∙ z)) ∙ ap first_table (later-is here inv.inside);
      }

-- ---- table_of

module _ (o : List ℕ) (r : Optional Lies) (re : r ≡ lies_at o 0) where
  pub no_top : r ≡ None → [] ≡ table_body o
  unfolding table_body
  no_top q = rw (not-whole o 0 r re q)

  module _ (from to : ℕ) (q : r ≡ Some (from_to from to)) where
    pub top-here : Lying o 0 from to
    top-here = lying o 0 r re from to q

    pub top-table : (table : List ℕ) → table ≡ first_table (take (to - from) (drop from o)) → table ≡ table_body o
    unfolding table_body
    top-table table f = f ∙ ap first_table (sym (body_is top-here (omega arith))) ∙ rw (le-leb (header_size o + body_size o) (length o) top-here.inside)
