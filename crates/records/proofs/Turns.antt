-- The loop over the records of one element: what a record tells of the walk, the invariant, and one law for each way a turn may go.
use Prim.Native.Nat.{ℕ, suc, ◌+◌, ◌-◌, ◌≤◌, ◌<◌}
use mathlib.Core.Path.{◌≡◌, refl, sym, ap, subst, ◌∙◌}
use mathlib.Core.List.{List, [], ◌∷◌}
use mathlib.Core.Option.{Option as Maybe, none, some}
use mathlib.Core.Bool.{Bool, true, false, cond, not, ◌&&◌, ◌||◌, and-false}
use lib.Dec.{eqb, leb}
use lib.ListN.{length}
use native.Mathlib.Numerals.{add-one}
use native.Mathlib.Omega.{arith}
use borrow.Author.Tests.{leb-true}
use Rattle.std.specs.Prelude.{Option, None, Some, option_map}
use Rattle.std.proofs.lemmas.Option.{none-some, same_Some}
use Rattle.octets.proofs.Tests.{and_left}
use Rattle.values.specs.declared.Kind.{Kind}
use Rattle.values.specs.Table.{known}
use Rattle.values.proofs.Known.{items-tag}
use Rattle.format.specs.declared.Record.{Record}
use Rattle.format.specs.Tree.{kind_of}
use Rattle.format.specs.Judge.{is_known, is_items, is_tokens, is_text, is_value, shown}
use Rattle.format.specs.Meaning.{opens}
use Rattle.format.specs.Writer.{Spot, below, past, placed, body_keeps, keeps, body_in, good, here, onward}
use Rattle.format.specs.Calls.{Lists, row}
use Rattle.format.proofs.Means.{items-known, items-opens}
use Rattle.format.proofs.Kept.{good-parts, keeps-parts}
use Rattle.format.proofs.Fine.{placed-parts}
use Rattle.format.proofs.Walk.{at-stop, at-bad, at-single, at_nested, walks-between, here_end, here-not, here-is}
use Rattle.text.specs.Text.{text}
use Rattle.text.specs.Tokens.{shown_length}
use Rattle.tags.specs.Rules.{Seen}
use Rattle.tags.proofs.Masks.{marked, none-marked}
use Rattle.records.specs.Check.{held_as, placed_by, state_after, item_of, tied, item_as, first_in, parent_at, walked, told}
use Rattle.records.specs.declared.check.Parent.{Parent}
use Rattle.records.specs.declared.check.State.{State}
use Rattle.records.specs.declared.check.Held.TheVariants.{Octets, Inner}
use Rattle.records.specs.declared.check.Item.{Item}
use Rattle.records.specs.declared.check.Item.TheVariants.{Past, Single, Nested}

kept-known : (p tag : ℕ) (body : List ℕ) (k : Maybe Kind) → body_keeps p tag body k ≡ true → is_known k ≡ true
unfolding body_keeps
kept-known p tag body k h =
    and_left (is_known k) (not (is_tokens k))
    (and_left (is_known k && not (is_tokens k)) (is_value k body)
    (and_left (is_known k && not (is_tokens k) && is_value k body) (not (is_text k) || text false body && shown p tag (shown_length [] body)) h))

-- where the loop stands
abbrev pub spot_of : Parent → State → List ℕ → Spot
spot_of p s seen = record { parent = p.tag; depth = p.depth; stage = s.stage; seen = seen }

-- what a record tells, where the mask has the tags before it
module _ (p : Parent) (s : State) (lent : List ℕ) (r : Record) (seen : List ℕ) (m : Seen p.tag s.mask seen) where
  firm : Bool
  firm = eqb r.kind (kind_of r.tag) && eqb r.parent p.number && leb (r.start + r.size) (length lent)

  kept : Bool
  kept = body_keeps p.tag r.tag (body_in lent r) (known p.tag r.tag)

  good-same : good (spot_of p s seen) p.number lent r ≡ firm && (placed_by p s r.tag && kept)
  unfolding good keeps placed placed_by firm kept Seen
  good-same = ap (λ x. firm && x) (go kept refl)
    where
      go : (b : Bool) → kept ≡ b → keeps (spot_of p s seen) r.tag (body_in lent r) ≡ placed_by p s r.tag && b
      go true e = rw (e, m r.tag (kept-known p.tag r.tag (body_in lent r) (known p.tag r.tag) e))
      go false e = rw (e, and-false (placed (spot_of p s seen) r.tag), and-false (placed_by p s r.tag))

  Says : Option Item → Type 0
  Says (Some Past) = eqb r.depth p.depth ≡ false
  Says None = (eqb r.depth p.depth ≡ true) × (good (spot_of p s seen) p.number lent r ≡ false)
  Says (Some (Single t)) = (eqb r.depth p.depth ≡ true) × (good (spot_of p s seen) p.number lent r ≡ true) × (opens r.tag ≡ false) × (t ≡ state_after p s r.tag)
  Says (Some (Nested tag t)) =
      (eqb r.depth p.depth ≡ true) × (good (spot_of p s seen) p.number lent r ≡ true) × (opens r.tag ≡ true) × (tag ≡ r.tag) × (t ≡ state_after p s r.tag)

  says : Says (item_as p s lent r)
  unfolding item_as tied held_as item_of Says firm kept
  says = go (eqb r.depth p.depth) firm (placed_by p s r.tag) kept (is_items (known p.tag r.tag)) refl good-same (items-opens p.tag r.tag)
    where
      go : (a f q b c : Bool) → eqb r.depth p.depth ≡ a → good (spot_of p s seen) p.number lent r ≡ f && (q && b) → c ≡ opens r.tag
          → Says (cond a (cond (f && q) (option_map (λ h. item_of h r.tag (state_after p s r.tag))
          (cond b (Some (cond c Inner Octets)) None)) None) (Some Past))
      go false f q b c e g o = e
      go true false q b c e g o = (e, g)
      go true true false b c e g o = (e, g)
      go true true true false c e g o = (e, g)
      go true true true true true e g o = (e, g, sym o, refl, refl)
      go true true true true false e g o = (e, g, sym o, refl)

-- an element that holds items stands at depth 16 or above: rule 7 bounds how deep the calls nest
shallow : (s : Spot) (p : ℕ) (lent : List ℕ) (r : Record) → good s p lent r ≡ true → opens r.tag ≡ true → s.depth ≤ 16
unfolding opens
shallow s p lent r g o =
    let place = (keeps-parts s r.tag (body_in lent r) (good-parts s p lent r g).rules).place in
    let e = items-tag r.tag (items-known (known 0 r.tag) o) in
    leb-true s.depth 16 (rw (e.not_attribute, e.not_cdata) at (placed-parts s r.tag place).deep)

-- what an answer tells of the walk
pub told-next : (o : Maybe ℕ) (j : ℕ) → Some j ≡ told o → o ≡ some j
unfolding told
told-next none j e = absurd (none-some j (sym e))
told-next (some i) j e = ap some (sym (same_Some j i e))

pub told-ill : (o : Maybe ℕ) → None ≡ told o → o ≡ none
unfolding told
told-ill none e = refl
told-ill (some i) e = absurd (none-some i e)

-- the loop's invariant: the walk from the first record of the element goes on from here, with the tags between as bits
pub record Holds (l : Lists) (n : ℕ) (lent : List ℕ) (at : ℕ) (p : Parent) (i : ℕ) (s : State) : Type 0 where
  pub low : at ≤ i
  pub high : i ≤ n
  pub seen : List ℕ
  pub sees : Seen p.tag s.mask seen
  pub same : walked l n lent (first_in p) p.number at ≡ walked l n lent (spot_of p s seen) p.number i

pub at_first : (l : Lists) (n : ℕ) (lent : List ℕ) (at : ℕ) (p : Parent) → at ≤ n → Holds l n lent at p at (record { stage = 0; mask = 0 })
at_first l n lent at p h = record { low = omega arith; high = h; seen = []; sees = none-marked p.tag; same = refl }

-- the walk over what is inside record i, and the walk that goes on behind that
abbrev inner : Lists → ℕ → List ℕ → Parent → (tag i : ℕ) → Maybe ℕ
inner l n lent p tag i = walked l n lent (first_in (parent_at p tag i)) i (i + 1)

abbrev beside : Lists → ℕ → List ℕ → Parent → State → List ℕ → ℕ → Maybe ℕ
beside l n lent p u seen j = walked l n lent (spot_of p u seen) p.number j

module _ (l : Lists) (n : ℕ) (lent : List ℕ) (at : ℕ) (p : Parent) (i : ℕ) (s : State) (inv : Holds l n lent at p i s) where
  spot : Spot
  spot = spot_of p s inv.seen

  stops : here (row l) n p.depth i ≡ false → Some i ≡ told (walked l n lent (first_in p) p.number at)
  unfolding told walked spot
  stops e = sym (ap told (inv.same ∙ at-stop (row l) n lent spot p.number i e))

  pub turns-end : n ≤ i → Some i ≡ told (walked l n lent (first_in p) p.number at)
  turns-end h = stops (here_end (row l) n p.depth i h)

  module _ (lt : i < n) (r : Record) (re : r ≡ row l i) (x : Option Item) (xe : x ≡ item_as p s lent r) where
    told-so : (y : Option Item) → x ≡ y → Says p s lent (row l i) inv.seen inv.sees y
    told-so y f = subst (Says p s lent (row l i) inv.seen inv.sees) (ap (item_as p s lent) (sym re) ∙ (sym xe ∙ f)) (says p s lent (row l i) inv.seen inv.sees)

    pub turn-past : x ≡ Some Past → Some i ≡ told (walked l n lent (first_in p) p.number at)
    unfolding Says
    turn-past f = stops (here-not (row l) n p.depth i (told-so (Some Past) f))

    pub turn-bad : x ≡ None → None ≡ told (walked l n lent (first_in p) p.number at)
    unfolding Says told walked spot
    turn-bad f =
        let t = told-so None f in
        sym (ap told (inv.same ∙ at-bad (row l) n lent spot p.number i (here-is (row l) n p.depth i lt t.0) t.1))

    pub turn-single : (u : State) → x ≡ Some (Single u) → Holds l n lent at p (i + 1) u
    unfolding Says walked spot past state_after
    turn-single u f =
        let t = told-so (Some (Single u)) f in
        let k = inv.low in
        let tag = (row l i).tag in
        let e : walked l n lent (first_in p) p.number at ≡ walked l n lent (spot_of p (state_after p s tag) (tag ∷ inv.seen)) p.number (suc i) =
        inv.same ∙ at-single (row l) n lent spot p.number i (here-is (row l) n p.depth i lt t.0) t.1 t.2 in
        record {
          low = omega arith;
          high = omega arith;
          seen = tag ∷ inv.seen;
          sees = rw t.3 (marked p.tag s.mask tag inv.seen inv.sees);
          same = rw (t.3, add-one i) e;
        }

    pub nested-shallow : (tag : ℕ) (u : State) → x ≡ Some (Nested tag u) → p.depth ≤ 16
    unfolding Says
    nested-shallow tag u f = let t = told-so (Some (Nested tag u)) f in shallow (spot_of p s inv.seen) p.number lent (row l i) t.1 t.2

    module _ (tag : ℕ) (u : State) (f : x ≡ Some (Nested tag u)) (o : Parent) (oe : o ≡ parent_at p tag i)
        (v : Option ℕ) (w : v ≡ told (walked l n lent (first_in o) o.number (i + 1))) where
      ve : v ≡ told (inner l n lent p tag i)
      ve = w ∙ ap (λ y. told (walked l n lent (first_in y) y.number (i + 1))) oe

      nested : walked l n lent (first_in p) p.number at ≡ onward (inner l n lent p tag i) (beside l n lent p u (tag ∷ inv.seen))
      unfolding Says walked spot past state_after below
      nested =
          let t = told-so (Some (Nested tag u)) f in
          inv.same ∙ at_nested (row l) n lent spot p.number i (here-is (row l) n p.depth i lt t.0) t.1 t.2 ∙ rw (t.3, t.4, add-one i, add-one p.depth) refl

      pub turn-ill : v ≡ None → None ≡ told (walked l n lent (first_in p) p.number at)
      unfolding told onward
      turn-ill q = sym (ap told (nested ∙ ap (λ o. onward o (beside l n lent p u (tag ∷ inv.seen))) (told-ill (inner l n lent p tag i) (sym q ∙ ve))))

      module _ (j : ℕ) (q : v ≡ Some j) where
        inner-some : inner l n lent p tag i ≡ some j
        inner-some = told-next (inner l n lent p tag i) j (sym q ∙ ve)

        between : (i + 1 ≤ j) × (j ≤ n)
        unfolding walked
        between = walks-between (row l) n lent (first_in (parent_at p tag i)) i (i + 1) j inner-some (omega arith)

        pub nested-less : n - j < n - i
        nested-less = let b = between in omega arith

        pub turn-nested : Holds l n lent at p j u
        unfolding Says onward state_after
        turn-nested =
            let t = told-so (Some (Nested tag u)) f in
            let b = between in
            let k = inv.low in
            record {
              low = omega arith;
              high = b.1;
              seen = tag ∷ inv.seen;
              sees = rw (t.3, t.4) (marked p.tag s.mask (row l i).tag inv.seen inv.sees);
              same = nested ∙ ap (λ o. onward o (beside l n lent p u (tag ∷ inv.seen))) inner-some;
            }
