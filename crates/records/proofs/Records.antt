-- A record among the items of an element, one law for each way through the code; and a record's place in the lists.
use Prim.Native.Nat.{ℕ, ◌+◌, ◌-◌, ◌≤◌, ◌<◌}
use mathlib.Core.Path.{◌≡◌, sym, ap, ◌∙◌}
use mathlib.Core.List.{List}
use mathlib.Core.Bool.{Bool, true, false}
use lib.Dec.{eqb, leb}
use lib.ListN.{length, take, drop}
use Rattle.std.specs.Prelude.{Option, None, Some, option_map}
use native.Mathlib.Nat.{add-sub_cancel_left}
use native.Mathlib.Omega.{arith}
use borrow.Author.Tests.{lt-leb, le-leb, eq-eqb, ne_eqb}
use Rattle.values.specs.Table.{known}
use Rattle.format.specs.declared.Record.{Record}
use Rattle.format.specs.Tree.{kind_of}
use Rattle.format.specs.Writer.{body_in}
use Rattle.format.specs.Calls.{Lists, places}
use Rattle.format.specs.Lent.{Within}
use Rattle.format.proofs.Lays.{within-places}
use Rattle.records.specs.Check.{held_as, placed_by, state_after, item_of, tied, item_as}
use Rattle.records.specs.declared.check.Parent.{Parent}
use Rattle.records.specs.declared.check.State.{State}
use Rattle.records.specs.declared.check.Held.{Held}
use Rattle.records.specs.declared.check.Item.{Item}
use Rattle.records.specs.declared.check.Item.TheVariants.{Past}

module _ (p : Parent) (s : State) (lent : List ℕ) (r : Record) where
  pub record-past : (r.depth ≡ p.depth → ⊥) → Some Past ≡ item_as p s lent r
  unfolding item_as
  record-past h = rw (ne_eqb r.depth p.depth h)

  module _ (dd : r.depth ≡ p.depth) (k : ℕ) (ke : k ≡ kind_of r.tag) where
    at-depth : eqb r.depth p.depth ≡ true
    at-depth = eq-eqb r.depth p.depth dd

    pub bad_kind : (r.kind ≡ k → ⊥) → None ≡ item_as p s lent r
    unfolding item_as tied
    bad_kind h = rw (at-depth, ne_eqb r.kind (kind_of r.tag) (λ q. h (q ∙ sym ke)))

    module _ (kk : r.kind ≡ k) where
      same_kind : eqb r.kind (kind_of r.tag) ≡ true
      same_kind = eq-eqb r.kind (kind_of r.tag) (kk ∙ ke)

      pub bad-parent : (r.parent ≡ p.number → ⊥) → None ≡ item_as p s lent r
      unfolding item_as tied
      bad-parent h = rw (at-depth, same_kind, ne_eqb r.parent p.number h)

      module _ (nn : r.parent ≡ p.number) where
        same-parent : eqb r.parent p.number ≡ true
        same-parent = eq-eqb r.parent p.number nn

        pub bad-span : length lent < r.start + r.size → None ≡ item_as p s lent r
        unfolding item_as tied
        bad-span h = rw (at-depth, same_kind, same-parent, lt-leb (r.start + r.size) (length lent) h)

        module _ (fit : r.start + r.size ≤ length lent) (b : Bool) (be : b ≡ placed_by p s r.tag) where
          inside : leb (r.start + r.size) (length lent) ≡ true
          inside = le-leb (r.start + r.size) (length lent) fit

          pub bad-place : b ≡ false → None ≡ item_as p s lent r
          unfolding item_as tied
          bad-place h = rw (at-depth, same_kind, same-parent, inside, sym be ∙ h)

          module _ (bb : b ≡ true) (h : Option Held)
              (he : h ≡ held_as p.tag r.tag (take (r.start + r.size - r.start) (drop r.start lent)) (known p.tag r.tag)) where
            as-held : option_map (λ y. item_of y r.tag (state_after p s r.tag)) h ≡ item_as p s lent r
            unfolding item_as tied body_in
            as-held =
                rw (at-depth, same_kind, same-parent, inside, sym be ∙ bb)
                (ap (option_map (λ y. item_of y r.tag (state_after p s r.tag))) (rw add-sub_cancel_left at he))

            pub bad-body : h ≡ None → None ≡ item_as p s lent r
            bad-body e = rw e at as-held

            pub good-record : (w : Held) → h ≡ Some w → (t : State) → t ≡ state_after p s r.tag → (x : Item) → x ≡ item_of w r.tag t
                → Some x ≡ item_as p s lent r
            good-record w e t te x xe = ap Some (xe ∙ ap (item_of w r.tag) te) ∙ (rw e at as-held)

pub ruleset record-ways = (record-past, bad_kind, bad-parent, bad-span, bad-place, bad-body, good-record)

-- one of so many records, for which there are places
pub listed-within : (i n : ℕ) (l : Lists) → i < n → n ≤ places l → Within i l
listed-within i n l h k = within-places i l (omega arith)
