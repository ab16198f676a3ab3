-- An item's share of a tree: its records and their number, apart from those of the items after it.
use mathlib.Core.Path.{◌≡◌, refl, sym, ap, ap₂, ◌∙◌}
use mathlib.Core.Bool.{Bool, true, false, cond}
use mathlib.Core.Option.{Option}
use mathlib.Core.List.{List, [], ◌∷◌, ◌++◌, append-nil}
use Prim.Native.Nat.{ℕ, ◌+◌}
use native.Mathlib.Nat.{add-zero}
use native.Mathlib.Omega.{arith}
use lib.Dec.{eqb}
use Rattle.values.specs.declared.Kind.{Kind}
use Rattle.values.specs.Table.{known}
use Rattle.format.specs.declared.Record.{Record}
use Rattle.format.specs.Tree.{Items, count, record_of, records}
use Rattle.format.specs.Tree.Items.{end, item}
use Rattle.format.specs.Judge.{is_known, is_items}
use Rattle.format.specs.Calls.{Lists, lay}
use Rattle.format.proofs.Spans.{records-count}
use Rattle.format.proofs.Lays.{lay-append}
use Rattle.judge.proofs.AllWays.{tokens-four}
use Rattle.tags.specs.declared.Listed.TheVariants.{Nothing, Inside, Value}
use Rattle.tags.specs.Listed.{listed_as}
use Rattle.tags.proofs.Listing.{is-nothing, is-inside, is-value}
use Rattle.reader.specs.Filling.{share}

records-none : (depth parent n : ℕ) (v : Items) → records depth parent n v ≡ records depth parent n end ++ records depth parent (n + count end) v
unfolding records count
records-none depth parent n v = ap (λ (k : ℕ). records depth parent k v) (sym (add-zero n))

count_none : (v : Items) → count v ≡ count end + count v
unfolding count
count_none v = omega arith

module _ (tag start : ℕ) (body : List ℕ) where
  -- an item, and then what comes after it
  pub records-item : (depth parent n : ℕ) (u v : Items)
      → records depth parent n (item tag start body u v) ≡ records depth parent n (item tag start body u end) ++ records depth parent (n + count (item tag start body u end)) v
  unfolding records count
  records-item depth parent n u v = go (eqb tag 4)
    where
      go : (b : Bool)
          → cond b [] (record_of depth parent tag start body ∷ records (depth + 1) n (n + 1) u) ++ records depth parent (cond b n (n + 1 + count u)) v
          ≡ (cond b [] (record_of depth parent tag start body ∷ records (depth + 1) n (n + 1) u) ++ []) ++ records depth parent (n + (cond b 0 (1 + count u) + 0)) v
      go true = let e : n ≡ n + (0 + 0) = omega arith in ap (λ (k : ℕ). records depth parent k v) e
      go false =
          let e : n + 1 + count u ≡ n + (1 + count u + 0) = omega arith in
          ap₂ (λ (rs : List Record) (k : ℕ). (record_of depth parent tag start body ∷ rs) ++ records depth parent k v) (sym (append-nil (records (depth + 1) n (n + 1) u))) e

  pub count-item : (u v : Items) → count (item tag start body u v) ≡ count (item tag start body u end) + count v
  unfolding count
  count-item u v = omega arith

  records-share : (depth parent n : ℕ) (k : Option Kind) (u v : Items)
      → records depth parent n (share k tag start body u v) ≡ records depth parent n (share k tag start body u end) ++ records depth parent (n + count (share k tag start body u end)) v
  unfolding share
  records-share depth parent n k u v = go (is_items k) (is_known k)
    where
      go : (a b : Bool)
          → records depth parent n (cond a (item tag start body u v) (cond b (item tag start body end v) v))
          ≡ records depth parent n (cond a (item tag start body u end) (cond b (item tag start body end end) end))
          ++ records depth parent (n + count (cond a (item tag start body u end) (cond b (item tag start body end end) end))) v
      go true b = records-item depth parent n u v
      go false true = records-item depth parent n end v
      go false false = records-none depth parent n v

  pub count-share : (k : Option Kind) (u v : Items) → count (share k tag start body u v) ≡ count (share k tag start body u end) + count v
  unfolding share
  count-share k u v = go (is_items k) (is_known k)
    where
      go : (a b : Bool)
          → count (cond a (item tag start body u v) (cond b (item tag start body end v) v)) ≡ count (cond a (item tag start body u end) (cond b (item tag start body end end) end)) + count v
      go true b = count-item u v
      go false true = count-item end v
      go false false = count_none v

  -- laid one after the other
  pub lay-share : (depth parent n : ℕ) (k : Option Kind) (u v : Items) (l : Lists)
      → lay n (records depth parent n (share k tag start body u v)) l
      ≡ lay (n + count (share k tag start body u end)) (records depth parent (n + count (share k tag start body u end)) v) (lay n (records depth parent n (share k tag start body u end)) l)
  lay-share depth parent n k u v l =
      let own = records depth parent n (share k tag start body u end) in
      let more = records depth parent (n + count (share k tag start body u end)) v in
      ap (λ (rs : List Record). lay n rs l) (records-share depth parent n k u v) ∙ lay-append n own more l
      ∙ ap (λ (m : ℕ). lay (n + m) more (lay n own l)) (records-count (share k tag start body u end) depth parent n)

-- ---- an item's share alone, by what is written of it

-- no record
pub record Silent (t : Items) : Type 0 where
  pub many : count t ≡ 0
  pub laid : (depth parent n : ℕ) → records depth parent n t ≡ []

-- a record, and those of the items inside
pub record Written (t : Items) (tag start : ℕ) (body : List ℕ) (inside : Items) : Type 0 where
  pub many : count t ≡ 1 + count inside
  pub laid : (depth parent n : ℕ) → records depth parent n t ≡ record_of depth parent tag start body ∷ records (depth + 1) n (n + 1) inside

silent-end : Silent end
unfolding count records
silent-end = record { many = refl; laid = λ depth parent n. refl }

module _ (tag start : ℕ) (body : List ℕ) (inside : Items) where
  silent-table : eqb tag 4 ≡ true → Silent (item tag start body inside end)
  unfolding count records
  silent-table e = record { many = rw e (omega arith); laid = λ depth parent n. rw e }

  pub written-item : eqb tag 4 ≡ false → Written (item tag start body inside end) tag start body inside
  unfolding count records
  written-item e = record { many = rw e (omega arith); laid = λ depth parent n. rw (e, append-nil) }

module _ (p tag start : ℕ) (body : List ℕ) (u : Items) where
  abbrev own : Items
  own = share (known p tag) tag start body u end

  pub silent : Nothing ≡ listed_as (known p tag) → Silent own
  unfolding share
  silent h = go (is_known (known p tag)) refl
    where
      shut : is_items (known p tag) ≡ false
      shut = (is-nothing (known p tag) h).0

      go : (b : Bool) → is_known (known p tag) ≡ b → Silent own
      go true q = rw (shut, q) (silent-table tag start body end (sym (tokens-four p tag) ∙ sym (is-nothing (known p tag) h).1 ∙ q))
      go false q = rw (shut, q) silent-end

  pub written-alone : (k : Kind) → Value k ≡ listed_as (known p tag) → Written own tag start body end
  unfolding share is_known
  written-alone k h =
      let w = is-value (known p tag) k h in
      let y : is_known (known p tag) ≡ true = ap is_known w.is in
      rw (w.shut, y) (written-item tag start body end (sym (tokens-four p tag) ∙ w.no_table))

  pub holds-items : Inside ≡ listed_as (known p tag) → is_items (known p tag) ≡ true
  holds-items h = (is-inside (known p tag) h).0

  pub written-items : Inside ≡ listed_as (known p tag) → Written own tag start body u
  unfolding share
  written-items h = let w = is-inside (known p tag) h in rw w.0 (written-item tag start body u (sym (tokens-four p tag) ∙ w.1))
