-- Memory that holds a tree begins with what the tree takes of the store, and its lists have a place for each record.
use Rattle.std.specs.Prelude.{Some}
use mathlib.Core.Path.{◌≡◌, refl, sym, ap, ap₂, ◌∙◌, subst}
use mathlib.Core.Bool.{Bool, true, false, cond}
use mathlib.Core.Option.{Option, none, some, none-ne-some}
use mathlib.Core.List.{List, [], ◌++◌}
use Prim.Native.Nat.{ℕ, ◌+◌, ◌≤◌}
use native.Mathlib.Omega.{arith}
use lib.Dec.{leb}
use lib.ListN.{length, take, drop, length-append}
use borrow.Author.Tests.{leb-true}
use Rattle.octets.proofs.Lists.{part-split}
use Rattle.values.specs.Table.{known}
use Rattle.format.specs.Tree.{Items, count}
use Rattle.format.specs.Tree.Items.{end, item}
use Rattle.format.specs.Meaning.{opens}
use Rattle.format.specs.Writer.{at_top, rebuilt}
use Rattle.format.specs.Loaded.{stored, store_in, loaded_in}
use Rattle.format.specs.Calls.{places, row, tree_given}
use Rattle.format.specs.State.{Memory, packed_store, tree_held}
use Rattle.format.proofs.Spans.{Located, part-span}
use Rattle.format.proofs.Loading.{loaded-held, loaded-single}
use Rattle.format.proofs.Rebuilt.{whole-count}
use Rattle.state.specs.Order.{held_as}
use Rattle.state.proofs.HeldTree.{Held, held as held_whole}
use Rattle.state.proofs.Packed.{store-held, store-single}
use Rattle.edits.proofs.Swaps.{Plain, ruled-plain}

-- a part of a list is just these octets
abbrev Spans : (lent : List ℕ) (at : ℕ) → List ℕ → Type 0
Spans lent at o = (at + length o ≤ length lent) × (take (length o) (drop at lent) ≡ o)

-- the lent octets hold what a packed tree takes of them
store-span : (lent : List ℕ) (t : Items) → Plain t → (p at : ℕ) → at ≤ length lent → Located lent (loaded_in [] p at t) → Spans lent at (store_in [] p t)
unfolding loaded_in store_in
store-span lent end q p at h l = (omega arith, refl)
store-span lent (item tag from body x y) q p at h l =
    go (λ k b c. store-span lent x q.2 k at b c) (λ k b c. store-span lent y q.3 p k b c) (opens tag) refl
  where
    own : List ℕ
    own = stored [] (known p tag) body

    two : (a b : List ℕ) → Spans lent at a → Spans lent (at + length a) b → Spans lent at (a ++ b)
    two a b e f =
        let n = length-append a b in
        (omega (arith, f.0), ap (λ c. take c (drop at lent)) n ∙ (part-split lent at (length a) (length b) ∙ ap₂ ◌++◌ e.1 f.1))

    go : ((k : ℕ) → at ≤ length lent → Located lent (loaded_in [] k at x) → Spans lent at (store_in [] k x))
        → ((k : ℕ) → k ≤ length lent → Located lent (loaded_in [] p k y) → Spans lent k (store_in [] p y))
        → (b : Bool) → opens tag ≡ b → Spans lent at (store_in [] p (item tag from body x y))
    go fx fy true o =
        let l' = subst (Located lent) (loaded-held [] p at tag from body x y q.0 o) l in
        let a = store_in [] tag x in
        let gx = fx tag h l'.1 in
        rw (store-held [] p tag from body x y q.0 o) (two a (store_in [] p y) gx (fy (at + length a) gx.0 l'.2))
    go fx fy false o =
        let l' = subst (Located lent) (loaded-single [] p at tag from body x y q.0 o) l in
        let gx = part-span lent at own l'.0 in
        rw (store-single [] p tag from body x y q.0 o) (two own (store_in [] p y) gx (fy (at + length own) gx.0 l'.2))

pub held-store : (n : ℕ) (m : Memory) (t : Items) → Held n m t → (length (packed_store t) ≤ length m.store) × (take (length (packed_store t)) m.store ≡ packed_store t)
held-store n m t held =
    let located = subst (Located m.store) (sym held.packs) held.whole.located in
    let s = store-span m.store t (ruled-plain t at_top held.whole.rules) 0 0 (omega arith) located in
    (omega (arith, s.0), s.1)

pub held-places : (n : ℕ) (m : Memory) (t : Items) → Held n m t → n ≤ places m.lists
unfolding tree_given
held-places n m t held = go (leb n (places m.lists)) refl held.given
  where
    go : (b : Bool) → leb n (places m.lists) ≡ b → cond b (rebuilt (row m.lists) n m.store) none ≡ some t → n ≤ places m.lists
    go true e g = leb-true n (places m.lists) e
    go false e g = absurd (none-ne-some t g)

pub held-count : (n : ℕ) (m : Memory) (t : Items) → tree_held n m ≡ some t → count t ≡ n
held-count n m t h = sym (whole-count (row m.lists) n m.store t (held_whole n m t h).whole)

-- the tree that the check of memory speaks of
pub held-as : (o : Option Items) (used : ℕ) → held_as o ≡ Some used → (t : Items) × (o ≡ some t) × (length (packed_store t) ≡ used)
unfolding held_as
held-as none used h = let z : ◌≡◌ {A = ℕ} 0 1 = cc in absurd (omega arith)
held-as (some t) used h = (t, refl, cc)
