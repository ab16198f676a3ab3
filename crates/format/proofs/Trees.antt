-- The tree that the depths of records say, without fuel: by its first record.
use mathlib.Core.Path.{◌≡◌, refl, sym, ap, ◌∙◌}
use mathlib.Core.Bool.{Bool, true, false}
use mathlib.Core.List.{List}
use Prim.Native.Nat.{ℕ, zero, suc, ◌-◌, ◌≤◌, ◌<◌}
use native.Mathlib.Omega.{arith}
use native.Mathlib.Nat.{not-suc-le-zero}
use Rattle.format.specs.declared.Record.{Record}
use Rattle.format.specs.Tree.{Items}
use Rattle.format.specs.Tree.Items.{end, item}
use Rattle.format.specs.Meaning.{opens}
use Rattle.format.specs.Writer.{body_in, here, tree}
use Rattle.format.proofs.Walk.{here-less}

module _ (row : ℕ → Record) (n : ℕ) (lent : List ℕ) where
  -- the item of record i over what is inside it and what comes after it
  abbrev pub over : ℕ → Items × ℕ → Items × ℕ → Items × ℕ
  over i x y = (item (row i).tag (row i).start (body_in lent (row i)) x.0 y.0, y.1)

  -- one turn, by its tests
  turn-stop : (k d i : ℕ) → here row n d i ≡ false → tree k row n lent d i ≡ (end, i)
  unfolding tree
  turn-stop zero d i e = refl
  turn-stop (suc k) d i e = rw e

  turn-single : (k d i : ℕ) → here row n d i ≡ true → opens (row i).tag ≡ false → tree (suc k) row n lent d i ≡ over i (end, suc i) (tree k row n lent d (suc i))
  unfolding tree
  turn-single k d i e o = rw (e, o)

  turn-nested : (k d i : ℕ) → here row n d i ≡ true → opens (row i).tag ≡ true
      → tree (suc k) row n lent d i ≡ over i (tree k row n lent (suc d) (suc i)) (tree k row n lent d (tree k row n lent (suc d) (suc i)).1)
  unfolding tree
  turn-nested k d i e o = rw (e, o)

  -- a tree never ends before it begins, nor past the last record
  abbrev Ahead : ℕ → Type 0
  Ahead k = (d i : ℕ) → (i ≤ (tree k row n lent d i).1) × (i ≤ n → (tree k row n lent d i).1 ≤ n)

  ahead_step : (k : ℕ) → Ahead k → Ahead (suc k)
  ahead_step k ih d i = go (here row n d i) (opens (row i).tag) refl refl
    where
      go : (a b : Bool) → here row n d i ≡ a → opens (row i).tag ≡ b → (i ≤ (tree (suc k) row n lent d i).1) × (i ≤ n → (tree (suc k) row n lent d i).1 ≤ n)
      go false b e o = rw (turn-stop (suc k) d i e) (omega arith, λ q. q)
      go true false e o = let x = ih d (suc i) in let l = here-less row n d i e in rw (turn-single k d i e o) (omega arith, λ q. x.1 l)
      go true true e o =
          let x = ih (suc d) (suc i) in
          let y = ih d (tree k row n lent (suc d) (suc i)).1 in
          let l = here-less row n d i e in
          rw (turn-nested k d i e o) (omega arith, λ q. y.1 (x.1 l))

  ahead : (k : ℕ) → Ahead k
  unfolding tree
  ahead zero d i = (omega arith, λ q. q)
  ahead (suc k) d i = ahead_step k (ahead k) d i

  -- any fuel above the number of records that are left gives one tree
  abbrev Same : ℕ → Type 0
  Same k = (l d i : ℕ) → n - i < k → n - i < l → tree k row n lent d i ≡ tree l row n lent d i

  same_step : (k : ℕ) → Same k → Same (suc k)
  same_step k ih zero d i p q = absurd (not-suc-le-zero q)
  same_step k ih (suc l) d i p q = go (here row n d i) (opens (row i).tag) refl refl
    where
      go : (a b : Bool) → here row n d i ≡ a → opens (row i).tag ≡ b → tree (suc k) row n lent d i ≡ tree (suc l) row n lent d i
      go false b e o = turn-stop (suc k) d i e ∙ sym (turn-stop (suc l) d i e)
      go true false e o =
          let less = here-less row n d i e in
          turn-single k d i e o ∙ (ap (over i (end, suc i)) (ih l d (suc i) (omega arith) (omega arith)) ∙ sym (turn-single l d i e o))
      go true true e o =
          let less = here-less row n d i e in
          let x : tree k row n lent (suc d) (suc i) ≡ tree l row n lent (suc d) (suc i) = ih l (suc d) (suc i) (omega arith) (omega arith) in
          let m = (ahead k (suc d) (suc i)).0 in
          turn-nested k d i e o
          ∙ (ap (over i (tree k row n lent (suc d) (suc i))) (ih l d (tree k row n lent (suc d) (suc i)).1 (omega arith) (omega arith))
          ∙ (ap (λ z. over i z (tree l row n lent d z.1)) x ∙ sym (turn-nested l d i e o)))

  pub same-tree : (k : ℕ) → Same k
  same-tree zero l d i p q = absurd (not-suc-le-zero p)
  same-tree (suc k) l d i p q = same_step k (same-tree k) l d i p q

  -- the tree without fuel: no record is here, the first holds no items, it holds items
  abbrev pub trees : ℕ → ℕ → Items × ℕ
  trees d i = tree (suc (n - i)) row n lent d i

  pub tree-stop : (d i : ℕ) → here row n d i ≡ false → trees d i ≡ (end, i)
  tree-stop d i e = turn-stop (suc (n - i)) d i e

  pub tree-single : (d i : ℕ) → here row n d i ≡ true → opens (row i).tag ≡ false → trees d i ≡ over i (end, suc i) (trees d (suc i))
  tree-single d i e o =
      let less = here-less row n d i e in
      turn-single (n - i) d i e o ∙ ap (over i (end, suc i)) (same-tree (n - i) (suc (n - suc i)) d (suc i) (omega arith) (omega arith))

  pub tree-nested : (d i : ℕ) → here row n d i ≡ true → opens (row i).tag ≡ true → trees d i ≡ over i (trees (suc d) (suc i)) (trees d (trees (suc d) (suc i)).1)
  tree-nested d i e o =
      let less = here-less row n d i e in
      let inner = tree (n - i) row n lent (suc d) (suc i) in
      let x : inner ≡ trees (suc d) (suc i) = same-tree (n - i) (suc (n - suc i)) (suc d) (suc i) (omega arith) (omega arith) in
      let m = (ahead (n - i) (suc d) (suc i)).0 in
      turn-nested (n - i) d i e o
      ∙ (ap (over i inner) (same-tree (n - i) (suc (n - inner.1)) d inner.1 (omega arith) (omega arith)) ∙ ap (λ z. over i z (trees d z.1)) x)

  pub tree-ahead : (d i : ℕ) → i ≤ (trees d i).1
  tree-ahead d i = (ahead (suc (n - i)) d i).0

  pub tree-within : (d i : ℕ) → i ≤ n → (trees d i).1 ≤ n
  tree-within d i h = (ahead (suc (n - i)) d i).1 h

  -- the tree of `rebuilt`, over all records
  pub whole-tree : (d : ℕ) → tree (suc n) row n lent d 0 ≡ trees d 0
  whole-tree d = same-tree (suc n) (suc (n - 0)) d 0 (omega arith) (omega arith)
