-- Where an item's records end, and what records take of the store: the state of the one loop, and the steps of the other.
use mathlib.Core.Path.{◌≡◌, sym, ap, ◌∙◌}
use mathlib.Core.Bool.{cond}
use mathlib.Core.List.{List}
use Prim.Native.Nat.{ℕ, suc, ◌+◌, ◌≤◌, ◌<◌}
use native.Mathlib.Numerals.{add-one}
use native.Mathlib.Omega.{arith}
use lib.Dec.{ltb}
use lib.ListN.{length, get_or, drop, drop_of_length-le}
use borrow.Author.Tests.{lt-ltb, le-ltb}
use Rattle.octets.specs.Places.{between}
use Rattle.octets.proofs.Lists.{drop-next}
use Rattle.octets.proofs.Upward.{part_none, part-first}
use Rattle.edits.specs.Extents.{deeper, sum_of}

-- what was to be found from the record behind the item's on is what is to be found from here on
pub record Scanning (depths : List ℕ) (n number j : ℕ) : Type 0 where
  pub rest : suc number + deeper (get_or depths number 0) (between depths (suc number) n) ≡ j + deeper (get_or depths number 0) (between depths j n)

module _ (depths : List ℕ) (n number : ℕ) (less : number < n) (long : n ≤ length depths) where
  abbrev depth : ℕ
  depth = get_or depths number 0

  pub scanning-start : Scanning depths n number (number + 1)
  scanning-start = record { rest = ap (λ k. k + deeper depth (between depths k n)) (sym (add-one number)) }

  module _ (j : ℕ) (v : Scanning depths n number j) where
    pub scanning-end : j ≡ n → n ≡ suc number + deeper (get_or depths number 0) (between depths (suc number) n)
    unfolding deeper
    scanning-end e =
        let none : deeper depth (between depths j n) ≡ 0 = ap (λ k. deeper depth (between depths j k)) (sym e) ∙ ap (deeper depth) (part_none j depths) in
        omega (arith, v.rest)

    module _ (h : j < n) where
      scan_step : deeper depth (between depths j n) ≡ cond (ltb depth (get_or depths j 0)) (suc (deeper depth (between depths (j + 1) n))) 0
      unfolding deeper
      scan_step = ap (deeper depth) (part-first j n depths h long)

      pub scanning-stop : get_or depths j 0 ≤ get_or depths number 0 → j ≡ suc number + deeper (get_or depths number 0) (between depths (suc number) n)
      scanning-stop d =
          let none : deeper depth (between depths j n) ≡ 0 = scan_step ∙ rw (le-ltb depth (get_or depths j 0) d) in
          omega (arith, v.rest)

      pub scanning-next : get_or depths number 0 < get_or depths j 0 → Scanning depths n number (j + 1)
      scanning-next d =
          let one : deeper depth (between depths j n) ≡ suc (deeper depth (between depths (j + 1) n)) = scan_step ∙ rw (lt-ltb depth (get_or depths j 0) d) in
          record { rest = omega (arith, v.rest) }

-- ---- what is left to be added up, from a number on
pub sum-next : (sizes : List ℕ) (k : ℕ) → k < length sizes → sum_of (drop k sizes) ≡ get_or sizes k 0 + sum_of (drop (k + 1) sizes)
unfolding sum_of
sum-next sizes k h = ap sum_of (drop-next sizes k 0 h)

pub sum_past : (sizes : List ℕ) (k : ℕ) → length sizes ≤ k → sum_of (drop k sizes) ≡ 0
unfolding sum_of
sum_past sizes k h = ap sum_of (drop_of_length-le sizes h)
