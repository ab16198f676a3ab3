-- A part of a list that moves up: the state of the loop, and the ways through move_up.
use mathlib.Core.Path.{◌≡◌, refl, sym, ap, ap₂, ◌∙◌}
use mathlib.Core.Bool.{Bool, true, false, cond, ◌&&◌}
use mathlib.Core.List.{List, [], ◌∷◌}
use Prim.Native.Nat.{ℕ, suc, ◌+◌, ◌-◌, ◌≤◌, ◌<◌}
use native.Mathlib.Nat.{add-zero}
use native.Mathlib.Omega.{arith}
use lib.Dec.{leb}
use lib.ListN.{length, take, get_or, set}
use lib.Seq.{sets, length-sets}
use borrow.Author.Tests.{le-leb, lt-leb}
use Rattle.std.specs.List.{copy_within}
use Rattle.octets.specs.Places.{between, moved_up}
use Rattle.octets.proofs.Tests.{cond_same}
use Rattle.octets.proofs.Lists.{set-sets, sets_same, get_d_sets_before, drop-next, copy_within-sets}
use Rattle.octets.proofs.Puts.{room_in}

-- ---- the part between two places: where they are one, and its first element
pub part_none : (i : ℕ) (l : List ℕ) → between l i i ≡ []
part_none i l = let z : i - i ≡ 0 = omega arith in rw z

pub part-first : (i end : ℕ) (l : List ℕ) → i < end → end ≤ length l → between l i end ≡ get_or l i 0 ∷ between l (i + 1) end
part-first i end l h k =
    let n : end - i ≡ suc (end - (i + 1)) = omega arith in
    ap₂ (λ c d. take c d) n (drop-next l i 0 (omega arith))

-- ---- up, from the last: what lies from place i on has moved
pub record Rising (from end by : ℕ) (before list : List ℕ) (i : ℕ) : Type 0 where
  pub low : from ≤ i
  pub high : i ≤ end
  pub holds : list ≡ sets before (i + by) (between before i end)

pub rising-start : (from end by : ℕ) (list : List ℕ) → from ≤ end → Rising from end by list list end
rising-start from end by list h = record { low = h; high = omega arith; holds = sym (ap (sets list (end + by)) (part_none end list)) }

pub rising-end : (from end by : ℕ) (before list : List ℕ) (i : ℕ) → Rising from end by before list i → i ≤ from → list ≡ sets before (from + by) (between before from end)
rising-end from end by before list i m h = let e : i ≡ from = let a = m.low in omega arith in m.holds ∙ ap (λ j. sets before (j + by) (between before j end)) e

pub rising-length : (from end by : ℕ) (before list : List ℕ) (i : ℕ) → Rising from end by before list i → length list ≡ length before
rising-length from end by before list i m = ap length m.holds ∙ length-sets before (i + by) (between before i end)

module _ (from end by : ℕ) (before list : List ℕ) (i : ℕ) (m : Rising from end by before list i) (inside : end + by ≤ length before) (lt : from < i) where
  pub rising-next : Rising from end by before (set list (i - 1 + by) (get_or list (i - 1) 0)) (i - 1)
  rising-next =
      let high = m.high in
      let rest = between before i end in
      let j = i - 1 in
      let kept : get_or list j 0 ≡ get_or before j 0 = ap (λ r. get_or r j 0) m.holds ∙ get_d_sets_before before (i + by) rest j 0 (omega arith) in
      let n : j + 1 ≡ i = omega arith in
      let next : i + by ≡ suc (j + by) = omega arith in
      let first : between before j end ≡ get_or before j 0 ∷ rest = part-first j end before (omega arith) (omega arith) ∙ ap (λ k. get_or before j 0 ∷ between before k end) n in
      record {
        low = omega arith;
        high = omega arith;
        holds = ap₂ (λ r x. set r (j + by) x) m.holds kept ∙ (set-sets before (i + by) rest (j + by) (get_or before j 0) (omega arith)
            ∙ (ap (λ k. sets (set before (j + by) (get_or before j 0)) k rest) next ∙ ap (sets before (j + by)) (sym first)));
      }

pub ruleset rising-ways = (rising-start, rising-end, rising-length, rising-next)

-- ---- the ways through move_up
module _ (l : List ℕ) (from end by : ℕ) where
  pub unmoved : by ≡ 0 → l ≡ moved_up l from end by
  unfolding moved_up
  unmoved e =
      let here : sets l (from + by) (between l from end) ≡ l = ap (λ k. sets l k (between l from end)) (ap (λ k. from + k) e ∙ add-zero from) ∙ sets_same l from (end - from) in
      sym (ap (λ m. cond (leb from end && leb (end + by) (length l)) m l) here ∙ cond_same (leb from end && leb (end + by) (length l)) l)

  pub no_part : end < from → l ≡ moved_up l from end by
  unfolding moved_up
  no_part h = rw (lt-leb from end h)

  module _ (h : from ≤ end) (b : Bool) (k : b ≡ leb (end + by) (length l)) where
    pub no_place : b ≡ false → l ≡ moved_up l from end by
    unfolding moved_up
    no_place q = rw (le-leb from end h, sym k ∙ q)

    pub moved : b ≡ true → (after : List ℕ) → after ≡ sets l (from + by) (between l from end) → after ≡ moved_up l from end by
    unfolding moved_up
    moved q after e = rw (le-leb from end h, sym k ∙ q) e

    pub moved_within : b ≡ true → (after : List ℕ) → after ≡ copy_within l from end (from + by) → after ≡ moved_up l from end by
    moved_within q after e = moved q after (e ∙ copy_within-sets l from end (from + by) (omega (arith, room_in (length l) end by b k q)) (omega (arith, room_in (length l) end by b k q)))

pub ruleset moved-ways = (unmoved, no_part, no_place, moved_within, room_in)

-- where there is a place for all
pub moves-up : (l : List ℕ) (from end by : ℕ) → from ≤ end → end + by ≤ length l → moved_up l from end by ≡ sets l (from + by) (between l from end)
unfolding moved_up
moves-up l from end by h k = rw (le-leb from end h, le-leb (end + by) (length l) k)

pub moved-long : (l : List ℕ) (from end by : ℕ) → length (moved_up l from end by) ≡ length l
unfolding moved_up
moved-long l from end by = go (leb from end && leb (end + by) (length l))
  where
    go : (b : Bool) → length (cond b (sets l (from + by) (between l from end)) l) ≡ length l
    go true = length-sets l (from + by) (between l from end)
    go false = refl
