-- Numbers of parents and places in the store that follow what moves: the leaves, and the states of the loops.
use mathlib.Core.Path.{◌≡◌, sym, ap, ap₂, ◌∙◌}
use mathlib.Core.Bool.{Bool, true, false}
use mathlib.Core.List.{List, ◌∷◌, map}
use Prim.Native.Nat.{ℕ, ◌+◌, ◌-◌, ◌≤◌, ◌<◌}
use native.Mathlib.Numerals.{add-one}
use native.Mathlib.Omega.{arith}
use lib.ListN.{length, take, get_or, set}
use lib.Seq.{sets, get_or-set_other, drop-set-lt}
use Rattle.octets.specs.Places.{between}
use Rattle.octets.proofs.Lists.{sets-none}
use Rattle.octets.proofs.Upward.{part_none, part-first}
use Rattle.format.specs.Meaning.{opens}
use Rattle.edits.specs.Sites.{shifted, start_after, shifted_starts}
use Rattle.edits.specs.Moves.{Renumbers, Movable, Shifts}
use Rattle.edits.proofs.Sites.{shifted-low, shifted-high}

-- ---- one number of a parent
pub parent-low : (from to parent : ℕ) → parent < from → parent ≡ shifted from to parent
parent-low from to parent h = sym (shifted-low from to parent h)

pub parent-high : (from to parent : ℕ) → from ≤ parent → parent - from + to ≡ shifted from to parent
parent-high from to parent h = sym (shifted-high from to parent h)

pub parent-fits : (from to parent : ℕ) → shifted from to parent ≤ 65_535 → from ≤ parent → parent - from + to ≤ 65_535
parent-fits from to parent s h = omega (arith, parent-high from to parent h)

pub ruleset parent-ways = (parent-low, parent-high)

-- ---- one place in the store
module _ (was is tag start : ℕ) (b : Bool) (e : b ≡ opens tag) where
  pub open_kept : b ≡ true → start ≡ start_after was is tag start
  unfolding start_after
  open_kept q = rw (sym e ∙ q)

  pub shut-moves : b ≡ false → Movable was is tag start → (was ≤ start) × (start - was + is ≤ 65_535)
  shut-moves q m = m (sym e ∙ q)

  pub shut-moved : b ≡ false → (s : ℕ) → s ≡ start - was + is → s ≡ start_after was is tag start
  unfolding start_after
  shut-moved q s h = rw (sym e ∙ q) h

pub ruleset start-ways = (open_kept, shut-moves, shut-moved)

-- ---- a part of a list, from its first number on
pub part-later : (i n : ℕ) (l : List ℕ) (x : ℕ) → between (set l i x) (i + 1) n ≡ between l (i + 1) n
part-later i n l x = ap (take (n - (i + 1))) (drop-set-lt (i + 1) l i x (omega arith))

-- ---- the parents: what renumbering from record i on would make of the list is what it was to make from the first on
module _ (from to : ℕ) where
  abbrev renumbered : (first last : ℕ) → List ℕ → List ℕ
  renumbered first last l = sets l first (map (shifted from to) (between l first last))

  pub record Renumbering (first last : ℕ) (before parents : List ℕ) (i : ℕ) : Type 0 where
    pub behind : (k : ℕ) → i ≤ k → get_or parents k 0 ≡ get_or before k 0
    pub holds : sets parents i (map (shifted from to) (between parents i last)) ≡ sets before first (map (shifted from to) (between before first last))

  module _ (first last : ℕ) (before : List ℕ) (s : Renumbers first last from to before) where
    module _ (parents : List ℕ) (i : ℕ) (m : Renumbering first last before parents i) where
      pub renumbering-next : i < last → length parents ≡ length before → (v : ℕ) → v ≡ shifted from to (get_or parents i 0)
          → Renumbering first last before (set parents i v) (i + 1)
      renumbering-next h long v e = record {
        behind = λ k q. get_or-set_other parents i k v 0 (λ z. omega arith) ∙ m.behind k (omega arith);
        holds =
            let p = part-first i last parents h (omega (arith, long, s.inside)) in
            let rest = map (shifted from to) (between parents (i + 1) last) in
            let whole : renumbered i last parents ≡ sets parents i (shifted from to (get_or parents i 0) ∷ rest) =
            ap (λ b. sets parents i (map (shifted from to) b)) p in
            ap (λ z. sets (set parents i v) (i + 1) (map (shifted from to) z)) (part-later i last parents v)
            ∙ (ap (λ k. sets (set parents i v) k rest) (add-one i) ∙ (ap (λ z. sets parents i (z ∷ rest)) e ∙ (sym whole ∙ m.holds)));
      }

-- ---- the starts, likewise
module _ (was is : ℕ) (tags : List ℕ) where
  abbrev restarted : (first last : ℕ) → List ℕ → List ℕ
  restarted first last l = sets l first (shifted_starts was is (between tags first last) (between l first last))

  pub record Shifting (first last : ℕ) (before starts : List ℕ) (i : ℕ) : Type 0 where
    pub behind : (k : ℕ) → i ≤ k → get_or starts k 0 ≡ get_or before k 0
    pub holds : sets starts i (shifted_starts was is (between tags i last) (between starts i last)) ≡ sets before first (shifted_starts was is (between tags first last) (between before first last))

  module _ (first last : ℕ) (before : List ℕ) (s : Shifts first last was is tags before) where
    module _ (starts : List ℕ) (i : ℕ) (m : Shifting first last before starts i) where
      pub shifting-end : i ≡ last → starts ≡ sets before first (shifted_starts was is (between tags first last) (between before first last))
      unfolding shifted_starts
      shifting-end e =
          let none : restarted i last starts ≡ starts =
          ap (λ k. restarted i k starts) (sym e)
          ∙ (ap (λ z. sets starts i (shifted_starts was is z (between starts i i))) (part_none i tags) ∙ sets-none starts i) in
          sym none ∙ m.holds

      pub shifting-next : i < last → length starts ≡ length before → (v : ℕ) → v ≡ start_after was is (get_or tags i 0) (get_or starts i 0)
          → Shifting first last before (set starts i v) (i + 1)
      unfolding shifted_starts
      shifting-next h long v e = record {
        behind = λ k q. get_or-set_other starts i k v 0 (λ z. omega arith) ∙ m.behind k (omega arith);
        holds =
            let t = part-first i last tags h s.tagged in
            let p = part-first i last starts h (omega (arith, long, s.inside)) in
            let rest = shifted_starts was is (between tags (i + 1) last) (between starts (i + 1) last) in
            let whole : restarted i last starts ≡ sets starts i (start_after was is (get_or tags i 0) (get_or starts i 0) ∷ rest) =
            ap₂ (λ a b. sets starts i (shifted_starts was is a b)) t p in
            ap (λ z. sets (set starts i v) (i + 1) (shifted_starts was is (between tags (i + 1) last) z)) (part-later i last starts v)
            ∙ (ap (λ k. sets (set starts i v) k rest) (add-one i) ∙ (ap (λ z. sets starts i (z ∷ rest)) e ∙ (sym whole ∙ m.holds)));
      }
