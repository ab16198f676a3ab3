-- Parts of lists that move.
use mathlib.Core.Path.{◌≡◌, sym, ap, ◌∙◌}
use mathlib.Core.List.{List, ◌++◌}
use Prim.Native.Nat.{ℕ, ◌+◌, ◌-◌, ◌≤◌}
use native.Mathlib.Omega.{arith}
use lib.ListN.{length, take, drop}
use lib.Seq.{sets, sets-eq}
use Rattle.std.specs.List.{copy_within}
use Rattle.octets.specs.Places.{between}
use Rattle.octets.proofs.Lists.{length_part, sets_same}
use Rattle.edits.specs.declared.moving.Move.{Move}
use Rattle.edits.specs.Moves.{Carries, carried}

pub part_length : (from end : ℕ) (l : List ℕ) → from ≤ end → end ≤ length l → length (between l from end) ≡ end - from
part_length from end l h k = length_part l from (end - from) (omega arith)

-- ---- a part moves either way
module _ {A : Type 0} (m : Move) (list : List A) where
  pub moved_to : Carries m list → (after : List A) → after ≡ copy_within list m.from m.end m.to → after ≡ carried m (λ l. l) list
  moved_to c after e =
      let n : length (take (m.end - m.from) (drop m.from list)) ≡ m.end - m.from = length_part list m.from (m.end - m.from)
      (omega (arith, c.order, c.inside)) in
      e ∙ sym (sets-eq (take (m.end - m.from) (drop m.from list)) list m.to (omega (arith, c.room))
      ∙ ap (λ k. (take m.to list ++ take (m.end - m.from) (drop m.from list)) ++ drop (m.to + k) list) n)

  pub to_same : m.to ≡ m.from → list ≡ carried m (λ l. l) list
  to_same e = sym (ap (λ k. sets list k (take (m.end - m.from) (drop m.from list))) e ∙ sets_same list m.from (m.end - m.from))
