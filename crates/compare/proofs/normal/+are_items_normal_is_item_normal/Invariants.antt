use Prim.Native.Nat.{◌+◌, ◌-◌}
use lib.ListN.{length}
use Rattle.compare.proofs.Shaping.{Shapes}
use Rattle.compare.proofs.normal.+are_items_normal_is_item_normal.Given as goal

abbrev pub decreases-are_items_normal : goal.decreases-are_items_normal
decreases-are_items_normal l = length l.part.now + length l.part.now

abbrev pub decreases-is_item_normal : goal.decreases-is_item_normal
decreases-is_item_normal l = length l.body.now + length l.body.now + 1

abbrev pub invariant-are_items_normal-loop-at : goal.invariant-are_items_normal-loop-at
invariant-are_items_normal-loop-at l = Shapes l.parent l.part l.last l.at

abbrev pub decreases-are_items_normal-loop-at : goal.decreases-are_items_normal-loop-at
decreases-are_items_normal-loop-at l = length l.part - l.at
