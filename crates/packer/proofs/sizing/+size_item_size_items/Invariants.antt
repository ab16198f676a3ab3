use lib.ListN.{length}
use Rattle.text.specs.Tokens.{entries}
use Rattle.packer.proofs.Sized.{Sizing}
use Prim.Native.Nat.{◌+◌, ◌-◌}
use Rattle.packer.proofs.sizing.+size_item_size_items.Given as goal

abbrev pub decreases-size_item : goal.decreases-size_item
decreases-size_item l = l.left + l.left

abbrev pub decreases-size_items : goal.decreases-size_items
decreases-size_items l = l.left + l.left + 1

abbrev pub invariant-size_items-loop-at : goal.invariant-size_items-loop-at
invariant-size_items-loop-at l = Sizing (entries l.table) l.parent l.left l.part l.size l.at

abbrev pub decreases-size_items-loop-at : goal.decreases-size_items-loop-at
decreases-size_items-loop-at l = length l.part - l.at
