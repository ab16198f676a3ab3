use Rattle.std.proofs.Common.{◌+◌, ◌-◌, ◌*◌, ◌≤◌, length}
use Rattle.spi.proofs.tree.+show_item_show_items.Given as goal

-- each level deeper, and an item is nearer its end than the items that it stands among
abbrev pub decreases-show_item : goal.decreases-show_item
decreases-show_item l = 2 * l.left

abbrev pub decreases-show_items : goal.decreases-show_items
decreases-show_items l = 2 * l.left + 1

abbrev pub invariant-show_items-loop-at : goal.invariant-show_items-loop-at
invariant-show_items-loop-at l = l.at ≤ length l.part

abbrev pub decreases-show_items-loop-at : goal.decreases-show_items-loop-at
decreases-show_items-loop-at l = length l.part - l.at
