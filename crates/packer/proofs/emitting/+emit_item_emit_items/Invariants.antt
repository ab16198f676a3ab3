use lib.ListN.{length}
use Rattle.text.specs.Tokens.{entries}
use Rattle.packer.proofs.Emitted.{Emitting}
use Prim.Native.Nat.{◌+◌, ◌-◌}
use Rattle.packer.proofs.emitting.+emit_item_emit_items.Given as goal

abbrev pub decreases-emit_item : goal.decreases-emit_item
decreases-emit_item l = l.left + l.left

abbrev pub decreases-emit_items : goal.decreases-emit_items
decreases-emit_items l = l.left + l.left + 1

abbrev pub invariant-emit_items-loop-i : goal.invariant-emit_items-loop-i
invariant-emit_items-loop-i l = Emitting (entries l.table) l.parent l.left l.part l.initial.out l.out l.at l.end l.i

abbrev pub decreases-emit_items-loop-i : goal.decreases-emit_items-loop-i
decreases-emit_items-loop-i l = length l.part - l.i
