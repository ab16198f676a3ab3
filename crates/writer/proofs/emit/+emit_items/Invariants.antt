use Rattle.writer.proofs.Emitting.{Written}
use Rattle.format.specs.Lent.{shared_lists}
use Prim.Native.Nat.{◌-◌}
use Rattle.writer.proofs.emit.+emit_items.Given as goal

abbrev pub decreases-emit_items : goal.decreases-emit_items
decreases-emit_items l = l.count - l.at

abbrev pub invariant-loop-i : goal.invariant-loop-i
invariant-loop-i l =
    Written l.stored (shared_lists l.memory.records) l.count l.memory.store.now l.parent l.depth l.at l.to l.initial.room l.room l.i l.end

abbrev pub decreases-loop-i : goal.decreases-loop-i
decreases-loop-i l =
    l.count - l.i
