use Rattle.writer.proofs.Summing.{Sums}
use Rattle.format.specs.Lent.{shared_lists}
use Prim.Native.Nat.{◌-◌}
use Rattle.writer.proofs.size.+size_items.Given as goal

abbrev pub decreases-size_items : goal.decreases-size_items
decreases-size_items l =
    l.count - l.at

abbrev pub invariant-loop-i : goal.invariant-loop-i
invariant-loop-i l =
    Sums (shared_lists l.records) l.count l.octets l.at l.depth l.parent l.initial.bodies l.bodies l.i l.total

abbrev pub decreases-loop-i : goal.decreases-loop-i
decreases-loop-i l =
    l.count - l.i
