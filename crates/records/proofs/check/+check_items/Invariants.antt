use Prim.Native.Nat.{◌-◌}
use Rattle.format.specs.Lent.{shared_lists}
use Rattle.records.proofs.Turns.{Holds}
use Rattle.records.proofs.check.+check_items.Given as goal

abbrev pub decreases-check_items : goal.decreases-check_items
decreases-check_items l =
    l.count - l.at

abbrev pub invariant-loop-i : goal.invariant-loop-i
invariant-loop-i l =
    Holds (shared_lists l.records) l.count l.octets l.at l.parent l.i l.state

abbrev pub decreases-loop-i : goal.decreases-loop-i
decreases-loop-i l =
    l.count - l.i
