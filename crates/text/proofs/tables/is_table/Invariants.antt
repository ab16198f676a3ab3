use Prim.Native.Nat.{◌-◌}
use lib.ListN.{length}
use Rattle.text.proofs.Entries.{Tabling}
use Rattle.text.proofs.tables.is_table.Given as goal

abbrev pub invariant-loop-at : goal.invariant-loop-at
invariant-loop-at l =
    Tabling l.s l.at l.seen

abbrev pub decreases-loop-at : goal.decreases-loop-at
decreases-loop-at l =
    length l.s - l.at
