use Rattle.judge.proofs.LateWays.{Scans}
use Prim.Native.Nat.{◌-◌}
use lib.ListN.{length}
use Rattle.judge.proofs.late.hold_attributes.Given as goal

abbrev pub invariant-loop-at : goal.invariant-loop-at
invariant-loop-at l = Scans l.part l.run l.parent l.base l.table l.at

abbrev pub decreases-loop-at : goal.decreases-loop-at
decreases-loop-at l = length l.part - l.at
