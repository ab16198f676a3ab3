use Prim.Native.Nat.{◌-◌}
use lib.ListN.{length}
use Rattle.survey.proofs.Tables.{Looks}
use Rattle.survey.proofs.table.table_in.Given as goal

abbrev pub invariant-loop-at : goal.invariant-loop-at
invariant-loop-at l = Looks l.part l.at

abbrev pub decreases-loop-at : goal.decreases-loop-at
decreases-loop-at l = length l.part - l.at
