use Rattle.xml.proofs.Holding.{Seeks}
use Prim.Native.Nat.{◌-◌}
use lib.ListN.{length}
use Rattle.xml.proofs.walk.has_inside.Given as goal

abbrev pub invariant-loop-at : goal.invariant-loop-at
invariant-loop-at l = Seeks l.body l.at

abbrev pub decreases-loop-at : goal.decreases-loop-at
decreases-loop-at l = length l.body - l.at
