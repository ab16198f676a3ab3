use Prim.Native.Nat.{◌-◌}
use lib.ListN.{length}
use Rattle.xml.proofs.Putting.{Spread}
use Rattle.xml.proofs.Rowing.{shown}
use Rattle.xml.proofs.rows.put_text.Given as goal

abbrev pub invariant-loop-i : goal.invariant-loop-i
invariant-loop-i l = Spread (shown l.table) l.emit l.at l.initial.out l.s l.out l.to l.i

abbrev pub decreases-loop-i : goal.decreases-loop-i
decreases-loop-i l = length l.s - l.i
