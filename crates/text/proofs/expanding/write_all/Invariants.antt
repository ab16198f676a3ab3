use Prim.Native.Nat.{◌-◌}
use lib.ListN.{length}
use Rattle.text.specs.Index.{entries_by}
use Rattle.text.proofs.Replaced.{Writing}
use Rattle.text.proofs.expanding.write_all.Given as goal

abbrev pub invariant-loop-i : goal.invariant-loop-i
invariant-loop-i l = Writing (entries_by l.index l.table) l.s l.initial.out l.at l.out l.to l.i

abbrev pub decreases-loop-i : goal.decreases-loop-i
decreases-loop-i l = length l.s - l.i
