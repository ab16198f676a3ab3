use Prim.Native.Nat.{◌-◌}
use lib.ListN.{length}
use Rattle.text.specs.Index.{entries_by}
use Rattle.compare.proofs.Stepping.{Pace}
use Rattle.compare.proofs.steps.compare_in_step.Given as goal

abbrev pub invariant-loop-due : goal.invariant-loop-due
invariant-loop-due l = Pace l.parent (entries_by l.index_a l.table_a) l.a (entries_by l.index_b l.table_b) l.b l.i l.j l.last

abbrev pub decreases-loop-due : goal.decreases-loop-due
decreases-loop-due l = length l.a - l.i
