use Rattle.edits.proofs.InsertLeaves.{Walking}
use Rattle.edits.proofs.inserting.child_behind.Given as goal

abbrev pub invariant-loop-next : goal.invariant-loop-next
invariant-loop-next l = Walking l.n l.number l.place l.tags l.depths l.left l.next
