use Rattle.edits.proofs.Followed.{Shifting}
use Rattle.edits.proofs.shifting.shift_starts.Given as goal

abbrev pub invariant-loop-i : goal.invariant-loop-i
invariant-loop-i l = Shifting l.was l.is l.tags l.first l.last l.initial.starts l.starts l.i
