use Rattle.edits.proofs.Followed.{Renumbering}
use Rattle.edits.proofs.shifting.shift_parents.Given as goal

abbrev pub invariant-loop-i : goal.invariant-loop-i
invariant-loop-i l = Renumbering l.from l.to l.first l.last l.initial.parents l.parents l.i
