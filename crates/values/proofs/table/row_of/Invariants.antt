use Rattle.values.proofs.Lookup.{Joining}
use Rattle.values.proofs.table.row_of.Given as goal

abbrev pub invariant-loop-i : goal.invariant-loop-i
invariant-loop-i l = Joining l.pairs l.from l.to l.codes l.i
