use Rattle.octets.proofs.Reading.{Valued}
use Rattle.octets.proofs.value_of.Given as goal

abbrev pub invariant-loop-b : goal.invariant-loop-b
invariant-loop-b l = Valued l.s l.n l.b-index
