use Rattle.octets.proofs.Writing.{Storing}
use Rattle.octets.proofs.store_number.Given as goal

abbrev pub invariant-loop-i : goal.invariant-loop-i
invariant-loop-i l = Storing l.initial.out l.at l.width.0 l.n l.out l.i
