use Rattle.octets.proofs.Writing.{Copying}
use Rattle.text.proofs.expanding.copy.Given as goal

abbrev pub invariant-loop-i : goal.invariant-loop-i
invariant-loop-i l = Copying l.initial.out l.at l.part l.out l.i
