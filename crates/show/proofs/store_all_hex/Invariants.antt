use Rattle.show.proofs.Writing.{Hexing}
use Rattle.show.proofs.store_all_hex.Given as goal

abbrev pub invariant-loop-b : goal.invariant-loop-b
invariant-loop-b l = Hexing l.initial.out l.at l.s l.out l.to l.b-index
