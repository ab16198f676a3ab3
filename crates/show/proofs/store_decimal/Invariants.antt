use Rattle.show.proofs.Writing.{Spelling}
use Rattle.show.proofs.store_decimal.Given as goal

abbrev pub invariant-loop-to : goal.invariant-loop-to
invariant-loop-to l = Spelling l.initial.out l.at l.n l.out l.to l.rest
