use Rattle.xml.proofs.Putting.{Spread}
use Rattle.show.specs.Digits.{two_digits}
use Rattle.xml.proofs.put.put_hex.Given as goal

abbrev pub invariant-loop-b : goal.invariant-loop-b
invariant-loop-b l = Spread (two_digits 97) l.emit l.at l.initial.out l.s l.out l.to l.b-index
