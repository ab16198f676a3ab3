use Rattle.xml.proofs.Dating.{Years}
use Rattle.xml.proofs.calendar.year_of.Given as goal

abbrev pub invariant-loop-year : goal.invariant-loop-year
invariant-loop-year l = Years l.days l.year l.rest
