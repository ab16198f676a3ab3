use Rattle.xml.proofs.Dating.{Months}
use Rattle.xml.proofs.calendar.month_of.Given as goal

abbrev pub invariant-loop-month : goal.invariant-loop-month
invariant-loop-month l = Months l.year l.days l.month l.rest
