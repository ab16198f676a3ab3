use borrow.Author.Rules.{rules}
use Rattle.xml.proofs.Dating.{months-begin, months-stop, months-again, months-last-fit, months-last}
use Rattle.xml.proofs.calendar.month_of.Goals as goal

pub loop-month-init : goal.loop-month-init
loop-month-init c = search (months-begin, rules)

pub returns-then-rest-size : goal.returns-then-rest-size
returns-then-rest-size c = search (months-stop, rules)

pub loop-month-preserved : goal.loop-month-preserved
loop-month-preserved c = search (months-again, rules)

pub overflow_add-result-2 : goal.overflow_add-result-2
overflow_add-result-2 c = search (months-last-fit, rules)

pub returns : goal.returns
returns c = search (months-last, rules)
