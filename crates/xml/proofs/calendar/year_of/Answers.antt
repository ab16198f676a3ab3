use borrow.Author.Rules.{rules}
use Rattle.xml.proofs.Dating.{years-begin, years-stop, years-again, years-last}
use Rattle.xml.proofs.calendar.year_of.Goals as goal

pub loop-year-init : goal.loop-year-init
loop-year-init c = search (years-begin, rules)

pub returns-then-rest-size : goal.returns-then-rest-size
returns-then-rest-size c = search (years-stop, rules)

pub loop-year-preserved : goal.loop-year-preserved
loop-year-preserved c = search (years-again, rules)

pub returns : goal.returns
returns c = search (years-last, rules)
