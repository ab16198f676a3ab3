use Rattle.xml.proofs.Putting.{decimal-first, decimal-last}
use borrow.Author.Rules.{rules}
use Rattle.xml.proofs.put.+put_decimal.Goals as goal

pub returns-then-n-lt10 : goal.returns-then-n-lt10
returns-then-n-lt10 t c = search (decimal-first, decimal-last, rules)

pub returns : goal.returns
returns t c = search (decimal-first, decimal-last, rules)
