use Rattle.xml.proofs.Dating.{clock-put}
use borrow.Author.Rules.{rules}
use Rattle.xml.proofs.calendar.put_clock.Goals as goal

pub returns : goal.returns
returns c = search (clock-put, rules)
