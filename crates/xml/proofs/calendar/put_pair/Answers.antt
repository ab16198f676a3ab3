use Rattle.xml.proofs.Dating.{pair_put}
use borrow.Author.Rules.{rules}
use Rattle.xml.proofs.calendar.put_pair.Goals as goal

pub returns : goal.returns
returns c = search (pair_put, rules)
