use Rattle.xml.proofs.Putting.{two-put}
use borrow.Author.Rules.{rules}
use Rattle.xml.proofs.put.put_two.Goals as goal

pub returns : goal.returns
returns c = search (two-put, rules)
