use Rattle.xml.proofs.Putting.{four-put}
use borrow.Author.Rules.{rules}
use Rattle.xml.proofs.put.put_four.Goals as goal

pub returns : goal.returns
returns c = search (four-put, rules)
