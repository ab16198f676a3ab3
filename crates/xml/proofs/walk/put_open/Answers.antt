use Rattle.xml.proofs.Holding.{open-put}
use borrow.Author.Rules.{rules}
use Rattle.xml.proofs.walk.put_open.Goals as goal

pub returns : goal.returns
returns c = search (open-put, rules)
