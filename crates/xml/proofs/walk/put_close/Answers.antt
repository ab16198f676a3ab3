use Rattle.xml.proofs.Holding.{close-put}
use borrow.Author.Rules.{rules}
use Rattle.xml.proofs.walk.put_close.Goals as goal

pub returns : goal.returns
returns c = search (close-put, rules)
