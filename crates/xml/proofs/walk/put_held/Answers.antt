use Rattle.xml.proofs.Holding.{held-put}
use borrow.Author.Rules.{rules}
use Rattle.xml.proofs.walk.put_held.Goals as goal

pub returns : goal.returns
returns c = search (held-put, rules)
