use Rattle.xml.proofs.Walking.{attribute-put}
use borrow.Author.Rules.{rules}
use Rattle.xml.proofs.walk.put_attribute.Goals as goal

pub returns : goal.returns
returns c = search (attribute-put, rules)
