use Rattle.xml.proofs.Exporting.{object-put}
use borrow.Author.Rules.{rules}
use Rattle.xml.proofs.walk.put_object.Goals as goal

pub returns : goal.returns
returns c = search (object-put, rules)
