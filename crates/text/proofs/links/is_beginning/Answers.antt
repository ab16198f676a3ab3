use borrow.Author.Rules.{rules}
use Rattle.text.proofs.LinkLaws.{begins-is}
use Rattle.text.proofs.links.is_beginning.Goals as goal

pub returns : goal.returns
returns c = search (begins-is, rules)
