use borrow.Author.Rules.{rules}
use Rattle.text.proofs.LinkLaws.{linked-is}
use Rattle.text.proofs.links.is_linked.Goals as goal

pub returns : goal.returns
returns c = search (linked-is, rules)
