use borrow.Author.Rules.{rules}
use Rattle.text.proofs.LinkLaws.{sixteen-at}
use Rattle.text.proofs.links.are_linked_at.Goals as goal

pub returns : goal.returns
returns c = search (sixteen-at, rules)
