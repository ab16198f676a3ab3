use borrow.Author.Rules.{rules}
use Rattle.text.proofs.LinkLaws.{sixteen-linked}
use Rattle.text.proofs.links.are_sixteen_linked.Goals as goal

pub returns : goal.returns
returns c = search (sixteen-linked, rules)
