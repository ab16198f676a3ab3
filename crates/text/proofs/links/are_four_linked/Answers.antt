use borrow.Author.Rules.{rules}
use Rattle.text.proofs.LinkLaws.{four-linked}
use Rattle.text.proofs.links.are_four_linked.Goals as goal

pub returns : goal.returns
returns c = search (four-linked, rules)
