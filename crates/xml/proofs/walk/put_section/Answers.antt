use borrow.Author.Rules.{rules}
use Rattle.xml.proofs.Holding.{section-ways}
use Rattle.xml.proofs.walk.put_section.Goals as goal

pub returns-then-to-at : goal.returns-then-to-at
returns-then-to-at c = search (section-ways, rules)

pub returns : goal.returns
returns c = search (section-ways, rules)
