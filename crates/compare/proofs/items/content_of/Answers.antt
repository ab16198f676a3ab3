use Rattle.compare.proofs.Comparing.{content-ways}
use borrow.Author.Rules.{rules}
use Rattle.compare.proofs.items.content_of.Goals as goal

pub returns-in-Nothing : goal.returns-in-Nothing
returns-in-Nothing c = search (content-ways, rules)

pub returns-in-Inside : goal.returns-in-Inside
returns-in-Inside c = search (content-ways, rules)

pub returns-in-HoldsText : goal.returns-in-HoldsText
returns-in-HoldsText c = search (content-ways, rules)

pub returns-in_default : goal.returns-in_default
returns-in_default c = search (content-ways, rules)
