use borrow.Author.Rules.{rules}
use Rattle.merging.proofs.Roles.{partner-ways}
use Rattle.merging.proofs.partners.partner_of.Goals as goal

pub returns-in_default : goal.returns-in_default
returns-in_default c = search (partner-ways, rules)

pub returns-then-merges : goal.returns-then-merges
returns-then-merges c = search (partner-ways, rules)

pub returns : goal.returns
returns c = search (partner-ways, rules)
