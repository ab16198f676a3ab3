use borrow.Author.Rules.{rules}
use Rattle.merging.proofs.Roles.{partner-in-ways}
use Rattle.merging.proofs.partners.partner_in.Goals as goal

pub returns-in-Language : goal.returns-in-Language
returns-in-Language c = search (partner-in-ways, rules)

pub returns-in-Own : goal.returns-in-Own
returns-in-Own c = search (partner-in-ways, rules)

pub returns-in-Added : goal.returns-in-Added
returns-in-Added c = search (partner-in-ways, rules)
