use borrow.Author.Rules.{rules}
use Rattle.merging.proofs.Roles.{is-put-ways}
use Rattle.merging.proofs.partners.is_put.Goals as goal

pub returns-in-Language : goal.returns-in-Language
returns-in-Language c = search (is-put-ways, rules)

pub returns-in-Own : goal.returns-in-Own
returns-in-Own c = search (is-put-ways, rules)

pub returns-in-Added : goal.returns-in-Added
returns-in-Added c = search (is-put-ways, rules)
