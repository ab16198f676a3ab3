use Rattle.merging.proofs.KeyWays.{service-ways}
use borrow.Author.Rules.{rules}
use Rattle.merging.proofs.keys.same_service.Goals as goal

pub returns-in-ByTag : goal.returns-in-ByTag
returns-in-ByTag c = search (service-ways, rules)

pub returns-in-ByBearers : goal.returns-in-ByBearers
returns-in-ByBearers c = search (service-ways, rules)
