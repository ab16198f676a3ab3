use Rattle.merging.proofs.KeyWays.{partner-ways}
use borrow.Author.Rules.{rules}
use Rattle.merging.proofs.keys.is_partner.Goals as goal

pub returns-then-tag-other : goal.returns-then-tag-other
returns-then-tag-other c = search (partner-ways, rules)

pub returns : goal.returns
returns c = search (partner-ways, rules)
