use Rattle.merging.proofs.KeyWays.{bearer-ways}
use borrow.Author.Rules.{rules}
use Rattle.merging.proofs.keys.is_bearer_of.Goals as goal

pub returns-then-tag-ne41 : goal.returns-then-tag-ne41
returns-then-tag-ne41 c = search (bearer-ways, rules)

pub returns : goal.returns
returns c = search (bearer-ways, rules)
