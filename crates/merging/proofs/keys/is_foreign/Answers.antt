use Rattle.merging.proofs.KeyWays.{foreign-ways}
use borrow.Author.Rules.{rules}
use Rattle.merging.proofs.keys.is_foreign.Goals as goal

pub returns-then-tag-ne41 : goal.returns-then-tag-ne41
returns-then-tag-ne41 c = search (foreign-ways, rules)

pub returns : goal.returns
returns c = search (foreign-ways, rules)
