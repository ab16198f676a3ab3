use borrow.Author.Rules.{rules}
use Rattle.merging.proofs.Roles.{added-ways}
use Rattle.merging.proofs.partners.is_added.Goals as goal

pub returns-then-merges : goal.returns-then-merges
returns-then-merges c = search (added-ways, rules)

pub returns-then-tag-eq6 : goal.returns-then-tag-eq6
returns-then-tag-eq6 c = search (added-ways, rules)

pub returns : goal.returns
returns c = search (added-ways, rules)
