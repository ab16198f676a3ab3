use borrow.Author.Rules.{rules}
use Rattle.merging.proofs.Among.{same-ways}
use Rattle.merging.proofs.equal.is_same.Goals as goal

pub returns-then-tag-other : goal.returns-then-tag-other
returns-then-tag-other c = search (same-ways, rules)

pub returns : goal.returns
returns c = search (same-ways, rules)
