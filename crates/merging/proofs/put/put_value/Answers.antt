use borrow.Author.Rules.{rules}
use Rattle.merging.proofs.Singly.{value-ways}
use Rattle.merging.proofs.put.put_value.Goals as goal

pub returns-then-emit : goal.returns-then-emit
returns-then-emit c = search (value-ways, rules)

pub returns : goal.returns
returns c = search (value-ways, rules)
