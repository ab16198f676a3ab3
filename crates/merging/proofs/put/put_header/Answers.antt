use borrow.Author.Rules.{rules}
use Rattle.merging.proofs.Adding.{header-ways}
use Rattle.merging.proofs.put.put_header.Goals as goal

pub returns-then-emit : goal.returns-then-emit
returns-then-emit c = search (header-ways, rules)

pub returns : goal.returns
returns c = search (header-ways, rules)
