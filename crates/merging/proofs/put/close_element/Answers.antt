use borrow.Author.Rules.{rules}
use Rattle.merging.proofs.Adding.{closed-ways}
use Rattle.merging.proofs.put.close_element.Goals as goal

pub overflow_sub-more : goal.overflow_sub-more
overflow_sub-more c = search (closed-ways, rules)

pub returns-then-emit : goal.returns-then-emit
returns-then-emit c = search (closed-ways, rules)

pub returns : goal.returns
returns c = search (closed-ways, rules)
