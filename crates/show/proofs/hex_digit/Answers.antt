use Rattle.show.proofs.Writing.{digit-ways}
use borrow.Author.Rules.{rules}
use Rattle.show.proofs.hex_digit.Goals as goal

pub overflow_add-result : goal.overflow_add-result
overflow_add-result c = search (digit-ways, rules)

pub returns-then-d-lt10 : goal.returns-then-d-lt10
returns-then-d-lt10 c = search (digit-ways, rules)

pub overflow_add-result-2 : goal.overflow_add-result-2
overflow_add-result-2 c = search (digit-ways, rules)

pub returns : goal.returns
returns c = search (digit-ways, rules)
