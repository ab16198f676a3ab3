use Rattle.octets.proofs.Writing.{digit-ways}
use borrow.Author.Rules.{rules}
use Rattle.octets.proofs.digit.Goals as goal

pub overflow_mul-result : goal.overflow_mul-result
overflow_mul-result c = search (digit-ways, rules)

pub overflow_cast-result : goal.overflow_cast-result
overflow_cast-result c = search (digit-ways, rules)

pub overflow_shr-result : goal.overflow_shr-result
overflow_shr-result c = search (digit-ways, rules)

pub overflow_cast-result-2 : goal.overflow_cast-result-2
overflow_cast-result-2 c = search (digit-ways, rules)

pub returns : goal.returns
returns c = search (digit-ways, rules)
