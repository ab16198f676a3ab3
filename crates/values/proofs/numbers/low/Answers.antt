use borrow.Author.Rules.{rules}
use Rattle.values.proofs.Shifts.{low_fits, low-is}
use Rattle.values.proofs.numbers.low.Goals as goal

pub overflow_cast-result : goal.overflow_cast-result
overflow_cast-result c = search (low_fits, rules)

pub returns : goal.returns
returns c = search (low-is, rules)
