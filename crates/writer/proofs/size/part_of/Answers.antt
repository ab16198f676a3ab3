use Rattle.writer.proofs.Items.{value-bound}
use Rattle.writer.proofs.Summing.{part-nothing, part-holds, part-value}
use borrow.Author.Rules.{rules}
use Rattle.writer.proofs.size.part_of.Goals as goal

pub overflow_cast-size : goal.overflow_cast-size
overflow_cast-size c = search (value-bound, rules)

pub returns-in-Nothing : goal.returns-in-Nothing
returns-in-Nothing c = search (part-nothing, rules)

pub returns-in-Inside : goal.returns-in-Inside
returns-in-Inside c = search (part-holds, rules)

pub returns-in-Value : goal.returns-in-Value
returns-in-Value c = search (part-value, rules)
