use Rattle.values.proofs.Shifts.{four-value}
use borrow.Author.Rules.{rules}
use Rattle.values.proofs.numbers.four_at.Goals as goal

pub returns : goal.returns
returns c = search (four-value, rules)
