use Rattle.values.proofs.TimeForm.{day-fits, local-is}
use borrow.Author.Rules.{rules}
use Rattle.values.proofs.Time.local.Goals as goal

pub overflow_sub-day : goal.overflow_sub-day
overflow_sub-day c = search (day-fits, rules)

pub returns : goal.returns
returns c = search (local-is, rules)
