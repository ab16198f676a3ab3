use Rattle.edits.proofs.Laying.{value-sum}
use borrow.Author.Rules.{rules}
use Rattle.edits.proofs.lay.count_value.Goals as goal

pub overflow_add-body : goal.overflow_add-body
overflow_add-body c = search (value-sum, rules)
