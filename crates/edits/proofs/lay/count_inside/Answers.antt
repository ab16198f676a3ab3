use Rattle.edits.proofs.Laying.{inside-sum-fits}
use borrow.Author.Rules.{rules}
use Rattle.edits.proofs.lay.count_inside.Goals as goal

pub overflow_add-body : goal.overflow_add-body
overflow_add-body c = search (inside-sum-fits, rules)
