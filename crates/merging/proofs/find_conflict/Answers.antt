use Rattle.merging.proofs.Settling.{conflict-ways}
use borrow.Author.Rules.{rules}
use Rattle.merging.proofs.find_conflict.Goals as goal

pub returns-in-Err : goal.returns-in-Err
returns-in-Err c = search (conflict-ways, rules)

pub returns-in-Err-judge : goal.returns-in-Err-judge
returns-in-Err-judge c = search (conflict-ways, rules)

pub returns-in-Ok-judge : goal.returns-in-Ok-judge
returns-in-Ok-judge c = search (conflict-ways, rules)
