use Rattle.compare.proofs.Answering.{compared}
use borrow.Author.Rules.{rules}
use Rattle.compare.proofs.compare_accepted.Goals as goal

pub returns : goal.returns
returns c = search (compared, rules)
