use borrow.Author.Rules.{rules}
use Rattle.merging.proofs.Adding.{added}
use Rattle.merging.proofs.counting.add.Goals as goal

pub returns : goal.returns
returns c = search (added, rules)
