use borrow.Author.Rules.{rules}
use Rattle.merging.proofs.Singly.{single-put}
use Rattle.merging.proofs.put.put_single.Goals as goal

pub returns : goal.returns
returns c = search (single-put, rules)
