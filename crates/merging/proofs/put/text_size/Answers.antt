use borrow.Author.Rules.{rules}
use Rattle.merging.proofs.Singly.{text-sized}
use Rattle.merging.proofs.put.text_size.Goals as goal

pub returns : goal.returns
returns c = search (text-sized, rules)
