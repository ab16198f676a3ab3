use Rattle.show.proofs.Writing.{refusal-size-ways}
use borrow.Author.Rules.{rules}
use Rattle.show.proofs.refusal_size.Goals as goal

pub returns-then-r-ne9 : goal.returns-then-r-ne9
returns-then-r-ne9 c = search (refusal-size-ways, rules)

pub returns : goal.returns
returns c = search (refusal-size-ways, rules)
