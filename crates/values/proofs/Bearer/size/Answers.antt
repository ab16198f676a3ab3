use Rattle.values.proofs.BearerForm.{size-long, size-short}
use borrow.Author.Rules.{rules}
use Rattle.values.proofs.Bearer.size.Goals as goal

pub returns-then-self : goal.returns-then-self
returns-then-self c = search (size-long, size-short, rules)

pub returns : goal.returns
returns c = search (size-long, size-short, rules)
