use borrow.Author.Rules.{rules}
use Rattle.values.proofs.TimeForm.{canonical-ways}
use Rattle.values.proofs.Time.canonical.Goals as goal

pub returns-then-self-ne0 : goal.returns-then-self-ne0
returns-then-self-ne0 c = search (canonical-ways, rules)

pub returns : goal.returns
returns c = search (canonical-ways, rules)
