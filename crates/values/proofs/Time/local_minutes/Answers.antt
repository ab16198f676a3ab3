use Rattle.values.proofs.TimeForm.{minutes-ways}
use borrow.Author.Rules.{rules}
use Rattle.values.proofs.Time.local_minutes.Goals as goal

pub returns-then-self : goal.returns-then-self
returns-then-self c = search (minutes-ways, rules)

pub returns : goal.returns
returns c = search (minutes-ways, rules)
