use borrow.Author.Rules.{rules}
use Rattle.values.proofs.TimeForm.{size-ways}
use Rattle.values.proofs.Time.size.Goals as goal

pub returns-then-self-eq0-2 : goal.returns-then-self-eq0-2
returns-then-self-eq0-2 c = search (size-ways, rules)

pub returns-then-self-eq0 : goal.returns-then-self-eq0
returns-then-self-eq0 c = search (size-ways, rules)

pub returns-then-self-eq0-3 : goal.returns-then-self-eq0-3
returns-then-self-eq0-3 c = search (size-ways, rules)

pub returns : goal.returns
returns c = search (size-ways, rules)
