use borrow.Author.Rules.{rules}
use Rattle.values.proofs.Fields.{checked-ways}
use Rattle.values.proofs.Time.checked.Goals as goal

pub returns-then-self-gt99999 : goal.returns-then-self-gt99999
returns-then-self-gt99999 c = search (checked-ways, rules)

pub returns-then-self-gt23 : goal.returns-then-self-gt23
returns-then-self-gt23 c = search (checked-ways, rules)

pub returns-then-self-gt59 : goal.returns-then-self-gt59
returns-then-self-gt59 c = search (checked-ways, rules)

pub returns-then-self-gt59-2 : goal.returns-then-self-gt59-2
returns-then-self-gt59-2 c = search (checked-ways, rules)

pub returns : goal.returns
returns c = search (checked-ways, rules)
