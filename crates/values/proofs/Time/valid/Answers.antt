use borrow.Author.Rules.{rules}
use Rattle.values.proofs.TimeForm.{valid-ways}
use Rattle.values.proofs.Time.valid.Goals as goal

pub returns-then-self-gt99999 : goal.returns-then-self-gt99999
returns-then-self-gt99999 c = search (valid-ways, rules)

pub returns-then-self-gt23 : goal.returns-then-self-gt23
returns-then-self-gt23 c = search (valid-ways, rules)

pub returns-then-self-gt59 : goal.returns-then-self-gt59
returns-then-self-gt59 c = search (valid-ways, rules)

pub returns-then-self-gt59-2 : goal.returns-then-self-gt59-2
returns-then-self-gt59-2 c = search (valid-ways, rules)

pub returns-then-self-gt31 : goal.returns-then-self-gt31
returns-then-self-gt31 c = search (valid-ways, rules)

pub returns : goal.returns
returns c = search (valid-ways, rules)
