use borrow.Author.Rules.{rules}
use Rattle.values.proofs.BearerForm.{valid-ways}
use Rattle.values.proofs.Bearer.valid.Goals as goal

pub returns-then-self-gt15 : goal.returns-then-self-gt15
returns-then-self-gt15 c = search (valid-ways, rules)

pub returns-then-self : goal.returns-then-self
returns-then-self c = search (valid-ways, rules)

pub returns-then-self-gt65535 : goal.returns-then-self-gt65535
returns-then-self-gt65535 c = search (valid-ways, rules)

pub returns : goal.returns
returns c = search (valid-ways, rules)
