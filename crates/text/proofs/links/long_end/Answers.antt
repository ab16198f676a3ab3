use borrow.Author.Rules.{rules}
use Rattle.text.proofs.LinkLaws.{pass-ways}
use Rattle.text.proofs.links.long_end.Goals as goal

pub returns-then-from-s : goal.returns-then-from-s
returns-then-from-s c = search (pass-ways, rules)

pub returns-then-tokens : goal.returns-then-tokens
returns-then-tokens c = search (pass-ways, rules)

pub returns : goal.returns
returns c = search (pass-ways, rules)
