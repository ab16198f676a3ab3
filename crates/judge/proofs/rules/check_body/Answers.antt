use Rattle.judge.proofs.ItemWays.{body-ways}
use borrow.Author.Rules.{rules}
use Rattle.judge.proofs.rules.check_body.Goals as goal

pub returns-in-None : goal.returns-in-None
returns-in-None c = search (body-ways, rules)

pub returns-in-Some : goal.returns-in-Some
returns-in-Some c = search (body-ways, rules)
