use Rattle.records.proofs.Bodies.{body-ways}
use borrow.Author.Rules.{rules}
use Rattle.records.proofs.check.check_body.Goals as goal

pub returns-in-None : goal.returns-in-None
returns-in-None c = search (body-ways, rules)

pub returns-in-Some : goal.returns-in-Some
returns-in-Some c = search (body-ways, rules)
