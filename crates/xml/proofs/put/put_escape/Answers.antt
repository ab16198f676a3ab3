use borrow.Author.Rules.{rules}
use Rattle.xml.proofs.Putting.{escape-ways}
use Rattle.xml.proofs.put.put_escape.Goals as goal

pub returns-in-38 : goal.returns-in-38
returns-in-38 c = search (escape-ways, rules)

pub returns-in-60 : goal.returns-in-60
returns-in-60 c = search (escape-ways, rules)

pub returns-in-62 : goal.returns-in-62
returns-in-62 c = search (escape-ways, rules)

pub returns-in-34 : goal.returns-in-34
returns-in-34 c = search (escape-ways, rules)

pub returns-in-39 : goal.returns-in-39
returns-in-39 c = search (escape-ways, rules)

pub returns-in_default : goal.returns-in_default
returns-in_default c = search (escape-ways, rules)
