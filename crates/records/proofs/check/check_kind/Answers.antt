use Rattle.records.proofs.Bodies.{kind-ways}
use borrow.Author.Rules.{rules}
use Rattle.records.proofs.check.check_kind.Goals as goal

pub returns-in-HoldsItems : goal.returns-in-HoldsItems
returns-in-HoldsItems c = search (kind-ways, rules)

pub returns-in-HoldsTokens : goal.returns-in-HoldsTokens
returns-in-HoldsTokens c = search (kind-ways, rules)

pub returns-in-HoldsText : goal.returns-in-HoldsText
returns-in-HoldsText c = search (kind-ways, rules)

pub returns-in-HoldsPlain : goal.returns-in-HoldsPlain
returns-in-HoldsPlain c = search (kind-ways, rules)

pub returns-in-HoldsTime : goal.returns-in-HoldsTime
returns-in-HoldsTime c = search (kind-ways, rules)
