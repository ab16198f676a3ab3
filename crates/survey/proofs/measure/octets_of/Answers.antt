use Rattle.survey.proofs.Parts.{octets-ways}
use borrow.Author.Rules.{rules}
use Rattle.survey.proofs.measure.octets_of.Goals as goal

pub returns-in-HoldsItems : goal.returns-in-HoldsItems
returns-in-HoldsItems c = search (octets-ways, rules)

pub returns-in-HoldsTokens : goal.returns-in-HoldsTokens
returns-in-HoldsTokens c = search (octets-ways, rules)

pub returns-in-HoldsText : goal.returns-in-HoldsText
returns-in-HoldsText c = search (octets-ways, rules)

pub returns-in-HoldsPlain : goal.returns-in-HoldsPlain
returns-in-HoldsPlain c = search (octets-ways, rules)

pub returns-in-HoldsTime : goal.returns-in-HoldsTime
returns-in-HoldsTime c = search (octets-ways, rules)

pub returns-in-HoldsBearer : goal.returns-in-HoldsBearer
returns-in-HoldsBearer c = search (octets-ways, rules)

pub returns-in-HoldsNumber : goal.returns-in-HoldsNumber
returns-in-HoldsNumber c = search (octets-ways, rules)
