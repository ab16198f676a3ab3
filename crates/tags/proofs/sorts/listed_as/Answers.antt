use Rattle.tags.proofs.Listing.{listed-ways}
use borrow.Author.Rules.{rules}
use Rattle.tags.proofs.sorts.listed_as.Goals as goal

pub returns-in-None : goal.returns-in-None
returns-in-None c = search (listed-ways, rules)

pub returns-in-HoldsItems : goal.returns-in-HoldsItems
returns-in-HoldsItems c = search (listed-ways, rules)

pub returns-in-HoldsTokens : goal.returns-in-HoldsTokens
returns-in-HoldsTokens c = search (listed-ways, rules)

pub returns-in-HoldsText : goal.returns-in-HoldsText
returns-in-HoldsText c = search (listed-ways, rules)

pub returns-in-HoldsPlain : goal.returns-in-HoldsPlain
returns-in-HoldsPlain c = search (listed-ways, rules)

pub returns-in-HoldsTime : goal.returns-in-HoldsTime
returns-in-HoldsTime c = search (listed-ways, rules)

pub returns-in-HoldsBearer : goal.returns-in-HoldsBearer
returns-in-HoldsBearer c = search (listed-ways, rules)

pub returns-in-HoldsNumber : goal.returns-in-HoldsNumber
returns-in-HoldsNumber c = search (listed-ways, rules)
