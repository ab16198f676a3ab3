use Rattle.values.proofs.ValueForm.{fits-ways}
use Rattle.values.specs.Values.{fits}
use borrow.Author.Rules.{rules}
use Rattle.values.proofs.value_form.fits_kind.Goals as goal

pub returns-in-HoldsItems : goal.returns-in-HoldsItems
returns-in-HoldsItems c = search (fits-ways, rules)

pub returns-in-HoldsTokens : goal.returns-in-HoldsTokens
returns-in-HoldsTokens c = search (fits-ways, rules)

pub returns-in-HoldsText : goal.returns-in-HoldsText
returns-in-HoldsText c = search (fits-ways, rules)

pub returns-in-HoldsPlain : goal.returns-in-HoldsPlain
returns-in-HoldsPlain c = search (fits-ways, rules)

pub returns-in-HoldsTime : goal.returns-in-HoldsTime
unfolding fits
returns-in-HoldsTime c = search (fits-ways, rules)

pub returns-in-HoldsBearer : goal.returns-in-HoldsBearer
unfolding fits
returns-in-HoldsBearer c = search (fits-ways, rules)

pub returns-in-HoldsNumber : goal.returns-in-HoldsNumber
returns-in-HoldsNumber c = search (fits-ways, rules)
