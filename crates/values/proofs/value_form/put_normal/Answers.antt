use Rattle.values.proofs.ValueForm.{kind-puts}
use borrow.Author.Rules.{rules}
use Rattle.values.proofs.value_form.put_normal.Goals as goal

pub returns-in-HoldsItems : goal.returns-in-HoldsItems
returns-in-HoldsItems c = search (kind-puts, rules)

pub returns-in-HoldsTokens : goal.returns-in-HoldsTokens
returns-in-HoldsTokens c = search (kind-puts, rules)

pub returns-in-HoldsText : goal.returns-in-HoldsText
returns-in-HoldsText c = search (kind-puts, rules)

pub returns-in-HoldsPlain : goal.returns-in-HoldsPlain
returns-in-HoldsPlain c = search (kind-puts, rules)

pub returns-in-HoldsTime : goal.returns-in-HoldsTime
returns-in-HoldsTime c = search (kind-puts, rules)

pub returns-in-HoldsBearer : goal.returns-in-HoldsBearer
returns-in-HoldsBearer c = search (kind-puts, rules)

pub returns-in-HoldsNumber : goal.returns-in-HoldsNumber
returns-in-HoldsNumber c = search (kind-puts, rules)
