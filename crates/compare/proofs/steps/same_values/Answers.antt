use Rattle.compare.proofs.Stepping.{values-ways}
use borrow.Author.Rules.{rules}
use Rattle.compare.proofs.steps.same_values.Goals as goal

pub returns-in_default : goal.returns-in_default
returns-in_default c = search (values-ways, rules)

pub returns : goal.returns
returns c = search (values-ways, rules)
