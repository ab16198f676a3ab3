use Rattle.survey.proofs.Listing.{step-ways}
use borrow.Author.Rules.{rules}
use borrow.Author.Rules.{rules}
use Rattle.survey.proofs.look.step_of.Goals as goal

pub returns-in_default : goal.returns-in_default
returns-in_default c = search (step-ways, rules)

pub returns-then-is_sought : goal.returns-then-is_sought
returns-then-is_sought c = search (step-ways, rules)

pub returns-in-HoldsItems : goal.returns-in-HoldsItems
returns-in-HoldsItems c = search (step-ways, rules)

pub returns-in_default-kind : goal.returns-in_default-kind
returns-in_default-kind c = search (step-ways, rules)
