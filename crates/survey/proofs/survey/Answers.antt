use Rattle.survey.proofs.Surveying.{survey-ways}
use borrow.Author.Rules.{rules}
use Rattle.survey.proofs.survey.Goals as goal

pub returns-then-counts-places : goal.returns-then-counts-places
returns-then-counts-places c = search (survey-ways, rules)

pub returns-then-is_sufficient : goal.returns-then-is_sufficient
returns-then-is_sufficient c = search (survey-ways, rules)

pub returns-in-Err : goal.returns-in-Err
returns-in-Err c = search (survey-ways, rules)

pub returns-else-is_sufficient : goal.returns-else-is_sufficient
returns-else-is_sufficient c = search (survey-ways, rules)
