use Rattle.survey.proofs.WrittenAs.{as-ways}
use borrow.Author.Rules.{rules}
use Rattle.survey.proofs.written.written_as.Goals as goal

pub returns-then-tag-eq4 : goal.returns-then-tag-eq4
returns-then-tag-eq4 c = search (as-ways, rules)

pub returns-then-is_default : goal.returns-then-is_default
returns-then-is_default c = search (as-ways, rules)

pub returns : goal.returns
returns c = search (as-ways, rules)
