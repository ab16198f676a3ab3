use Rattle.survey.proofs.Parts.{part-ways}
use borrow.Author.Rules.{rules}
use Rattle.survey.proofs.measure.part_of.Goals as goal

pub returns-then-is_default : goal.returns-then-is_default
returns-then-is_default c = search (part-ways, rules)

pub returns-in-Nothing : goal.returns-in-Nothing
returns-in-Nothing c = search (part-ways, rules)

pub returns-in-Inside : goal.returns-in-Inside
returns-in-Inside c = search (part-ways, rules)

pub returns-else-is_default : goal.returns-else-is_default
returns-else-is_default c = search (part-ways, rules)
