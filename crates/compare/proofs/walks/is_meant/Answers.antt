use Rattle.compare.proofs.Walking.{child-ways}
use borrow.Author.Rules.{rules}
use Rattle.compare.proofs.walks.is_meant.Goals as goal

pub returns-then-is_attribute : goal.returns-then-is_attribute
returns-then-is_attribute c = search (child-ways, rules)

pub returns-then-tag-eq1 : goal.returns-then-tag-eq1
returns-then-tag-eq1 c = search (child-ways, rules)

pub returns-in-Nothing : goal.returns-in-Nothing
returns-in-Nothing c = search (child-ways, rules)

pub returns-in-Inside : goal.returns-in-Inside
returns-in-Inside c = search (child-ways, rules)

pub returns-in-Value : goal.returns-in-Value
returns-in-Value c = search (child-ways, rules)
