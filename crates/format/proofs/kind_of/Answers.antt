use Rattle.format.proofs.Shown.{kind-ways}
use borrow.Author.Rules.{rules}
use Rattle.format.proofs.kind_of.Goals as goal

pub returns-then-is_attribute : goal.returns-then-is_attribute
returns-then-is_attribute c = search (kind-ways, rules)

pub returns-then-tag-eq1 : goal.returns-then-tag-eq1
returns-then-tag-eq1 c = search (kind-ways, rules)

pub returns-else-tag-eq1 : goal.returns-else-tag-eq1
returns-else-tag-eq1 c = search (kind-ways, rules)
