use Rattle.edits.proofs.InsertLeaves.{child-ways}
use borrow.Author.Rules.{rules}
use Rattle.edits.proofs.inserting.is_child.Goals as goal

pub returns-then-is_attribute : goal.returns-then-is_attribute
returns-then-is_attribute c = search (child-ways, rules)

pub returns-then-tag-eq1 : goal.returns-then-tag-eq1
returns-then-tag-eq1 c = search (child-ways, rules)

pub returns : goal.returns
returns c = search (child-ways, rules)
