use Rattle.edits.proofs.InsertLeaves.{element-ways}
use borrow.Author.Rules.{rules}
use Rattle.edits.proofs.inserting.is_element.Goals as goal

pub returns-then-not-is_one_item : goal.returns-then-not-is_one_item
returns-then-not-is_one_item c = search (element-ways, rules)

pub returns : goal.returns
returns c = search (element-ways, rules)
