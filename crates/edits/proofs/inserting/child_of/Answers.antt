use Rattle.edits.proofs.InsertLeaves.{of-ways}
use borrow.Author.Rules.{rules}
use Rattle.edits.proofs.inserting.child_of.Goals as goal

pub returns-then-number-n : goal.returns-then-number-n
returns-then-number-n c = search (of-ways, rules)

pub returns-then-not-holds_items : goal.returns-then-not-holds_items
returns-then-not-holds_items c = search (of-ways, rules)

pub returns : goal.returns
returns c = search (of-ways, rules)
