use Rattle.edits.proofs.InsertLeaves.{counts-ways}
use borrow.Author.Rules.{rules}
use Rattle.edits.proofs.inserting.counts_at.Goals as goal

pub returns-then-depth-level : goal.returns-then-depth-level
returns-then-depth-level c = search (counts-ways, rules)

pub returns-then-depth-level-gt1 : goal.returns-then-depth-level-gt1
returns-then-depth-level-gt1 c = search (counts-ways, rules)

pub returns-then-is_attribute : goal.returns-then-is_attribute
returns-then-is_attribute c = search (counts-ways, rules)

pub returns : goal.returns
returns c = search (counts-ways, rules)
