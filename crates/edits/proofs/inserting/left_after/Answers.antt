use Rattle.edits.proofs.InsertLeaves.{left-ways}
use borrow.Author.Rules.{rules}
use Rattle.edits.proofs.inserting.left_after.Goals as goal

pub returns-then-left-eq0 : goal.returns-then-left-eq0
returns-then-left-eq0 c = search (left-ways, rules)

pub returns-then-counts_at : goal.returns-then-counts_at
returns-then-counts_at c = search (left-ways, rules)

pub returns : goal.returns
returns c = search (left-ways, rules)
