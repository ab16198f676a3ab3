use borrow.Author.Rules.{rules}
use Rattle.edits.proofs.InsertLeaves.{found-ways}
use Rattle.edits.proofs.inserting.found_at.Goals as goal

pub returns-then-left-eq0 : goal.returns-then-left-eq0
returns-then-left-eq0 c = search (found-ways, rules)

pub returns : goal.returns
returns c = search (found-ways, rules)
