use Rattle.edits.proofs.InsertLeaves.{stops-ways}
use borrow.Author.Rules.{rules}
use Rattle.edits.proofs.inserting.stops_at.Goals as goal

pub returns-then-depth-level : goal.returns-then-depth-level
returns-then-depth-level c = search (stops-ways, rules)

pub returns-then-not-counts_at : goal.returns-then-not-counts_at
returns-then-not-counts_at c = search (stops-ways, rules)

pub returns-then-left-eq0 : goal.returns-then-left-eq0
returns-then-left-eq0 c = search (stops-ways, rules)

pub returns : goal.returns
returns c = search (stops-ways, rules)
