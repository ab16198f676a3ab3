use Rattle.edits.proofs.InsertLeaves.{admit-ways}
use borrow.Author.Rules.{rules}
use Rattle.edits.proofs.inserting.admit.Goals as goal

pub returns-in_default : goal.returns-in_default
returns-in_default c = search (admit-ways, rules)

pub returns : goal.returns
returns c = search (admit-ways, rules)
