use Rattle.edits.proofs.InsertLeaves.{there-ways}
use borrow.Author.Rules.{rules}
use Rattle.edits.proofs.inserting.tag_there.Goals as goal

pub returns-then-next-n : goal.returns-then-next-n
returns-then-next-n c = search (there-ways, rules)

pub returns-then-depths-next : goal.returns-then-depths-next
returns-then-depths-next c = search (there-ways, rules)

pub returns : goal.returns
returns c = search (there-ways, rules)
