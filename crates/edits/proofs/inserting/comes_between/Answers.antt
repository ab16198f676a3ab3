use borrow.Author.Rules.{rules}
use Rattle.edits.proofs.InsertLeaves.{comes-ways}
use Rattle.edits.proofs.inserting.comes_between.Goals as goal

pub returns-then-later-eq6 : goal.returns-then-later-eq6
returns-then-later-eq6 c = search (comes-ways, rules)

pub returns-then-tag-ne6 : goal.returns-then-tag-ne6
returns-then-tag-ne6 c = search (comes-ways, rules)

pub returns : goal.returns
returns c = search (comes-ways, rules)
