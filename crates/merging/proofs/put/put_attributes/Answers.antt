use borrow.Author.Rules.{rules}
use Rattle.merging.proofs.Singly.{rise-ways}
use Rattle.merging.proofs.put.put_attributes.Goals as goal

pub loop-tag-init : goal.loop-tag-init
loop-tag-init c = search (rise-ways, rules)

pub loop-tag-preserved : goal.loop-tag-preserved
loop-tag-preserved c = search (rise-ways, rules)

pub returns : goal.returns
returns c = search (rise-ways, rules)
