use borrow.Author.Rules.{rules}
use Rattle.values.proofs.Lookup.{join-ways}
use Rattle.values.proofs.table.row_of.Goals as goal

pub loop-i-init : goal.loop-i-init
loop-i-init c = search (join-ways, rules)

pub loop-i-preserved : goal.loop-i-preserved
loop-i-preserved c = search (join-ways, rules)

pub returns : goal.returns
returns c = search (join-ways, rules)
