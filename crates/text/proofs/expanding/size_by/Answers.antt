use Rattle.text.proofs.Replaced.{by-ways}
use borrow.Author.Rules.{rules}
use Rattle.text.proofs.expanding.size_by.Goals as goal

pub loop-b-init : goal.loop-b-init
loop-b-init c = search (by-ways, rules)

pub returns-then-most-total : goal.returns-then-most-total
returns-then-most-total c = search (by-ways, rules)

pub loop-b-preserved : goal.loop-b-preserved
loop-b-preserved c = search (by-ways, rules)

pub returns : goal.returns
returns c = search (by-ways, rules)
