use Rattle.text.proofs.Replaced.{size-ways}
use borrow.Author.Rules.{rules}
use Rattle.text.proofs.expanding.size_singly.Goals as goal

pub loop-b-init : goal.loop-b-init
loop-b-init c = search (size-ways, rules)

pub returns-then-most-total : goal.returns-then-most-total
returns-then-most-total c = search (size-ways, rules)

pub loop-b-preserved : goal.loop-b-preserved
loop-b-preserved c = search (size-ways, rules)

pub returns : goal.returns
returns c = search (size-ways, rules)
