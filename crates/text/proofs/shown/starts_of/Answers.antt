use Rattle.text.proofs.ShownLaws.{count-ways}
use borrow.Author.Rules.{rules}
use Rattle.text.proofs.shown.starts_of.Goals as goal

pub loop-b-init : goal.loop-b-init
loop-b-init c = search (count-ways, rules)

pub overflow_add-n : goal.overflow_add-n
overflow_add-n c = search (count-ways, rules)

pub loop-b-preserved : goal.loop-b-preserved
loop-b-preserved c = search (count-ways, rules)

pub returns : goal.returns
returns c = search (count-ways, rules)
