use Rattle.text.proofs.RunLaws.{check-ways}
use borrow.Author.Rules.{rules}
use Rattle.text.proofs.characters.check.Goals as goal

pub loop-at-init : goal.loop-at-init
loop-at-init c = search (check-ways, rules)

pub returns-then-from-s : goal.returns-then-from-s
returns-then-from-s c = search (check-ways, rules)

pub returns-then-end-eq0 : goal.returns-then-end-eq0
returns-then-end-eq0 c = search (check-ways, rules)

pub overflow_add-at : goal.overflow_add-at
overflow_add-at c = search (check-ways, rules)

pub loop-at-preserved : goal.loop-at-preserved
loop-at-preserved c = search (check-ways, rules)

pub returns : goal.returns
returns c = search (check-ways, rules)
