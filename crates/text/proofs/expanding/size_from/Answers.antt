use Rattle.text.proofs.Replaced.{eights-ways}
use borrow.Author.Rules.{rules}
use Rattle.text.proofs.expanding.size_from.Goals as goal

pub loop-eight-init : goal.loop-eight-init
loop-eight-init c = search (eights-ways, rules)

pub returns-then-most-total : goal.returns-then-most-total
returns-then-most-total c = search (eights-ways, rules)

pub loop-eight-preserved : goal.loop-eight-preserved
loop-eight-preserved c = search (eights-ways, rules)

pub returns : goal.returns
returns c = search (eights-ways, rules)
