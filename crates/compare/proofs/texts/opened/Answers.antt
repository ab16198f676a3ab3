use borrow.Author.Rules.{rules}
use Rattle.compare.proofs.Expansions.{open-ways}
use Rattle.compare.proofs.texts.opened.Goals as goal

pub returns-in_default : goal.returns-in_default
returns-in_default c = search (open-ways, rules)

pub loop-at-preserved : goal.loop-at-preserved
loop-at-preserved c = search (open-ways, rules)
