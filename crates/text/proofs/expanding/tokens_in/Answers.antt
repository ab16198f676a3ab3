use Rattle.text.proofs.Replaced.{gather-ways}
use borrow.Author.Rules.{rules}
use Rattle.text.proofs.expanding.tokens_in.Goals as goal

pub loop-b-init : goal.loop-b-init
loop-b-init c = search (gather-ways, rules)

pub loop-b-preserved : goal.loop-b-preserved
loop-b-preserved c = search (gather-ways, rules)

pub returns : goal.returns
returns c = search (gather-ways, rules)
