use Rattle.text.proofs.ShownLaws.{fill-ways}
use borrow.Author.Rules.{rules}
use Rattle.text.proofs.shown.characters_of.Goals as goal

pub returns-then-table-eq0 : goal.returns-then-table-eq0
returns-then-table-eq0 c = search (fill-ways, rules)

pub loop-b-init : goal.loop-b-init
loop-b-init c = search (fill-ways, rules)

pub loop-b-preserved : goal.loop-b-preserved
loop-b-preserved c = search (fill-ways, rules)

pub returns : goal.returns
returns c = search (fill-ways, rules)
