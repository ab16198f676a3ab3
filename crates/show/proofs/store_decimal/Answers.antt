use Rattle.show.proofs.Writing.{spell-ways}
use borrow.Author.Rules.{rules}
use Rattle.show.proofs.store_decimal.Goals as goal

pub loop-to-init : goal.loop-to-init
loop-to-init c = search (spell-ways, rules)

pub loop-to-preserved : goal.loop-to-preserved
loop-to-preserved c = search (spell-ways, rules)

pub digit-requires-2 : goal.digit-requires-2
digit-requires-2 c = search (spell-ways, rules)

pub bounds-out-at : goal.bounds-out-at
bounds-out-at c = search (spell-ways, rules)

pub returns : goal.returns
returns c = search (spell-ways, rules)
