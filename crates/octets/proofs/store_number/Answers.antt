use Rattle.octets.proofs.Writing.{store-ways}
use borrow.Author.Rules.{rules}
use Rattle.octets.proofs.store_number.Goals as goal

pub loop-i-init : goal.loop-i-init
loop-i-init c = search (store-ways, rules)

pub digit-requires : goal.digit-requires
digit-requires c = search (store-ways, rules)

pub loop-i-preserved : goal.loop-i-preserved
loop-i-preserved c = search (store-ways, rules)

pub returns : goal.returns
returns c = search (store-ways, rules)
