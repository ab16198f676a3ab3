use Rattle.octets.proofs.Reading.{value-ways}
use borrow.Author.Rules.{rules}
use Rattle.octets.proofs.value_of.Goals as goal

pub loop-b-init : goal.loop-b-init
loop-b-init c = search (value-ways, rules)

pub joined-n-requires : goal.joined-n-requires
joined-n-requires c = search (value-ways, rules)

pub loop-b-preserved : goal.loop-b-preserved
loop-b-preserved c = search (value-ways, c.type_inv.s c.loop-b.b-index, rules)

pub returns : goal.returns
returns c = search (value-ways, rules)
