use Rattle.show.proofs.Writing.{hex-ways}
use borrow.Author.Rules.{rules}
use Rattle.show.proofs.store_all_hex.Goals as goal

pub loop-b-init : goal.loop-b-init
loop-b-init c = search (hex-ways, rules)

pub store_hex-to-requires : goal.store_hex-to-requires
store_hex-to-requires c = search (hex-ways, rules)

pub loop-b-preserved : goal.loop-b-preserved
loop-b-preserved c = search (hex-ways, rules)

pub shape_of-out : goal.shape_of-out
shape_of-out c = search (hex-ways, rules)

pub returns : goal.returns
returns c = search (hex-ways, rules)
