use Rattle.show.proofs.Writing.{measure-ways}
use borrow.Author.Rules.{rules}
use Rattle.show.proofs.decimal_size.Goals as goal

pub loop-rest-init : goal.loop-rest-init
loop-rest-init c = search (measure-ways, rules)

pub overflow_add-size : goal.overflow_add-size
overflow_add-size c = search (measure-ways, rules)

pub loop-rest-smaller : goal.loop-rest-smaller
loop-rest-smaller c = search (measure-ways, rules)

pub loop-rest-preserved : goal.loop-rest-preserved
loop-rest-preserved c = search (measure-ways, rules)

pub returns : goal.returns
returns c = search (measure-ways, rules)
