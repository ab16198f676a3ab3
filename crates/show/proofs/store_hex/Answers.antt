use Rattle.show.proofs.Writing.{two_ways}
use borrow.Author.Rules.{rules}
use Rattle.show.proofs.store_hex.Goals as goal

pub hex_digit-requires : goal.hex_digit-requires
hex_digit-requires c = search (two_ways, rules)

pub bounds-out-at : goal.bounds-out-at
bounds-out-at c = search (two_ways, rules)

pub hex_digit-requires-2 : goal.hex_digit-requires-2
hex_digit-requires-2 c = search (two_ways, rules)

pub overflow_add-out : goal.overflow_add-out
overflow_add-out c = search (two_ways, rules)

pub bounds-out-at-2 : goal.bounds-out-at-2
bounds-out-at-2 c = search (two_ways, rules)

pub overflow_add-result : goal.overflow_add-result
overflow_add-result c = search (two_ways, rules)

pub shape_of-out : goal.shape_of-out
shape_of-out c = search (two_ways, rules)

pub returns : goal.returns
returns c = search (two_ways, rules)
