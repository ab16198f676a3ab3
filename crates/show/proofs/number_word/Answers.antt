use Rattle.show.proofs.Writing.{word-ways}
use borrow.Author.Rules.{rules}
use Rattle.show.proofs.number_word.Goals as goal

pub store_decimal-to-requires : goal.store_decimal-to-requires
store_decimal-to-requires c = search (word-ways, rules)

pub bounds-out-to : goal.bounds-out-to
bounds-out-to c = search (word-ways, rules)

pub overflow_add-result : goal.overflow_add-result
overflow_add-result c = search (word-ways, rules)

pub shape_of-out : goal.shape_of-out
shape_of-out c = search (word-ways, rules)

pub returns : goal.returns
returns c = search (word-ways, rules)
