use Rattle.show.proofs.Writing.{record-length}
use borrow.Author.Rules.{rules}
use Rattle.show.proofs.record_size.Goals as goal

pub overflow_cast-r : goal.overflow_cast-r
overflow_cast-r c = search (record-length, rules)

pub decimal_size-depth-requires : goal.decimal_size-depth-requires
decimal_size-depth-requires c = search (record-length, rules)

pub overflow_cast-r-2 : goal.overflow_cast-r-2
overflow_cast-r-2 c = search (record-length, rules)

pub decimal_size-start-requires : goal.decimal_size-start-requires
decimal_size-start-requires c = search (record-length, rules)

pub overflow_cast-r-3 : goal.overflow_cast-r-3
overflow_cast-r-3 c = search (record-length, rules)

pub decimal_size-size-requires : goal.decimal_size-size-requires
decimal_size-size-requires c = search (record-length, rules)

pub overflow_add-all : goal.overflow_add-all
overflow_add-all c = search (record-length, rules)

pub kind_size-requires : goal.kind_size-requires
kind_size-requires c = search (record-length, rules)

pub overflow_add-all-2 : goal.overflow_add-all-2
overflow_add-all-2 c = search (record-length, rules)

pub overflow_add-all-3 : goal.overflow_add-all-3
overflow_add-all-3 c = search (record-length, rules)

pub overflow_add-all-4 : goal.overflow_add-all-4
overflow_add-all-4 c = search (record-length, rules)

pub returns : goal.returns
returns c = search (record-length, rules)
