use Rattle.show.proofs.Writing.{put-ways, records-length}
use borrow.Author.Rules.{rules}
use Rattle.show.proofs.put_records.Goals as goal

pub decimal_size-size-requires : goal.decimal_size-size-requires
decimal_size-size-requires c = search (put-ways, records-length, rules)

pub overflow_add-size : goal.overflow_add-size
overflow_add-size c = search (put-ways, records-length, rules)

pub has_room-requires : goal.has_room-requires
has_room-requires c = search (put-ways, records-length, rules)

pub returns-then-not-has_room : goal.returns-then-not-has_room
returns-then-not-has_room c = search (put-ways, records-length, rules)

pub store_records-requires : goal.store_records-requires
store_records-requires c = search (put-ways, records-length, rules)

pub shape_of-out : goal.shape_of-out
shape_of-out c = search (put-ways, records-length, rules)

pub returns : goal.returns
returns c = search (put-ways, records-length, rules)
