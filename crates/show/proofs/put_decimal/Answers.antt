use Rattle.show.proofs.Writing.{put-ways}
use borrow.Author.Rules.{rules}
use Rattle.show.proofs.put_decimal.Goals as goal

pub decimal_size-requires : goal.decimal_size-requires
decimal_size-requires c = search (put-ways, rules)

pub has_room-requires : goal.has_room-requires
has_room-requires c = search (put-ways, rules)

pub returns-then-not-has_room : goal.returns-then-not-has_room
returns-then-not-has_room c = search (put-ways, rules)

pub store_decimal-requires : goal.store_decimal-requires
store_decimal-requires c = search (put-ways, rules)

pub shape_of-out : goal.shape_of-out
shape_of-out c = search (put-ways, rules)

pub returns : goal.returns
returns c = search (put-ways, rules)
