use Rattle.show.proofs.Writing.{put-ways, length_two}
use borrow.Author.Rules.{rules}
use Rattle.show.proofs.put_hex_upper.Goals as goal

pub has_room-requires : goal.has_room-requires
has_room-requires c = search (put-ways, length_two, rules)

pub returns-then-not-has_room : goal.returns-then-not-has_room
returns-then-not-has_room c = search (put-ways, length_two, rules)

pub store_hex-requires : goal.store_hex-requires
store_hex-requires c = search (put-ways, length_two, rules)

pub shape_of-out : goal.shape_of-out
shape_of-out c = search (put-ways, length_two, rules)

pub returns : goal.returns
returns c = search (put-ways, length_two, rules)
