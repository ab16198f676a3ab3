use Rattle.show.proofs.Writing.{put-ways}
use borrow.Author.Rules.{rules}
use Rattle.show.proofs.put_record_line.Goals as goal

pub record_size-requires : goal.record_size-requires
record_size-requires c = search (put-ways, rules)

pub has_room-requires : goal.has_room-requires
has_room-requires c = search (put-ways, rules)

pub returns-then-not-has_room : goal.returns-then-not-has_room
returns-then-not-has_room c = search (put-ways, rules)

pub store_record-requires : goal.store_record-requires
store_record-requires c = search (put-ways, rules)

pub shape_of-out : goal.shape_of-out
shape_of-out c = search (put-ways, rules)

pub returns : goal.returns
returns c = search (put-ways, rules)
