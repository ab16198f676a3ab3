use Rattle.show.proofs.Writing.{line-ways}
use Rattle.recording.proofs.Writing.{place-ways}
use borrow.Author.Rules.{rules}
use Rattle.recording.proofs.lines.lay_place.Goals as goal

pub number_word-requires : goal.number_word-requires
number_word-requires c = search (place-ways, line-ways, rules)

pub shape_of-room-then-r-ne9 : goal.shape_of-room-then-r-ne9
shape_of-room-then-r-ne9 c = search (place-ways, line-ways, rules)

pub returns-then-r-ne9 : goal.returns-then-r-ne9
returns-then-r-ne9 c = search (place-ways, line-ways, rules)

pub number_word-field-requires : goal.number_word-field-requires
number_word-field-requires c = search (place-ways, line-ways, rules)

pub overflow_cast-r : goal.overflow_cast-r
overflow_cast-r c = search (place-ways, line-ways, rules)

pub number_word-requires-2 : goal.number_word-requires-2
number_word-requires-2 c = search (place-ways, line-ways, rules)

pub shape_of-room : goal.shape_of-room
shape_of-room c = search (place-ways, line-ways, rules)

pub returns : goal.returns
returns c = search (place-ways, line-ways, rules)
