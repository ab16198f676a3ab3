use Rattle.show.specs.Lines.{ascii}
use Rattle.show.proofs.Writing.{room_word, room_after, room-last, line-ways, place-room, place-ways}
use borrow.Author.Rules.{rules}
use Rattle.show.proofs.store_place.Goals as goal

pub number_word-requires : goal.number_word-requires
number_word-requires c = search (line-ways, place-ways, rules)

pub returns-then-r-ne9 : goal.returns-then-r-ne9
returns-then-r-ne9 c = search (line-ways, place-ways, rules)

pub number_word-word-requires : goal.number_word-word-requires
number_word-word-requires c = room_word (place-room c.args.r c.if-r-ne9.false _ c.args.out.now c.requires)

pub octets_word-field-requires : goal.octets_word-field-requires
unfolding ascii
octets_word-field-requires c = room_word (room_after (place-room c.args.r c.if-r-ne9.false _ c.args.out.now c.requires) c.number_word-word.ensures)

pub number_word-requires-2 : goal.number_word-requires-2
unfolding ascii
number_word-requires-2 c =
    room-last
    (room_after (room_after (place-room c.args.r c.if-r-ne9.false _ c.args.out.now c.requires) c.number_word-word.ensures) c.octets_word-field.ensures)

pub returns : goal.returns
unfolding ascii
returns c = search (line-ways, place-ways, rules)
