use Rattle.show.specs.Lines.{ascii, refusal_line}
use Rattle.show.proofs.Writing.{room_word, room_after, line-more, line-ways, refusal-room}
use borrow.Author.Rules.{rules}
use Rattle.show.proofs.store_refusal.Goals as goal

pub octets_word-number-requires : goal.octets_word-number-requires
unfolding ascii refusal_line
octets_word-number-requires c = search (line-ways, refusal-room, rules)

pub number_word-word-requires : goal.number_word-word-requires
unfolding ascii refusal_line
number_word-word-requires c = room_word (room_after (refusal-room c.args.r _ c.args.out.now c.requires) c.octets_word-number.ensures)

pub octets_word-place-requires : goal.octets_word-place-requires
unfolding ascii refusal_line
octets_word-place-requires c =
    room_word (room_after (room_after (refusal-room c.args.r _ c.args.out.now c.requires) c.octets_word-number.ensures) c.number_word-word.ensures)

pub store_place-requires : goal.store_place-requires
unfolding ascii refusal_line
store_place-requires c =
    let word = room_after (refusal-room c.args.r _ c.args.out.now c.requires) c.octets_word-number.ensures in
    (room_after (room_after word c.number_word-word.ensures) c.octets_word-place.ensures).fits

pub returns : goal.returns
unfolding ascii refusal_line
returns c =
    line-more _ _ _ _ _ _ _ _ _ c.octets_word-number.ensures
    (line-more _ _ _ _ _ _ _ _ _ c.number_word-word.ensures (line-more _ _ _ _ _ _ _ _ _ c.octets_word-place.ensures c.store_place.ensures))
