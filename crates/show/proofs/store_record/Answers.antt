use Rattle.show.specs.Lines.{ascii, record_line}
use Rattle.show.proofs.Writing.{room_word, room_after, room-last, line-last, line-more, line-ways, record-room}
use borrow.Author.Rules.{rules}
use Rattle.show.proofs.store_record.Goals as goal

pub number_word-tag-requires : goal.number_word-tag-requires
unfolding ascii record_line
number_word-tag-requires c = search (line-ways, record-room, rules)

pub tag_word-kind-requires : goal.tag_word-kind-requires
unfolding ascii record_line
tag_word-kind-requires c = room_word (room_after (record-room c.args.r _ c.args.out.now c.requires) c.number_word-tag.ensures)

pub kind_word-start-requires : goal.kind_word-start-requires
unfolding ascii record_line
kind_word-start-requires c =
    room_word (room_after (room_after (record-room c.args.r _ c.args.out.now c.requires) c.number_word-tag.ensures) c.tag_word-kind.ensures)

pub number_word-size-requires : goal.number_word-size-requires
unfolding ascii record_line
number_word-size-requires c =
    room_word
    (room_after (room_after (room_after (record-room c.args.r _ c.args.out.now c.requires) c.number_word-tag.ensures) c.tag_word-kind.ensures)
    c.kind_word-start.ensures)

pub number_word-requires : goal.number_word-requires
unfolding ascii record_line
number_word-requires c =
    room-last
    (room_after
    (room_after (room_after (room_after (record-room c.args.r _ c.args.out.now c.requires) c.number_word-tag.ensures) c.tag_word-kind.ensures)
    c.kind_word-start.ensures)
    c.number_word-size.ensures)

pub returns : goal.returns
unfolding ascii record_line
returns c =
    line-more _ _ _ _ _ _ _ _ _ c.number_word-tag.ensures
    (line-more _ _ _ _ _ _ _ _ _ c.tag_word-kind.ensures
    (line-more _ _ _ _ _ _ _ _ _ c.kind_word-start.ensures
    (line-more _ _ _ _ _ _ _ _ _ c.number_word-size.ensures (line-last _ _ _ _ _ c.number_word.ensures))))
