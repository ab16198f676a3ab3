use Rattle.show.specs.Lines.{ascii, records_line}
use Rattle.show.proofs.Writing.{line-ways, records-room}
use borrow.Author.Rules.{rules}
use Rattle.show.proofs.store_records.Goals as goal

pub octets_word-to-requires : goal.octets_word-to-requires
unfolding ascii records_line
octets_word-to-requires c = search (line-ways, records-room, rules)

pub number_word-requires : goal.number_word-requires
unfolding ascii records_line
number_word-requires c = search (line-ways, records-room, rules)

pub returns : goal.returns
unfolding ascii records_line
returns c = search (line-ways, records-room, rules)
