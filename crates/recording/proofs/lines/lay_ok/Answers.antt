use Rattle.show.specs.Lines.{ascii}
use Rattle.recording.specs.Lines.{ok_line}
use Rattle.show.proofs.Writing.{line-ways}
use borrow.Author.Rules.{rules}
use Rattle.recording.proofs.lines.lay_ok.Goals as goal

pub octets_word-last-requires : goal.octets_word-last-requires
unfolding ascii
octets_word-last-requires c = search rules

pub returns : goal.returns
unfolding ascii ok_line
returns c = search (line-ways, rules)
