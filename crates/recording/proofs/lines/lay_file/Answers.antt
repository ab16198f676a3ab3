use Rattle.show.specs.Lines.{ascii}
use Rattle.recording.specs.Lines.{file_line}
use Rattle.show.proofs.Writing.{line-ways}
use borrow.Author.Rules.{rules}
use Rattle.recording.proofs.lines.lay_file.Goals as goal

pub octets_word-number-requires : goal.octets_word-number-requires
unfolding ascii
octets_word-number-requires c = search rules

pub returns : goal.returns
unfolding ascii file_line
returns c = search (line-ways, rules)
