use Rattle.show.specs.Lines.{ascii, line, header_line, touched_line}
use borrow.Author.Rules.{rules}
use Rattle.show.proofs.put_touched.Goals as goal

pub returns : goal.returns
unfolding ascii header_line touched_line line
returns c = search rules
