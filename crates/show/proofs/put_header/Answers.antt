use Rattle.show.specs.Lines.{ascii, line, header_line, touched_line}
use Rattle.show.proofs.Writing.{puts-same}
use borrow.Author.Rules.{rules}
use Rattle.show.proofs.put_header.Goals as goal

pub put_bytes-requires : goal.put_bytes-requires
put_bytes-requires c = search (puts-same, rules)

pub shape_of-out : goal.shape_of-out
shape_of-out c = search (puts-same, rules)

pub returns : goal.returns
unfolding ascii header_line touched_line line
returns c = search (puts-same, rules)
