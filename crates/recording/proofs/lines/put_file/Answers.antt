use lib.Seq.{length-take-le}
use Rattle.recording.proofs.Writing.{line-put}
use borrow.Author.Rules.{rules}
use Rattle.recording.proofs.lines.put_file.Goals as goal

pub slice_bounds-copy_into-end : goal.slice_bounds-copy_into-end
slice_bounds-copy_into-end c = search (length-take-le, rules)

pub returns : goal.returns
returns c = search (line-put, rules)
