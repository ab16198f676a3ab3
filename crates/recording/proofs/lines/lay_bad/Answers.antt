use Rattle.recording.specs.Lines.{placed, bad_line}
use Rattle.show.proofs.Writing.{line-ways}
use borrow.Author.Rules.{rules}
use Rattle.recording.proofs.lines.lay_bad.Goals as goal

pub returns : goal.returns
unfolding placed bad_line
returns c = search (line-ways, rules)
