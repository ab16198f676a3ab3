use Rattle.reader.proofs.Reading.{read_whole}
use borrow.Author.Rules.{rules}
use Rattle.reader.proofs.read.Goals as goal

pub returns : goal.returns
returns c = record { claim = search (read_whole, rules); stay = c.read_at_most.ensures.stay }
