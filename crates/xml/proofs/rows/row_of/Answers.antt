use borrow.Author.Rules.{rules}
use Rattle.xml.proofs.Rowing.{row-nothing, row-there}
use Rattle.xml.proofs.rows.row_of.Goals as goal

pub returns : goal.returns
returns c = search (row-nothing, row-there, rules)
