use Rattle.text.proofs.Widths.{whole-widths}
use borrow.Author.Rules.{rules}
use Rattle.text.proofs.tables.widths_of.Goals as goal

pub returns : goal.returns
returns c = search (whole-widths, rules)
