use Rattle.text.proofs.Widths.{eight-widths}
use borrow.Author.Rules.{rules}
use Rattle.text.proofs.expanding.width_of_eight.Goals as goal

pub returns : goal.returns
returns c = search (eight-widths, rules)
