use Rattle.text.proofs.RunLaws.{eight-within}
use borrow.Author.Rules.{rules}
use Rattle.text.proofs.runs.are_eight_within.Goals as goal

pub returns : goal.returns
returns c = search (eight-within, rules)
