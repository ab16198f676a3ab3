use Rattle.text.proofs.RunLaws.{two-eights}
use borrow.Author.Rules.{rules}
use Rattle.text.proofs.runs.are_sixteen_plain.Goals as goal

pub returns : goal.returns
returns c = search (two-eights, rules)
