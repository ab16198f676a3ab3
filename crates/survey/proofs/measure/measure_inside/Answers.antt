use Rattle.survey.proofs.InsideSizes.{measures-inside}
use borrow.Author.Rules.{rules}
use Rattle.survey.proofs.measure.measure_inside.Goals as goal

pub returns : goal.returns
returns c = search (measures-inside, rules)
