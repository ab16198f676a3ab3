use borrow.Author.Rules.{rules}
use Rattle.text.specs.Runs.{within}
use Rattle.text.proofs.runs.is_within.Goals as goal

pub returns : goal.returns
unfolding within
returns c = search rules
