use borrow.Author.Tests.{not-false}
use Rattle.text.proofs.RunLaws.{run-ways}
use borrow.Author.Rules.{rules}
use Rattle.text.proofs.runs.run_end.Goals as goal

pub loop-end-preserved : goal.loop-end-preserved
loop-end-preserved c = search (run-ways, not-false, rules)
