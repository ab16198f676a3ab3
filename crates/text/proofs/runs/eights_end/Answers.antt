use borrow.Author.Tests.{not-false}
use Rattle.text.proofs.RunLaws.{run-ways}
use borrow.Author.Rules.{rules}
use Rattle.text.proofs.runs.eights_end.Goals as goal

pub loop-n-init : goal.loop-n-init
loop-n-init c = search (run-ways, rules)

pub loop-n-preserved : goal.loop-n-preserved
loop-n-preserved c = search (run-ways, not-false, rules)
