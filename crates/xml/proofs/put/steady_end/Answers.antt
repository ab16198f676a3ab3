use borrow.Author.Rules.{rules}
use Rattle.xml.proofs.Putting.{run-begin, run_more}
use Rattle.xml.proofs.put.steady_end.Goals as goal

pub loop-end-init : goal.loop-end-init
loop-end-init c = search (run-begin, rules)

pub loop-end-preserved : goal.loop-end-preserved
loop-end-preserved c = search (run_more, rules)
