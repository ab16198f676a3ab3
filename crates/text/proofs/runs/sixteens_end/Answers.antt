use borrow.Author.Rules.{rules}
use borrow.Author.Tests.{not-false}
use Rattle.text.proofs.RunLaws.{sixteen-ways}
use Rattle.text.proofs.runs.sixteens_end.Goals as goal

pub loop-n-init : goal.loop-n-init
loop-n-init c = search (sixteen-ways, rules)

pub loop-n-preserved : goal.loop-n-preserved
loop-n-preserved c = search (sixteen-ways, not-false, rules)

pub returns-then-are_sixteen_plain : goal.returns-then-are_sixteen_plain
returns-then-are_sixteen_plain c = search (sixteen-ways, rules)
