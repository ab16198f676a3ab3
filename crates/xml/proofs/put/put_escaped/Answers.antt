use borrow.Author.Rules.{rules}
use Rattle.xml.proofs.Putting.{escaped-ways}
use Rattle.xml.proofs.put.put_escaped.Goals as goal

pub returns-then-end-s : goal.returns-then-end-s
returns-then-end-s c = search (escaped-ways, rules)

pub loop-i-preserved : goal.loop-i-preserved
loop-i-preserved c = search (escaped-ways, rules)

pub returns : goal.returns
returns c = search (escaped-ways, rules)
