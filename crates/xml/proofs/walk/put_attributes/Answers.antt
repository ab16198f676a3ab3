use borrow.Author.Rules.{rules}
use Rattle.xml.proofs.Walking.{rise-none, rise-more, rise-all}
use Rattle.xml.proofs.walk.put_attributes.Goals as goal

pub loop-n-init : goal.loop-n-init
loop-n-init c = search (rise-none, rules)

pub loop-n-preserved : goal.loop-n-preserved
loop-n-preserved c = search (rise-more, rules)

pub returns : goal.returns
returns c = search (rise-all, rules)
