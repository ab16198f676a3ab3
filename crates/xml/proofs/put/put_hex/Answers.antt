use borrow.Author.Rules.{rules}
use Rattle.xml.proofs.Putting.{spread-more, hex-all}
use Rattle.xml.proofs.put.put_hex.Goals as goal

pub loop-b-preserved : goal.loop-b-preserved
loop-b-preserved c = search (spread-more, rules)

pub returns : goal.returns
returns c = search (hex-all, rules)
