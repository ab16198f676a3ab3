use borrow.Author.Rules.{rules}
use Rattle.xml.proofs.Rowing.{text-ways}
use Rattle.xml.proofs.rows.put_text.Goals as goal

pub returns-then-end-s : goal.returns-then-end-s
returns-then-end-s c = search (text-ways, rules)

pub loop-i-preserved : goal.loop-i-preserved
loop-i-preserved c = search (text-ways, rules)

pub returns : goal.returns
returns c = search (text-ways, rules)
