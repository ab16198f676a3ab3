use Rattle.xml.proofs.Holding.{leaf-ways}
use borrow.Author.Rules.{rules}
use Rattle.xml.proofs.walk.put_leaf.Goals as goal

pub returns-then-put_text-eq0 : goal.returns-then-put_text-eq0
returns-then-put_text-eq0 c = search (leaf-ways, rules)

pub returns : goal.returns
returns c = search (leaf-ways, rules)
