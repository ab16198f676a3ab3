use Rattle.xml.proofs.Singled.{fill-ways}
use borrow.Author.Rules.{rules}
use Rattle.xml.proofs.single.put_item_name.Goals as goal

pub returns-then-end-out : goal.returns-then-end-out
returns-then-end-out c = search (fill-ways, rules)

pub returns : goal.returns
returns c = search (fill-ways, rules)
