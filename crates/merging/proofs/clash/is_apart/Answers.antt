use Rattle.merging.proofs.ClashWays.{apart-ways}
use borrow.Author.Rules.{rules}
use Rattle.merging.proofs.clash.is_apart.Goals as goal

pub returns-then-is_none : goal.returns-then-is_none
returns-then-is_none c = search (apart-ways, rules)

pub returns-then-is_none-2 : goal.returns-then-is_none-2
returns-then-is_none-2 c = search (apart-ways, rules)

pub returns : goal.returns
returns c = search (apart-ways, rules)
