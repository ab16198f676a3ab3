use Rattle.merging.proofs.ClashWays.{other-ways}
use borrow.Author.Rules.{rules}
use Rattle.merging.proofs.clash.is_other.Goals as goal

pub returns-then-tag-ne6 : goal.returns-then-tag-ne6
returns-then-tag-ne6 c = search (other-ways, rules)

pub returns : goal.returns
returns c = search (other-ways, rules)
