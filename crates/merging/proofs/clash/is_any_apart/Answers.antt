use Rattle.merging.proofs.ClashWays.{near-ways}
use borrow.Author.Rules.{rules}
use Rattle.merging.proofs.clash.is_any_apart.Goals as goal

pub returns-then-is_apart : goal.returns-then-is_apart
returns-then-is_apart c = search (near-ways, rules)

pub loop-key-preserved : goal.loop-key-preserved
loop-key-preserved c = search (near-ways, rules)

pub returns : goal.returns
returns c = search (near-ways, rules)
