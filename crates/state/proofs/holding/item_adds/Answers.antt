use Rattle.state.proofs.Checks.{adds-nothing, adds-framed}
use borrow.Author.Rules.{rules}
use Rattle.state.proofs.holding.item_adds.Goals as goal

pub returns-then-is_default : goal.returns-then-is_default
returns-then-is_default c = search (adds-nothing, rules)

pub returns : goal.returns
returns c = search (adds-framed, rules)
