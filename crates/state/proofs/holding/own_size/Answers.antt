use Rattle.state.proofs.Checks.{own-ways}
use borrow.Author.Rules.{rules}
use Rattle.state.proofs.holding.own_size.Goals as goal

pub returns-then-holds_items : goal.returns-then-holds_items
returns-then-holds_items c = search (own-ways, rules)

pub returns : goal.returns
returns c = search (own-ways, rules)
