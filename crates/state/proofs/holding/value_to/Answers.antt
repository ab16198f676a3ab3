use Rattle.state.proofs.Checks.{value-ways}
use borrow.Author.Rules.{rules}
use Rattle.state.proofs.holding.value_to.Goals as goal

pub returns-then-from-at : goal.returns-then-from-at
returns-then-from-at c = search (value-ways, rules)

pub returns-then-end-store : goal.returns-then-end-store
returns-then-end-store c = search (value-ways, rules)

pub returns-then-is_own : goal.returns-then-is_own
returns-then-is_own c = search (value-ways, rules)

pub returns : goal.returns
returns c = search (value-ways, rules)
