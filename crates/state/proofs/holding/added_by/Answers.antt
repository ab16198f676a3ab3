use Rattle.state.proofs.Checks.{added-ways}
use borrow.Author.Rules.{rules}
use Rattle.state.proofs.holding.added_by.Goals as goal

pub returns-then-end-store : goal.returns-then-end-store
returns-then-end-store c = search (added-ways, rules)

pub returns : goal.returns
returns c = search (added-ways, rules)
