use Rattle.state.proofs.Checks.{lies-ways}
use borrow.Author.Rules.{rules}
use Rattle.state.proofs.holding.lies_to.Goals as goal

pub returns-then-start-size-eq0 : goal.returns-then-start-size-eq0
returns-then-start-size-eq0 c = search (lies-ways, rules)

pub returns-in-Nothing : goal.returns-in-Nothing
returns-in-Nothing c = search (lies-ways, rules)

pub returns-else-start-size-eq0 : goal.returns-else-start-size-eq0
returns-else-start-size-eq0 c = search (lies-ways, rules)
