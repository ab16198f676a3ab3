use Rattle.merging.proofs.KeyWays.{bearers-ways}
use borrow.Author.Rules.{rules}
use Rattle.merging.proofs.keys.same_bearers.Goals as goal

pub returns-then-has_foreign : goal.returns-then-has_foreign
returns-then-has_foreign c = search (bearers-ways, rules)

pub returns : goal.returns
returns c = search (bearers-ways, rules)
