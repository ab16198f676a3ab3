use Rattle.values.proofs.DefaultValues.{has-ways}
use borrow.Author.Rules.{rules}
use Rattle.values.proofs.defaults.has_default.Goals as goal

pub returns-then-parent-eq20 : goal.returns-then-parent-eq20
returns-then-parent-eq20 c = search (has-ways, rules)

pub returns-then-parent-eq28 : goal.returns-then-parent-eq28
returns-then-parent-eq28 c = search (has-ways, rules)

pub returns-then-parent-eq46 : goal.returns-then-parent-eq46
returns-then-parent-eq46 c = search (has-ways, rules)

pub returns : goal.returns
returns c = search (has-ways, rules)
