use Rattle.values.proofs.DefaultValues.{default-ways}
use borrow.Author.Rules.{rules}
use Rattle.values.proofs.defaults.is_default.Goals as goal

pub returns-then-s-ne1 : goal.returns-then-s-ne1
returns-then-s-ne1 c = search (default-ways, rules)

pub returns-then-s-ne1-2 : goal.returns-then-s-ne1-2
returns-then-s-ne1-2 c = search (default-ways, rules)

pub returns : goal.returns
returns c = search (default-ways, rules)
