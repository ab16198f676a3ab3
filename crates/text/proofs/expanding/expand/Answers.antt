use borrow.Author.Tests.{not-true, not-false}
use Rattle.text.proofs.Replaced.{expand-ways}
use borrow.Author.Rules.{rules}
use Rattle.text.proofs.expanding.expand.Goals as goal

pub returns-then-at-out : goal.returns-then-at-out
returns-then-at-out c = search (expand-ways, not-true, not-false, rules)

pub returns-then-not-fits : goal.returns-then-not-fits
returns-then-not-fits c = search (expand-ways, not-true, not-false, rules)

pub write_all-requires : goal.write_all-requires
write_all-requires c = search (expand-ways, not-true, not-false, rules)

pub returns : goal.returns
returns c = search (expand-ways, not-true, not-false, rules)
