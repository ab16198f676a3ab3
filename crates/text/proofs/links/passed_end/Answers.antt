use borrow.Author.Rules.{rules}
use Rattle.text.proofs.LinkLaws.{pass-ways}
use Rattle.text.proofs.links.passed_end.Goals as goal

pub returns-then-s-lt18 : goal.returns-then-s-lt18
returns-then-s-lt18 c = search (pass-ways, rules)

pub returns : goal.returns
returns c = search (pass-ways, rules)
