use borrow.Author.Tests.{not-true, not-false}
use Rattle.xml.proofs.Singled.{name-ways}
use borrow.Author.Rules.{rules}
use Rattle.xml.proofs.single.put_name.Goals as goal

pub returns-then-not-is_attribute : goal.returns-then-not-is_attribute
returns-then-not-is_attribute c = search (name-ways, not-true, rules)

pub returns-in-None : goal.returns-in-None
returns-in-None c = search (name-ways, not-false, rules)

pub returns-in-Some : goal.returns-in-Some
returns-in-Some c = search (name-ways, not-false, rules)
