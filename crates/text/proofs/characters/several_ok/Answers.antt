use Rattle.text.proofs.Sequences.{several-ways}
use borrow.Author.Rules.{rules}
use Rattle.text.proofs.characters.several_ok.Goals as goal

pub returns-then-rest-eq1 : goal.returns-then-rest-eq1
returns-then-rest-eq1 c = search (several-ways, rules)

pub returns-then-rest-eq2 : goal.returns-then-rest-eq2
returns-then-rest-eq2 c = search (several-ways, rules)

pub returns-then-rest-eq3 : goal.returns-then-rest-eq3
returns-then-rest-eq3 c = search (several-ways, rules)

pub returns : goal.returns
returns c = search (several-ways, rules)
