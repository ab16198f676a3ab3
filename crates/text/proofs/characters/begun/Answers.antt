use Rattle.text.proofs.ShownLaws.{begun-none, begun-one}
use borrow.Author.Rules.{rules}
use Rattle.text.proofs.characters.begun.Goals as goal

pub returns-then-b-eq2 : goal.returns-then-b-eq2
returns-then-b-eq2 c = search (begun-none, rules)

pub returns : goal.returns
returns c = search (begun-one, rules)
