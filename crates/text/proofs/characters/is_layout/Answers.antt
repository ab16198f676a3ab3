use Rattle.text.proofs.Sequences.{layout-ways}
use borrow.Author.Rules.{rules}
use Rattle.text.proofs.characters.is_layout.Goals as goal

pub returns-then-b-eq9 : goal.returns-then-b-eq9
returns-then-b-eq9 c = search (layout-ways, rules)

pub returns-then-b-eq10 : goal.returns-then-b-eq10
returns-then-b-eq10 c = search (layout-ways, rules)

pub returns : goal.returns
returns c = search (layout-ways, rules)
