use Rattle.text.proofs.Index.{width-self, width-by}
use borrow.Author.Rules.{rules}
use Rattle.text.proofs.expanding.indexed_width.Goals as goal

pub returns-in-None : goal.returns-in-None
returns-in-None c = search (width-self, rules)

pub returns-in-Some : goal.returns-in-Some
returns-in-Some c = width-by _ _ _ _ c.replacement.ensures _ _ c.in-Some.is
