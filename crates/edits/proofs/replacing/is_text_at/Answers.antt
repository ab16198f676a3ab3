use Rattle.edits.proofs.TextLeaves.{at-ways}
use borrow.Author.Rules.{rules}
use Rattle.edits.proofs.replacing.is_text_at.Goals as goal

pub returns-then-number-eq0 : goal.returns-then-number-eq0
returns-then-number-eq0 c = search (at-ways, rules)

pub returns-then-number-n : goal.returns-then-number-n
returns-then-number-n c = search (at-ways, rules)

pub returns : goal.returns
returns c = search (at-ways, rules)
