use borrow.Author.Rules.{rules}
use borrow.Author.Tests.{not-false}
use Rattle.text.proofs.LinkLaws.{cut-ways}
use Rattle.text.proofs.links.linked_end.Goals as goal

pub returns-then-s-end-ge192 : goal.returns-then-s-end-ge192
returns-then-s-end-ge192 c = search (cut-ways, not-false, rules)

pub returns-then-s-end-ge224 : goal.returns-then-s-end-ge224
returns-then-s-end-ge224 c = search (cut-ways, not-false, rules)

pub returns : goal.returns
returns c = search (cut-ways, not-false, rules)
