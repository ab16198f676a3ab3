use borrow.Author.Rules.{rules}
use borrow.Author.Tests.{not-false}
use Rattle.text.proofs.LinkLaws.{link-ways}
use Rattle.text.proofs.links.links_end.Goals as goal

pub loop-n-init : goal.loop-n-init
loop-n-init c = search (link-ways, rules)

pub loop-n-preserved : goal.loop-n-preserved
loop-n-preserved c = search (link-ways, not-false, rules)

pub returns-then-are_linked_at : goal.returns-then-are_linked_at
returns-then-are_linked_at c = search (link-ways, rules)
