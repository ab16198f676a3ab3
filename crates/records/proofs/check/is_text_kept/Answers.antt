use Rattle.records.proofs.Bodies.{text-ways}
use borrow.Author.Rules.{rules}
use Rattle.records.proofs.check.is_text_kept.Goals as goal

pub returns-then-tag-ne1 : goal.returns-then-tag-ne1
returns-then-tag-ne1 c = search (text-ways, rules)

pub returns-then-weighed : goal.returns-then-weighed
returns-then-weighed c = search (text-ways, rules)

pub returns-in_default : goal.returns-in_default
returns-in_default c = search (text-ways, rules)

pub returns-else-weighed : goal.returns-else-weighed
returns-else-weighed c = search (text-ways, rules)
