use borrow.Author.Rules.{rules}
use Rattle.compare.proofs.Sets.{sets-ways}
use Rattle.compare.proofs.items.same_by_tags.Goals as goal

pub loop-tag-init : goal.loop-tag-init
loop-tag-init c = search (sets-ways, rules)

pub returns-then-not-same_attribute : goal.returns-then-not-same_attribute
returns-then-not-same_attribute c = search (sets-ways, rules)

pub loop-tag-preserved : goal.loop-tag-preserved
loop-tag-preserved c = search (sets-ways, rules)

pub returns : goal.returns
returns c = search (sets-ways, rules)
