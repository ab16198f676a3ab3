use Rattle.tags.proofs.Listing.{holds-ways}
use borrow.Author.Rules.{rules}
use Rattle.tags.proofs.sorts.holds_items.Goals as goal

pub returns-in-Inside : goal.returns-in-Inside
returns-in-Inside c = search (holds-ways, rules)

pub returns-in_default : goal.returns-in_default
returns-in_default c = search (holds-ways, rules)
