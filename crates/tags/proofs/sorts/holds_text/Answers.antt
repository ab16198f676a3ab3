use Rattle.tags.proofs.Listing.{text-ways}
use borrow.Author.Rules.{rules}
use Rattle.tags.proofs.sorts.holds_text.Goals as goal

pub returns-in-None : goal.returns-in-None
returns-in-None c = search (text-ways, rules)

pub returns-in-HoldsText : goal.returns-in-HoldsText
returns-in-HoldsText c = search (text-ways, rules)

pub returns-in_default : goal.returns-in_default
returns-in_default c = search (text-ways, rules)
