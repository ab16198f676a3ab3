use Rattle.octets.proofs.Puts.{asked-ways}
use borrow.Author.Rules.{rules}
use Rattle.octets.proofs.copy_into.Goals as goal

pub returns-then-not-has_room : goal.returns-then-not-has_room
returns-then-not-has_room c = search (asked-ways, rules)

pub returns : goal.returns
returns c = search (asked-ways, rules)
