use Rattle.octets.proofs.Reading.{joined_is}
use borrow.Author.Rules.{rules}
use Rattle.octets.proofs.joined.Goals as goal

pub returns : goal.returns
returns c = search (joined_is, rules)
