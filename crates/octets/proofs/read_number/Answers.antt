use Rattle.octets.proofs.Reading.{number-ways}
use borrow.Author.Rules.{rules}
use Rattle.octets.proofs.read_number.Goals as goal

pub returns-then-s-gt4 : goal.returns-then-s-gt4
returns-then-s-gt4 c = search (number-ways, rules)

pub value_of-requires : goal.value_of-requires
value_of-requires c = search (number-ways, rules)

pub returns : goal.returns
returns c = search (number-ways, rules)
