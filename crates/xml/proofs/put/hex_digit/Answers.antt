use Rattle.show.proofs.Writing.{digit_low, digit-high}
use borrow.Author.Rules.{rules}
use Rattle.xml.proofs.put.hex_digit.Goals as goal

pub returns-then-d-lt10 : goal.returns-then-d-lt10
returns-then-d-lt10 c = search (digit_low, rules)

pub returns : goal.returns
returns c = search (digit-high, rules)
