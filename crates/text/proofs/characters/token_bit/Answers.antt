use Rattle.text.proofs.Sequences.{bit-ways}
use borrow.Author.Rules.{rules}
use Rattle.text.proofs.characters.token_bit.Goals as goal

pub returns-then-b-gt19 : goal.returns-then-b-gt19
returns-then-b-gt19 c = search (bit-ways, rules)

pub returns : goal.returns
returns c = search (bit-ways, rules)
