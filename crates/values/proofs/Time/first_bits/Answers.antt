use Rattle.values.proofs.TimeForm.{first-bits}
use borrow.Author.Rules.{rules}
use Rattle.values.proofs.Time.first_bits.Goals as goal

pub returns : goal.returns
returns c = search (first-bits, rules)
