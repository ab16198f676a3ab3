use Rattle.octets.proofs.Writing.{width-ways}
use borrow.Author.Rules.{rules}
use Rattle.octets.proofs.fits_width.Goals as goal

pub returns-then-width-gt4 : goal.returns-then-width-gt4
returns-then-width-gt4 c = search (width-ways, rules)

pub overflow_mul-result : goal.overflow_mul-result
overflow_mul-result c = search (width-ways, rules)

pub overflow_shr-result : goal.overflow_shr-result
overflow_shr-result c = search (width-ways, rules)

pub returns : goal.returns
returns c = search (width-ways, rules)
