use Rattle.spi_c.specs.Packed.{packed}
use borrow.Author.Rules.{rules}
use Rattle.spi_c.proofs.packed.Goals as goal

pub returns : goal.returns
unfolding packed
returns c = search rules
