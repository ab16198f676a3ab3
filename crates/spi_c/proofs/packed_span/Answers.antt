use Rattle.spi_c.specs.Packed.{packed_span}
use borrow.Author.Rules.{rules}
use Rattle.spi_c.proofs.packed_span.Goals as goal

pub returns : goal.returns
unfolding packed_span
returns c = search rules
