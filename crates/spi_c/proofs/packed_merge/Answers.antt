use Rattle.spi_c.specs.Packed.{packed_merge}
use borrow.Author.Tests.{eq-eqb, ne_eqb}
use Rattle.spi_c.proofs.packed_merge.Goals as goal

pub returns-then-o-eq0 : goal.returns-then-o-eq0
unfolding packed_merge
returns-then-o-eq0 c = rw (eq-eqb _ 0 c.if-o-eq0.true) c.packed_counts.ensures

pub returns : goal.returns
unfolding packed_merge
returns c = rw (ne_eqb _ 0 c.if-o-eq0.false) c.packed.ensures
