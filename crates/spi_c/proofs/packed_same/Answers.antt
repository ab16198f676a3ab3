use borrow.Author.Tests.{eq-eqb, ne_eqb}
use Rattle.spi_c.specs.Packed.{packed_same}
use Rattle.spi_c.proofs.packed_same.Goals as goal

pub returns-then-o : goal.returns-then-o
unfolding packed_same
returns-then-o c = rw (eq-eqb _ 0 c.if-o-eq0.true, c.if-o.true) c.packed.ensures

pub returns-then-o-eq0 : goal.returns-then-o-eq0
unfolding packed_same
returns-then-o-eq0 c = rw (eq-eqb _ 0 c.if-o-eq0.true, c.if-o.false) c.packed-then-o-eq0.ensures

pub returns : goal.returns
unfolding packed_same
returns c = rw (ne_eqb _ 0 c.if-o-eq0.false) c.packed-2.ensures
